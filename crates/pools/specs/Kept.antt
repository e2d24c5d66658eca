-- Pools with their marks in range, and pools that have only grown.
use Rattle.std.specs.Prelude.{◌≤◌, length}
use Rattle.pools.specs.declared.pool.Pool.{Pool}
use Rattle.pools.specs.declared.pools.Pools.{Pools}
use Rattle.pools.specs.declared.pools.Marks.{Marks}
use Rattle.pools.specs.Grown.{most_entries}
use Rattle.pools.specs.Used.{Fit, Keeps}

pub record Standing {X : Type 0} (p : Pool X) : Type 0 where
  pub fits : p.mark ≤ length p.lent.now
  pub capped : p.mark ≤ most_entries

pub record Ready (p : Pools) : Type 0 where
  pub columns : Standing p.columns
  pub nodes : Standing p.nodes
  pub bytes : Standing p.bytes
  pub shorts : Standing p.shorts
  pub words : Standing p.words
  pub longs : Standing p.longs
  pub offsets : Standing p.offsets
  pub views : Standing p.views
  pub lists : Standing p.lists
  pub buffers : Standing p.buffers

-- what p has below its marks stands in q
pub record Kept (p q : Pools) : Type 0 where
  pub columns : Keeps p.columns q.columns
  pub nodes : Keeps p.nodes q.nodes
  pub bytes : Keeps p.bytes q.bytes
  pub shorts : Keeps p.shorts q.shorts
  pub words : Keeps p.words q.words
  pub longs : Keeps p.longs q.longs
  pub offsets : Keeps p.offsets q.offsets
  pub views : Keeps p.views q.views
  pub lists : Keeps p.lists q.lists
  pub buffers : Keeps p.buffers q.buffers

-- so many more entries of each pool fit
pub record RoomFor (p : Pools) (needs : Marks) : Type 0 where
  pub columns : Fit p.columns needs.columns
  pub nodes : Fit p.nodes needs.nodes
  pub bytes : Fit p.bytes needs.bytes
  pub shorts : Fit p.shorts needs.shorts
  pub words : Fit p.words needs.words
  pub longs : Fit p.longs needs.longs
  pub offsets : Fit p.offsets needs.offsets
  pub views : Fit p.views needs.views
  pub lists : Fit p.lists needs.lists
  pub buffers : Fit p.buffers needs.buffers
