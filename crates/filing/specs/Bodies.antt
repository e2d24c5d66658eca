-- What a body adds to the pools, by the plan of its kind.
use Rattle.std.specs.Prelude.{◌≡◌, ℕ, List}
use Rattle.formats.specs.Spelled.{wide_bytes}
use Rattle.columns.specs.Contents.{values_in}
use Rattle.pools.specs.declared.pools.Pools.{Pools}
use Rattle.pools.specs.Laid.{halves_in, entries_in}
use Rattle.pools.specs.Used.{Fit, Gains}
use Rattle.filing.specs.Plans.{Plan}

-- so many more entries fit
pub record BodyRoom (p : Pools) (x : Plan) : Type 0 where
  pub shorts : Fit p.shorts x.shorts
  pub words : Fit p.words x.words
  pub longs : Fit p.longs x.longs
  pub offsets : Fit p.offsets x.offsets
  pub views : Fit p.views x.views

-- p has gained what the body holds, and is q
pub record BodyGained (p : Pools) (x : Plan) (body : List ℕ) (q : Pools) : Type 0 where
  pub columns : q.columns ≡ p.columns
  pub nodes : q.nodes ≡ p.nodes
  pub bytes : q.bytes ≡ p.bytes
  pub shorts : Gains p.shorts (values_in 2 x.shorts body) q.shorts
  pub words : Gains p.words (values_in 4 x.words body) q.words
  pub longs : Gains p.longs (values_in 8 x.longs body) q.longs
  pub offsets : Gains p.offsets (values_in (wide_bytes x.wide) x.offsets body) q.offsets
  pub views : Gains p.views (entries_in halves_in 16 x.views body) q.views
  pub lists : q.lists ≡ p.lists
  pub buffers : q.buffers ≡ p.buffers
