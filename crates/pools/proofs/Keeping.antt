-- Pools that only grow: what is kept, and what is stored then.
use Rattle.std.proofs.Common.{ℕ, List, length}
use Rattle.columns.specs.Column.{Column}
use Rattle.pools.specs.declared.records.Part.{Part}
use Rattle.pools.specs.declared.records.View.{View}
use Rattle.pools.specs.declared.records.Node.{Node}
use Rattle.pools.specs.declared.records.ColumnEntry.{ColumnEntry}
use Rattle.pools.specs.declared.pool.Pool.{Pool}
use Rattle.pools.specs.declared.pools.Pools.{Pools}
use Rattle.pools.specs.Used.{Fit, Gains, Keeps}
use Rattle.pools.specs.Kept.{Standing, Ready, Kept}
use Rattle.pools.specs.Store.{Store, Extends, store}
use Rattle.pools.specs.Stored.{Stored}
use Rattle.pools.proofs.Growing.{longer_none, longer_then, longer_grown}
use Rattle.pools.proofs.Fronts.{front_none, front_then, front_longer}
use Rattle.pools.proofs.Staying.{stored_on}

-- one pool
pub keeps_none : {X : Type 0} {p : Pool X} → Standing p → Keeps p p
keeps_none s = longer_none s.fits s.capped

pub keeps_grown : {X : Type 0} {p : Pool X} (q : Pool X) {new : List X} → Fit p (length new) → Gains p new q → Keeps p q
keeps_grown q f g = longer_grown f.lent f.capped g

pub standing_after : {X : Type 0} (p q : Pool X) → Keeps p q → Standing q
standing_after p q k = record { fits = k.fits; capped = k.capped }

-- all ten
pub kept_none : {p : Pools} → Ready p → Kept p p
kept_none r =
    record {
      columns = keeps_none r.columns;
      nodes = keeps_none r.nodes;
      bytes = keeps_none r.bytes;
      shorts = keeps_none r.shorts;
      words = keeps_none r.words;
      longs = keeps_none r.longs;
      offsets = keeps_none r.offsets;
      views = keeps_none r.views;
      lists = keeps_none r.lists;
      buffers = keeps_none r.buffers;
    }

pub kept_then : {p q s : Pools} → Kept p q → Kept q s → Kept p s
kept_then a b =
    record {
      columns = longer_then a.columns b.columns;
      nodes = longer_then a.nodes b.nodes;
      bytes = longer_then a.bytes b.bytes;
      shorts = longer_then a.shorts b.shorts;
      words = longer_then a.words b.words;
      longs = longer_then a.longs b.longs;
      offsets = longer_then a.offsets b.offsets;
      views = longer_then a.views b.views;
      lists = longer_then a.lists b.lists;
      buffers = longer_then a.buffers b.buffers;
    }

pub ready_after : {p q : Pools} → Kept p q → Ready q
ready_after {p} {q} k =
    record {
      columns = standing_after p.columns q.columns k.columns;
      nodes = standing_after p.nodes q.nodes k.nodes;
      bytes = standing_after p.bytes q.bytes k.bytes;
      shorts = standing_after p.shorts q.shorts k.shorts;
      words = standing_after p.words q.words k.words;
      longs = standing_after p.longs q.longs k.longs;
      offsets = standing_after p.offsets q.offsets k.offsets;
      views = standing_after p.views q.views k.views;
      lists = standing_after p.lists q.lists k.lists;
      buffers = standing_after p.buffers q.buffers k.buffers;
    }

pub extends_none : {P : Store} → Extends P P
extends_none {P} =
    record {
      columns = front_none P.columns;
      nodes = front_none P.nodes;
      bytes = front_none P.bytes;
      shorts = front_none P.shorts;
      words = front_none P.words;
      longs = front_none P.longs;
      offsets = front_none P.offsets;
      views = front_none P.views;
      lists = front_none P.lists;
      buffers = front_none P.buffers;
    }

pub extends_then : {P Q R : Store} → Extends P Q → Extends Q R → Extends P R
extends_then a b =
    record {
      columns = front_then a.columns b.columns;
      nodes = front_then a.nodes b.nodes;
      bytes = front_then a.bytes b.bytes;
      shorts = front_then a.shorts b.shorts;
      words = front_then a.words b.words;
      longs = front_then a.longs b.longs;
      offsets = front_then a.offsets b.offsets;
      views = front_then a.views b.views;
      lists = front_then a.lists b.lists;
      buffers = front_then a.buffers b.buffers;
    }

pub kept_extends : {p q : Pools} → Kept p q → Extends (store p) (store q)
kept_extends k =
    record {
      columns = front_longer k.columns;
      nodes = front_longer k.nodes;
      bytes = front_longer k.bytes;
      shorts = front_longer k.shorts;
      words = front_longer k.words;
      longs = front_longer k.longs;
      offsets = front_longer k.offsets;
      views = front_longer k.views;
      lists = front_longer k.lists;
      buffers = front_longer k.buffers;
    }

pub stored_kept : {p q : Pools} → Kept p q → (i : ℕ) (c : Column) → Stored (store p) i c → Stored (store q) i c
stored_kept k = stored_on (kept_extends k)

-- one pool grows, and the others stay
pub on_columns : {p : Pools} {b : Pool ColumnEntry} → Ready p → Keeps p.columns b →
    Kept p (record { columns = b; nodes = p.nodes; bytes = p.bytes; shorts = p.shorts; words = p.words; longs = p.longs; offsets = p.offsets; views = p.views; lists = p.lists; buffers = p.buffers })
on_columns r k =
    record {
      columns = k;
      nodes = keeps_none r.nodes;
      bytes = keeps_none r.bytes;
      shorts = keeps_none r.shorts;
      words = keeps_none r.words;
      longs = keeps_none r.longs;
      offsets = keeps_none r.offsets;
      views = keeps_none r.views;
      lists = keeps_none r.lists;
      buffers = keeps_none r.buffers;
    }

pub on_nodes : {p : Pools} {b : Pool Node} → Ready p → Keeps p.nodes b →
    Kept p (record { columns = p.columns; nodes = b; bytes = p.bytes; shorts = p.shorts; words = p.words; longs = p.longs; offsets = p.offsets; views = p.views; lists = p.lists; buffers = p.buffers })
on_nodes r k =
    record {
      columns = keeps_none r.columns;
      nodes = k;
      bytes = keeps_none r.bytes;
      shorts = keeps_none r.shorts;
      words = keeps_none r.words;
      longs = keeps_none r.longs;
      offsets = keeps_none r.offsets;
      views = keeps_none r.views;
      lists = keeps_none r.lists;
      buffers = keeps_none r.buffers;
    }

pub on_bytes : {p : Pools} {b : Pool ℕ} → Ready p → Keeps p.bytes b →
    Kept p (record { columns = p.columns; nodes = p.nodes; bytes = b; shorts = p.shorts; words = p.words; longs = p.longs; offsets = p.offsets; views = p.views; lists = p.lists; buffers = p.buffers })
on_bytes r k =
    record {
      columns = keeps_none r.columns;
      nodes = keeps_none r.nodes;
      bytes = k;
      shorts = keeps_none r.shorts;
      words = keeps_none r.words;
      longs = keeps_none r.longs;
      offsets = keeps_none r.offsets;
      views = keeps_none r.views;
      lists = keeps_none r.lists;
      buffers = keeps_none r.buffers;
    }

pub on_shorts : {p : Pools} {b : Pool ℕ} → Ready p → Keeps p.shorts b →
    Kept p (record { columns = p.columns; nodes = p.nodes; bytes = p.bytes; shorts = b; words = p.words; longs = p.longs; offsets = p.offsets; views = p.views; lists = p.lists; buffers = p.buffers })
on_shorts r k =
    record {
      columns = keeps_none r.columns;
      nodes = keeps_none r.nodes;
      bytes = keeps_none r.bytes;
      shorts = k;
      words = keeps_none r.words;
      longs = keeps_none r.longs;
      offsets = keeps_none r.offsets;
      views = keeps_none r.views;
      lists = keeps_none r.lists;
      buffers = keeps_none r.buffers;
    }

pub on_words : {p : Pools} {b : Pool ℕ} → Ready p → Keeps p.words b →
    Kept p (record { columns = p.columns; nodes = p.nodes; bytes = p.bytes; shorts = p.shorts; words = b; longs = p.longs; offsets = p.offsets; views = p.views; lists = p.lists; buffers = p.buffers })
on_words r k =
    record {
      columns = keeps_none r.columns;
      nodes = keeps_none r.nodes;
      bytes = keeps_none r.bytes;
      shorts = keeps_none r.shorts;
      words = k;
      longs = keeps_none r.longs;
      offsets = keeps_none r.offsets;
      views = keeps_none r.views;
      lists = keeps_none r.lists;
      buffers = keeps_none r.buffers;
    }

pub on_longs : {p : Pools} {b : Pool ℕ} → Ready p → Keeps p.longs b →
    Kept p (record { columns = p.columns; nodes = p.nodes; bytes = p.bytes; shorts = p.shorts; words = p.words; longs = b; offsets = p.offsets; views = p.views; lists = p.lists; buffers = p.buffers })
on_longs r k =
    record {
      columns = keeps_none r.columns;
      nodes = keeps_none r.nodes;
      bytes = keeps_none r.bytes;
      shorts = keeps_none r.shorts;
      words = keeps_none r.words;
      longs = k;
      offsets = keeps_none r.offsets;
      views = keeps_none r.views;
      lists = keeps_none r.lists;
      buffers = keeps_none r.buffers;
    }

pub on_offsets : {p : Pools} {b : Pool ℕ} → Ready p → Keeps p.offsets b →
    Kept p (record { columns = p.columns; nodes = p.nodes; bytes = p.bytes; shorts = p.shorts; words = p.words; longs = p.longs; offsets = b; views = p.views; lists = p.lists; buffers = p.buffers })
on_offsets r k =
    record {
      columns = keeps_none r.columns;
      nodes = keeps_none r.nodes;
      bytes = keeps_none r.bytes;
      shorts = keeps_none r.shorts;
      words = keeps_none r.words;
      longs = keeps_none r.longs;
      offsets = k;
      views = keeps_none r.views;
      lists = keeps_none r.lists;
      buffers = keeps_none r.buffers;
    }

pub on_views : {p : Pools} {b : Pool View} → Ready p → Keeps p.views b →
    Kept p (record { columns = p.columns; nodes = p.nodes; bytes = p.bytes; shorts = p.shorts; words = p.words; longs = p.longs; offsets = p.offsets; views = b; lists = p.lists; buffers = p.buffers })
on_views r k =
    record {
      columns = keeps_none r.columns;
      nodes = keeps_none r.nodes;
      bytes = keeps_none r.bytes;
      shorts = keeps_none r.shorts;
      words = keeps_none r.words;
      longs = keeps_none r.longs;
      offsets = keeps_none r.offsets;
      views = k;
      lists = keeps_none r.lists;
      buffers = keeps_none r.buffers;
    }

pub on_lists : {p : Pools} {b : Pool ℕ} → Ready p → Keeps p.lists b →
    Kept p (record { columns = p.columns; nodes = p.nodes; bytes = p.bytes; shorts = p.shorts; words = p.words; longs = p.longs; offsets = p.offsets; views = p.views; lists = b; buffers = p.buffers })
on_lists r k =
    record {
      columns = keeps_none r.columns;
      nodes = keeps_none r.nodes;
      bytes = keeps_none r.bytes;
      shorts = keeps_none r.shorts;
      words = keeps_none r.words;
      longs = keeps_none r.longs;
      offsets = keeps_none r.offsets;
      views = keeps_none r.views;
      lists = k;
      buffers = keeps_none r.buffers;
    }

pub on_buffers : {p : Pools} {b : Pool Part} → Ready p → Keeps p.buffers b →
    Kept p (record { columns = p.columns; nodes = p.nodes; bytes = p.bytes; shorts = p.shorts; words = p.words; longs = p.longs; offsets = p.offsets; views = p.views; lists = p.lists; buffers = b })
on_buffers r k =
    record {
      columns = keeps_none r.columns;
      nodes = keeps_none r.nodes;
      bytes = keeps_none r.bytes;
      shorts = keeps_none r.shorts;
      words = keeps_none r.words;
      longs = keeps_none r.longs;
      offsets = keeps_none r.offsets;
      views = keeps_none r.views;
      lists = keeps_none r.lists;
      buffers = k;
    }
