-- What the pools hold below their marks.
use Rattle.std.specs.Prelude.{◌≡◌, ℕ, ◌+◌, ◌≤◌, List, ◌++◌, length, get_or, None, slice_index_or}
use Rattle.formats.specs.declared.kind.Kind.TheVariants.{Struct}
use Rattle.columns.specs.Says.{slice}
use Rattle.pools.specs.declared.records.Part.{Part}
use Rattle.pools.specs.declared.records.View.{View as Halves}
use Rattle.pools.specs.declared.records.Node.{Node as Entry}
use Rattle.pools.specs.declared.records.ColumnEntry.{ColumnEntry}
use Rattle.pools.specs.declared.pools.Pools.{Pools}
use Rattle.pools.specs.Used.{used}

pub record Store : Type 0 where
  pub columns : List ColumnEntry
  pub nodes : List Entry
  pub bytes : List ℕ
  pub shorts : List ℕ
  pub words : List ℕ
  pub longs : List ℕ
  pub offsets : List ℕ
  pub views : List Halves
  pub lists : List ℕ
  pub buffers : List Part

abbrev pub store : Pools → Store
store p =
    record { columns = used p.columns; nodes = used p.nodes; bytes = used p.bytes; shorts = used p.shorts; words = used p.words; longs = used p.longs; offsets = used p.offsets; views = used p.views; lists = used p.lists; buffers = used p.buffers }

-- Where there is no entry.
abbrev pub no_part : Part
no_part = record { start = 0; len = 0 }

abbrev pub no_halves : Halves
no_halves = record { low = 0; high = 0 }

abbrev pub no_node : Entry
no_node =
    record { kind = Struct; format = no_part; label = 0; rows = 0; children = 0; span = 0; mask = None; place = 0; text = no_part; buffers = no_part }

abbrev pub no_column : ColumnEntry
no_column = record { root = 0 }

abbrev pub node_entry : Store → ℕ → Entry
node_entry P i = slice_index_or P.nodes i no_node

abbrev pub root_of : Store → (column : ℕ) → ℕ
root_of P j = (get_or P.columns j no_column).root

-- The n entries from `place` on are v.
pub record Segment {X : Type 0} (xs : List X) (place n : ℕ) (v : List X) : Type 0 where
  pub within : place + n ≤ length xs
  pub is : slice xs place n ≡ v

-- The entries of a part are v.
abbrev pub Lies : {X : Type 0} → List X → Part → List X → Type 0
Lies xs p v = Segment xs p.start p.len v

-- ys is xs, and more after it.
pub record Front {X : Type 0} (xs ys : List X) : Type 0 where
  pub more : List X
  pub is : ys ≡ xs ++ more

-- Q has all that P has, each pool with more after it.
pub record Extends (P Q : Store) : Type 0 where
  pub columns : Front P.columns Q.columns
  pub nodes : Front P.nodes Q.nodes
  pub bytes : Front P.bytes Q.bytes
  pub shorts : Front P.shorts Q.shorts
  pub words : Front P.words Q.words
  pub longs : Front P.longs Q.longs
  pub offsets : Front P.offsets Q.offsets
  pub views : Front P.views Q.views
  pub lists : Front P.lists Q.lists
  pub buffers : Front P.buffers Q.buffers
