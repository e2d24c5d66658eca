-- A column's nodes in a row, each before its children.
use Rattle.std.specs.Prelude.{ℕ, zero, suc, ◌+◌, ◌<◌, List, [], ◌∷◌, ◌++◌, length, drop, slice_index}
use Rattle.columns.specs.Column.{Node, Column, Columns, column, end, ◌&◌}
use Rattle.columns.specs.Limits.{node_count}
use Rattle.pools.specs.Store.{Store, node_entry}
use Rattle.pools.specs.Held.{Held}

-- The entries from a place on are these nodes, with their child counts, and with as many nodes below as `sizes` says.
unfoldable pub Row : Store → (place : ℕ) → List (Node × ℕ) → (sizes : List ℕ) → Type 0
Row P i [] sizes = Unit {0}
Row P i (n ∷ ns) sizes = (i < length P.nodes) × Held P (node_entry P i) n.0 n.1 (slice_index sizes 0) × Row P (i + 1) ns (drop 1 sizes)

-- how many nodes each node has with all below it
unfoldable mutual
  pub sizes_of : Column → List ℕ
  sizes_of (column n cs) = node_count (column n cs) ∷ sizes_each cs

  pub sizes_each : Columns → List ℕ
  sizes_each end = []
  sizes_each (c & cs) = sizes_of c ++ sizes_each cs

-- how many nodes the first k trees have, by the sizes from there on
unfoldable pub spanned : (k : ℕ) → (sizes : List ℕ) → ℕ
spanned zero ss = 0
spanned (suc k) ss = slice_index ss 0 + spanned k (drop (slice_index ss 0) ss)

-- the sizes by the child counts, the last node's first
unfoldable pub spans_of : (counts : List ℕ) → List ℕ
spans_of [] = []
spans_of (k ∷ ks) = (1 + spanned k (spans_of ks)) ∷ spans_of ks
