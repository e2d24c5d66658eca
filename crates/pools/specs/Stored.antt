-- The column that a place of the node pool stands for.
use Rattle.std.specs.Prelude.{ℕ, ◌+◌, ◌<◌, length}
use Rattle.columns.specs.Column.{Column, Columns, column, end, ◌&◌, width}
use Rattle.columns.specs.Limits.{node_count}
use Rattle.pools.specs.Store.{Store, node_entry}
use Rattle.pools.specs.Held.{Held}

-- Node i, then its children in order, each with all its nodes.
unfoldable mutual
  pub Stored : Store → (place : ℕ) → Column → Type 0
  Stored P i (column n cs) =
      (i < length P.nodes) × Held P (node_entry P i) n (width cs) (node_count (column n cs)) × EachStored P (i + 1) cs

  pub EachStored : Store → (place : ℕ) → Columns → Type 0
  EachStored P i end = Unit {0}
  EachStored P i (c & cs) = Stored P i c × EachStored P (i + node_count c) cs
