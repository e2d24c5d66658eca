-- The limits of a column: rows at a node, nodes, depth, and how high its signed numbers go.
use Rattle.std.specs.Prelude.{ℕ, suc, ◌+◌, ◌≤◌, max}
use Rattle.std.specs.List.{AllByRecursion}
use Rattle.columns.specs.Kinds.{width_of, Kind, primitive, boolean, strings, views, lists, maps, structs, run_ended, fixed_lists, unknown}
use Rattle.columns.specs.Format.{highest, offset_bytes}
use Rattle.columns.specs.Column.{Node, Column, Columns, column, end, ◌&◌, node, first, kind}

abbrev pub most_rows : ℕ
most_rows = 1048576

abbrev pub most_nodes : ℕ
most_nodes = 256

abbrev pub most_levels : ℕ
most_levels = 8

-- the root is at depth 1
unfoldable mutual
  pub depth : Column → ℕ
  depth (column n cs) = suc (depth_below cs)

  pub depth_below : Columns → ℕ
  depth_below end = 0
  depth_below (c & cs) = max (depth c) (depth_below cs)

unfoldable mutual
  pub node_count : Column → ℕ
  node_count (column n cs) = suc (nodes_below cs)

  pub nodes_below : Columns → ℕ
  nodes_below end = 0
  nodes_below (c & cs) = node_count c + nodes_below cs

-- Offsets are signed, and so are run ends, of which the last is the number of rows.
abbrev pub OffsetsFit : Node → Type 0
OffsetsFit n = AllByRecursion (λ o. o ≤ highest (offset_bytes n.format)) n.offsets

abbrev pub SignedFit : Kind → Node → Columns → Type 0
SignedFit (primitive w) n cs = Unit {0}
SignedFit boolean n cs = Unit {0}
SignedFit strings n cs = OffsetsFit n
SignedFit views n cs = Unit {0}
SignedFit lists n cs = OffsetsFit n
SignedFit maps n cs = OffsetsFit n
SignedFit structs n cs = Unit {0}
SignedFit run_ended n cs = n.rows ≤ highest (width_of (kind (node (first cs))))
SignedFit (fixed_lists N) n cs = Unit {0}
SignedFit unknown n cs = Unit {0}

unfoldable mutual
  pub NodesLimited : Column → Type 0
  NodesLimited (column n cs) = (n.rows ≤ most_rows) × SignedFit (kind n) n cs × EachLimited cs

  pub EachLimited : Columns → Type 0
  EachLimited end = Unit {0}
  EachLimited (c & cs) = NodesLimited c × EachLimited cs

pub record WithinLimits (c : Column) : Type 0 where
  pub nodes_limited : NodesLimited c
  pub few_nodes : node_count c ≤ most_nodes
  pub few_levels : depth c ≤ most_levels
