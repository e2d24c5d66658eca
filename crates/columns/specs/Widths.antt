-- Every number fits where it is stored.
use Rattle.std.specs.Prelude.{ℕ, ◌^◌, ◌<◌, List, length}
use Rattle.std.specs.List.{AllByRecursion}
use Rattle.columns.specs.Kinds.{width_of}
use Rattle.columns.specs.Column.{View, short, long, Node, Column, Columns, column, end, ◌&◌, kind}

abbrev pub Bytes : List ℕ → Type 0
Bytes bs = AllByRecursion (λ b. b < 256) bs

-- A view's length, prefix, position and offset are 32 bits each.
abbrev pub ViewFits : View → Type 0
ViewFits (short len inline) = Bytes inline
ViewFits (long len prefix position offset) = (len < 2 ^ 32) × (prefix < 2 ^ 32) × (position < 2 ^ 32) × (offset < 2 ^ 32)

-- A format string's length has 7 bits, a label 16; a value has the width of its kind, in bytes.
pub record NodeFits (n : Node) : Type 0 where
  pub format_fits : Bytes n.format × (length n.format < 2 ^ 7)
  pub label_fits : n.label < 2 ^ 16
  pub values_fit : AllByRecursion (λ v. v < 256 ^ width_of (kind n)) n.values
  pub text_fits : Bytes n.text
  pub views_fit : AllByRecursion ViewFits n.views

unfoldable mutual
  pub WithinWidths : Column → Type 0
  WithinWidths (column n cs) = NodeFits n × EachWithin cs

  pub EachWithin : Columns → Type 0
  EachWithin end = Unit {0}
  EachWithin (c & cs) = WithinWidths c × EachWithin cs
