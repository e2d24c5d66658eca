-- When two columns have one type.
use Rattle.std.specs.Prelude.{◌≡◌, ℕ, Bool, true, false, cond, ◌&&◌, ◌||◌, ◌↔◌, List, ◌==◌}
use Rattle.columns.specs.Kinds.{is_run_ended}
use Rattle.columns.specs.Format.{same_bytes}
use Rattle.columns.specs.Column.{Column, Columns, column, end, ◌&◌, node, kind}

-- Format strings are equal and children agree in order, label and type.
mutual
  pub data ColumnType : Type 0 where
    typed : (format : List ℕ) → Fields → ColumnType

  pub data Fields : Type 0 where
    no_fields : Fields
    field : (label : ℕ) → ColumnType → Fields → Fields

-- A column's own label is not part of its type, nor are those of the two children of run ends.
unfoldable mutual
  pub type_of : Column → ColumnType
  type_of (column n cs) = typed n.format (fields (is_run_ended (kind n)) cs)

  pub fields : (unlabelled : Bool) → Columns → Fields
  fields unlabelled end = no_fields
  fields unlabelled (c & cs) = field (cond unlabelled 0 (node c).label) (type_of c) (fields unlabelled cs)

abbrev pub SameType : Column → Column → Type 0
SameType c d = type_of c ≡ type_of d

-- Whether two columns have one type, as a test.
unfoldable mutual
  pub alike : Column → Column → Bool
  alike (column n cs) (column m ds) = same_bytes n.format m.format && all_alike (is_run_ended (kind n)) cs ds

  pub all_alike : (unlabelled : Bool) → Columns → Columns → Bool
  all_alike unlabelled end end = true
  all_alike unlabelled end (d & ds) = false
  all_alike unlabelled (c & cs) end = false
  all_alike unlabelled (c & cs) (d & ds) =
      (unlabelled || (node c).label == (node d).label) && alike c d && all_alike unlabelled cs ds

abbrev pub AlikeIsSameType : Type 0
AlikeIsSameType = (c d : Column) → (alike c d ≡ true) ↔ SameType c d
