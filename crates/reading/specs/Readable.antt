-- A stored column that can be read, and what its rows say.
use Rattle.std.specs.Prelude.{◌≡◌, ℕ, ◌+◌, ◌<◌, ◌≤◌, List, [], map}
use Rattle.std.specs.List.{AllByRecursion}
use Rattle.formats.specs.declared.kind.Kind.{Kind}
use Rattle.formats.specs.declared.kind.Kind.TheVariants.{Primitive, Boolean, Text, View as Viewed, List as Listed, Map, Struct, RunEnds, FixedList}
use Rattle.columns.specs.Column.{Column, Columns, width, rows_of}
use Rattle.columns.specs.Limits.{depth, depth_below}
use Rattle.columns.specs.Says.{says, each_says, span}
use Rattle.columns.specs.Sound.{Sound, EachSound, RowsAre}
use Rattle.columns.specs.Text.{text}
use Rattle.pools.specs.declared.records.Part.{Part}
use Rattle.pools.specs.declared.records.Node.{Node as Entry}
use Rattle.pools.specs.Parts.{part_of, Inside}
use Rattle.pools.specs.Store.{Store}
use Rattle.pools.specs.Held.{values_pool}
use Rattle.rows.specs.Ranged.{Rises}
use Rattle.pools.specs.Stored.{Stored, EachStored}
use Rattle.reading.specs.declared.shape.Shape.{Shape}
use Rattle.reading.specs.declared.shape.Shape.TheVariants.{Leaf, Ranges, Fields, Runs}
use Rattle.reading.specs.Raw.{buffer_in, commas}

-- The column at a place is sound, over data buffers that lie in the byte pool, and at most so deep.
pub record Readable (P : Store) (place : ℕ) (c : Column) (levels : ℕ) : Type 0 where
  pub stored : Stored P place c
  pub sound : Sound (buffer_in P) c
  pub shallow : depth c ≤ levels
  pub inside : AllByRecursion (Inside P.bytes) P.buffers

-- It has this row.
pub record RowReadable (P : Store) (place : ℕ) (c : Column) (row levels : ℕ) : Type 0 where
  pub column : Readable P place c levels
  pub row_in : row < rows_of c

-- It has all the rows of this part.
pub record RowsReadable (P : Store) (place : ℕ) (c : Column) (rows : Part) (levels : ℕ) : Type 0 where
  pub column : Readable P place c levels
  pub rows_in : rows.start + rows.len ≤ rows_of c

-- Each of so many columns, one after the other, has this row.
pub record FieldsReadable (P : Store) (place : ℕ) (cs : Columns) (count row levels : ℕ) : Type 0 where
  pub count_is : width cs ≡ count
  pub stored : EachStored P place cs
  pub sound : EachSound (buffer_in P) cs
  pub shallow : depth_below cs ≤ levels
  pub inside : AllByRecursion (Inside P.bytes) P.buffers
  pub rows : ℕ
  pub alike : RowsAre rows cs
  pub row_in : row < rows

-- The text of a row, of some rows with commas between, and of a row of each of some columns.
unfoldable pub row_text : Store → Column → (row : ℕ) → List ℕ
row_text P c i = text (says (buffer_in P) c i)

unfoldable pub rows_text : Store → Column → Part → List ℕ
rows_text P c p = commas (map text (map (says (buffer_in P) c) (span p.start p.len)))

unfoldable pub fields_text : Store → Columns → (row : ℕ) → List ℕ
fields_text P cs i = commas (map text (map (λ f. f i) (each_says (buffer_in P) cs)))

-- How a node's rows are made of its children's.
abbrev pub shape_of : Kind → Shape
shape_of (Primitive w) = Leaf
shape_of Boolean = Leaf
shape_of (Text wide) = Leaf
shape_of Viewed = Leaf
shape_of (Listed wide) = Ranges
shape_of Map = Ranges
shape_of Struct = Fields
shape_of RunEnds = Runs
shape_of (FixedList size) = Ranges

-- The run ends of an entry: numbers that never fall.
abbrev pub ends_part : Entry → Part
ends_part r = record { start = r.place; len = r.rows }

abbrev pub ends_at : Store → Entry → Kind → List ℕ
ends_at P r (Primitive w) = part_of (values_pool P w) (ends_part r)
ends_at P r Boolean = []
ends_at P r (Text wide) = []
ends_at P r Viewed = []
ends_at P r (Listed wide) = []
ends_at P r Map = []
ends_at P r Struct = []
ends_at P r RunEnds = []
ends_at P r (FixedList size) = []

abbrev pub EndsIn : Store → Entry → Kind → Type 0
EndsIn P r (Primitive w) = Inside (values_pool P w) (ends_part r) × Rises (part_of (values_pool P w) (ends_part r))
EndsIn P r Boolean = ⊥
EndsIn P r (Text wide) = ⊥
EndsIn P r Viewed = ⊥
EndsIn P r (Listed wide) = ⊥
EndsIn P r Map = ⊥
EndsIn P r Struct = ⊥
EndsIn P r RunEnds = ⊥
EndsIn P r (FixedList size) = ⊥
