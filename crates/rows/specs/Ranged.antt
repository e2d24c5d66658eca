-- The range of a row: where it starts, and how long it is.
use Rattle.std.specs.Prelude.{ℕ, ◌+◌, ◌-◌, ◌*◌, ◌^◌, ◌<◌, ◌≤◌, List, length, slice_index}
use Rattle.formats.specs.declared.kind.Kind.{Kind}
use Rattle.formats.specs.declared.kind.Kind.TheVariants.{Primitive, Boolean, Text, View, List as Listed, Map, Struct, RunEnds, FixedList}
use Rattle.pools.specs.declared.records.Part.{Part}
use Rattle.pools.specs.declared.records.Node.{Node as Entry}
use Rattle.pools.specs.Store.{no_part}

-- What lies between an offset and the next.
abbrev pub between : (offsets : List ℕ) (place : ℕ) → Part
between os i = record { start = slice_index os i; len = slice_index os (i + 1) - slice_index os i }

-- The range of a row: by its offsets, or by a fixed size; other kinds have none.
abbrev pub row_range : (offsets : List ℕ) → Kind → (place row : ℕ) → Part
row_range os (Primitive w) place row = no_part
row_range os Boolean place row = no_part
row_range os (Text wide) place row = between os (place + row)
row_range os View place row = no_part
row_range os (Listed wide) place row = between os (place + row)
row_range os Map place row = between os (place + row)
row_range os Struct place row = no_part
row_range os RunEnds place row = no_part
row_range os (FixedList size) place row = record { start = row * size; len = size }

abbrev pub RangeThere : (offsets : List ℕ) → Kind → (place row : ℕ) → Type 0
RangeThere os (Primitive w) place row = Unit {0}
RangeThere os Boolean place row = Unit {0}
RangeThere os (Text wide) place row = place + row + 1 < length os
RangeThere os View place row = Unit {0}
RangeThere os (Listed wide) place row = place + row + 1 < length os
RangeThere os Map place row = place + row + 1 < length os
RangeThere os Struct place row = Unit {0}
RangeThere os RunEnds place row = Unit {0}
RangeThere os (FixedList size) place row = row < 2 ^ 32

-- Where the bytes of a byte-string row lie.
abbrev pub text_part : (offsets : List ℕ) → Entry → (row : ℕ) → Part
text_part os r row = record { start = r.text.start + (between os (r.place + row)).start; len = (between os (r.place + row)).len }

-- Numbers that never fall.
abbrev pub Rises : List ℕ → Type 0
Rises es = (j k : ℕ) → j ≤ k → k < length es → slice_index es j ≤ slice_index es k
