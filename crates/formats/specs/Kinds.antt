-- The code's kinds, as the theory's: the layout, and the bytes of an offset.
use Rattle.std.specs.Prelude.{ℕ}
use Rattle.columns.specs.Kinds as rules
use Rattle.formats.specs.declared.kind.Kind.{Kind}
use Rattle.formats.specs.declared.kind.Kind.TheVariants.{Primitive, Boolean, Text, View, List, Map, Struct, RunEnds, FixedList}
use Rattle.formats.specs.Spelled.{bytes_of, wide_bytes}

abbrev pub layout : Kind → rules.Kind
layout (Primitive w) = rules.primitive (bytes_of w)
layout Boolean = rules.boolean
layout (Text wide) = rules.strings
layout View = rules.views
layout (List wide) = rules.lists
layout Map = rules.maps
layout Struct = rules.structs
layout RunEnds = rules.run_ended
layout (FixedList size) = rules.fixed_lists size

abbrev pub offset_width : Kind → ℕ
offset_width (Primitive w) = 4
offset_width Boolean = 4
offset_width (Text wide) = wide_bytes wide
offset_width View = 4
offset_width (List wide) = wide_bytes wide
offset_width Map = 4
offset_width Struct = 4
offset_width RunEnds = 4
offset_width (FixedList size) = 4
