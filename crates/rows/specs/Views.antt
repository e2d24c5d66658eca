-- A view taken apart, by its halves and by what it is.
use Rattle.std.specs.Prelude.{ℕ, ◌+◌, ◌-◌, ◌*◌, ◌/◌, ◌%◌, ◌^◌, cond, nat_lt}
use Rattle.columns.specs.Column.{View, short, long}
use Rattle.pools.specs.declared.records.View.{View as Halves}
use Rattle.rows.specs.declared.views.ViewParts.{ViewParts}
use Rattle.rows.specs.declared.views.ViewParts.TheVariants.{Inline, Buffered}

abbrev pub parts_of : Halves → ViewParts
parts_of h =
    cond (nat_lt 12 (h.low % 2 ^ 32)) (Buffered (h.low % 2 ^ 32) (h.low / 2 ^ 32) (h.high % 2 ^ 32) (h.high / 2 ^ 32)) (Inline (h.low % 2 ^ 32))

abbrev pub view_parts : View → ViewParts
view_parts (short len inline) = Inline len
view_parts (long len prefix position offset) = Buffered len prefix position offset

-- The bytes after the length: four in the low half, eight in the high one.
abbrev pub inline_byte : Halves → ℕ → ℕ
inline_byte h i = cond (nat_lt i 4) (h.low / 2 ^ (8 * (i + 4)) % 256) (h.high / 2 ^ (8 * (i - 4)) % 256)
