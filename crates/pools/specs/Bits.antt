-- The bit of a row, in the mask or the booleans of a node.
use Rattle.std.specs.Prelude.{ℕ, ◌+◌, ◌/◌, ◌%◌, ◌^◌, ◌<◌, Bool, true, List, length, Some, None, Option, ◌==◌, slice_index}

-- The bit of a row where the bits begin at `place`, the lowest bit of a byte first.
abbrev pub bit_of : (bytes : List ℕ) (place row : ℕ) → Bool
bit_of bytes place row = slice_index bytes (place + row / 8) / 2 ^ (row % 8) % 2 == 1

-- Where a mask is absent every row is valid.
abbrev pub mask_bit : (bytes : List ℕ) → Option ℕ → (row : ℕ) → Bool
mask_bit bytes None row = true
mask_bit bytes (Some place) row = bit_of bytes place row

abbrev pub MaskThere : (bytes : List ℕ) → Option ℕ → (row : ℕ) → Type 0
MaskThere bytes None row = Unit {0}
MaskThere bytes (Some place) row = place + row / 8 < length bytes
