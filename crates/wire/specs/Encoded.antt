-- The bytes of a call, and the law that decoding gives back what was encoded.
use Rattle.std.specs.Prelude.{◌≡◌, ℕ, ◌/◌, ◌%◌, ◌≤◌, List, [], ◌∷◌, ◌++◌, length}
use Rattle.std.specs.List.{flat_map}
use Rattle.wire.specs.Calls.{Call, file, interleave, read, whole, front, most_bytes}

-- Numbers of 16 and 32 bits, most significant byte first.
abbrev pub u16_bytes : ℕ → List ℕ
u16_bytes n = n / 256 ∷ n % 256 ∷ []

abbrev pub u32_bytes : ℕ → List ℕ
u32_bytes n = n / 16777216 ∷ n / 65536 % 256 ∷ n / 256 % 256 ∷ n % 256 ∷ []

abbrev pub pair_bytes : ℕ × ℕ → List ℕ
pair_bytes p = u16_bytes p.0 ++ u32_bytes p.1

-- The letters F, I and R are 70, 73 and 82.
abbrev pub encoded : Call → List ℕ
encoded (file parcel) = 70 ∷ (u32_bytes (length parcel) ++ parcel)
encoded (interleave columns pairs) =
    73 ∷ (u16_bytes (length columns) ++ (u32_bytes (length pairs) ++ (flat_map u32_bytes columns ++ flat_map pair_bytes pairs)))
encoded (read column row) = 82 ∷ (u32_bytes column ++ u32_bytes row)

-- An input that begins with a call's bytes is that call, and what comes after them.
abbrev pub DecodingGivesBack : Type 0
DecodingGivesBack = (call : Call) (rest : List ℕ) → length (encoded call) ≤ most_bytes → front (encoded call ++ rest) ≡ whole call rest
