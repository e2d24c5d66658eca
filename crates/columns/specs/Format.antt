-- Type spellings: what a format string says of a node's layout.
use Rattle.std.specs.Prelude.{ℕ, ◌+◌, ◌-◌, ◌*◌, ◌^◌, Bool, true, false, cond, ◌&&◌, ◌||◌, List, [], ◌∷◌, length, take, drop, codes, ◌==◌, nat_le}
use Rattle.std.proofs.Math.Option.{Option, some, none}
use Rattle.columns.specs.Kinds.{Kind, primitive, boolean, strings, views, lists, maps, structs, run_ended, fixed_lists, unknown}

abbrev pub same_bytes : List ℕ → List ℕ → Bool
same_bytes [] [] = true
same_bytes [] (b ∷ bs) = false
same_bytes (a ∷ xs) [] = false
same_bytes (a ∷ xs) (b ∷ bs) = a == b && same_bytes xs bs

-- f is one of the spellings
abbrev pub one_of : List (List ℕ) → List ℕ → Bool
one_of [] f = false
one_of (s ∷ ss) f = same_bytes s f || one_of ss f

-- f begins with one of the spellings; what follows is free
abbrev pub begins : List (List ℕ) → List ℕ → Bool
begins [] f = false
begins (s ∷ ss) f = same_bytes s (take (length s) f) || begins ss f

-- A decimal number with no leading zero, at most 2,147,483,647.
abbrev pub digits : ℕ → List ℕ → Option ℕ
digits n [] = some n
digits n (c ∷ cs) = cond (nat_le 48 c && nat_le c 57 && nat_le (10 * n + (c - 48)) 2147483647) (digits (10 * n + (c - 48)) cs) none

abbrev pub decimal : List ℕ → Option ℕ
decimal [] = none
decimal (c ∷ []) = digits 0 (c ∷ [])
decimal (c ∷ d ∷ ds) = cond (c == 48) none (digits 0 (c ∷ d ∷ ds))

abbrev pub fixed_size : Option ℕ → Kind
fixed_size none = unknown
fixed_size (some n) = fixed_lists n

abbrev pub table : List (Bool × Kind) → Kind → Kind
table [] other = other
table (t ∷ ts) other = cond t.0 t.1 (table ts other)

-- Integers and floats, dates, times, durations, intervals and timestamps are primitive, with their widths in bytes. A
-- timestamp's zone is the rest of the string.
abbrev pub spellings : List ℕ → List (Bool × Kind)
spellings f =
    (one_of (codes "c" ∷ codes "C" ∷ []) f, primitive 1)
    ∷ (one_of (codes "s" ∷ codes "S" ∷ codes "e" ∷ []) f, primitive 2)
    ∷ (one_of (codes "i" ∷ codes "I" ∷ codes "f" ∷ codes "tdD" ∷ codes "tts" ∷ codes "ttm" ∷ codes "tiM" ∷ []) f, primitive 4)
    ∷ (one_of (codes "l" ∷ codes "L" ∷ codes "g" ∷ codes "tdm" ∷ codes "ttu" ∷ codes "ttn" ∷ codes "tDs" ∷ codes "tDm" ∷ codes "tDu" ∷ codes "tDn" ∷ codes "tiD" ∷ []) f, primitive 8)
    ∷ (begins (codes "tss:" ∷ codes "tsm:" ∷ codes "tsu:" ∷ codes "tsn:" ∷ []) f, primitive 8)
    ∷ (one_of (codes "b" ∷ []) f, boolean)
    ∷ (one_of (codes "u" ∷ codes "z" ∷ codes "U" ∷ codes "Z" ∷ []) f, strings)
    ∷ (one_of (codes "vu" ∷ codes "vz" ∷ []) f, views)
    ∷ (one_of (codes "+l" ∷ codes "+L" ∷ []) f, lists)
    ∷ (one_of (codes "+m" ∷ []) f, maps)
    ∷ (one_of (codes "+s" ∷ []) f, structs)
    ∷ (one_of (codes "+r" ∷ []) f, run_ended)
    ∷ (begins (codes "+w:" ∷ []) f, fixed_size (decimal (drop 3 f)))
    ∷ []

unfoldable pub kind_of : List ℕ → Kind
kind_of f = table (spellings f) unknown

-- `U Z +L` have 64-bit offsets, the others 32-bit.
unfoldable pub offset_bytes : List ℕ → ℕ
offset_bytes f = cond (one_of (codes "U" ∷ codes "Z" ∷ codes "+L" ∷ []) f) 8 4

-- run ends are 16, 32 or 64 bits, and signed
unfoldable pub ends_format : List ℕ → Bool
ends_format f = one_of (codes "s" ∷ codes "i" ∷ codes "l" ∷ []) f

-- The highest number of a signed width in bytes: offsets and run ends are signed.
abbrev pub highest : (w : ℕ) → ℕ
highest w = 2 ^ (8 * w - 1) - 1
