-- Entries as they lie in a buffer, each with its lowest byte first.
use Rattle.std.specs.Prelude.{ℕ, ◌*◌, List, map, take, drop}
use Rattle.columns.specs.Says.{span}
use Rattle.columns.specs.Sound.{little_endian}
use Rattle.pools.specs.declared.records.View.{View}

-- the number in the first bytes, `size` of them
abbrev pub number_in : (size : ℕ) → List ℕ → ℕ
number_in size bytes = little_endian (take size bytes)

-- the view in the first 16 bytes, by its halves
abbrev pub halves_in : List ℕ → View
halves_in bytes = record { low = number_in 8 bytes; high = number_in 8 (drop 8 bytes) }

-- the first `count` entries of a buffer, each of `size` bytes
abbrev pub entries_in : {X : Type 0} → (List ℕ → X) → (size count : ℕ) → List ℕ → List X
entries_in told size count bytes = map (λ (i : ℕ). told (drop (size * i) bytes)) (span 0 count)
