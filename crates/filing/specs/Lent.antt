-- Data buffers one after another.
use Rattle.std.specs.Prelude.{ℕ, ◌+◌, List, [], ◌∷◌, ◌++◌, length}
use Rattle.pools.specs.declared.records.Part.{Part}

-- the bytes of all
abbrev pub flat : List (List ℕ) → List ℕ
flat [] = []
flat (b ∷ bs) = b ++ flat bs

-- the parts that they are, from a place on
abbrev pub parts_from : ℕ → List (List ℕ) → List Part
parts_from at [] = []
parts_from at (b ∷ bs) = record { start = at; len = length b } ∷ parts_from (at + length b) bs
