-- Parts of a list, and the data buffers whose bytes lie in a pool.
use Rattle.std.specs.Prelude.{ℕ, ◌+◌, ◌≤◌, List, map, length}
use Rattle.columns.specs.Says.{slice}
use Rattle.pools.specs.declared.records.Part.{Part}

-- the part's entries
abbrev pub part_of : {X : Type 0} → List X → Part → List X
part_of xs p = slice xs p.start p.len

abbrev pub Inside : {X : Type 0} → List X → Part → Type 0
Inside xs p = p.start + p.len ≤ length xs

-- the data buffers, in the order of their numbers
abbrev pub buffers_in : (bytes : List ℕ) → List Part → List (List ℕ)
buffers_in bytes ps = map (part_of bytes) ps
