-- Views claim their buffers by number, and a made node lists each claimed buffer once.
use Rattle.std.specs.Prelude.{◌≡◌, ℕ, suc, cond, ◌⊎◌, List, [], ◌∷◌, ◌==◌, slice_index}
use Rattle.columns.specs.Column.{View, short, long}

abbrev pub In : ℕ → List ℕ → Type 0
In b [] = ⊥
In b (x ∷ xs) = (b ≡ x) ⊎ In b xs

-- A long view claims its buffer, by number; a short one claims none.
abbrev pub claim : List ℕ → View → List ℕ
claim buffers (short len inline) = []
claim buffers (long len prefix position offset) = slice_index buffers position ∷ []

abbrev pub without : ℕ → List ℕ → List ℕ
without b [] = []
without b (x ∷ xs) = cond (b == x) (without b xs) (x ∷ without b xs)

-- each once, by its first claim
abbrev pub once : List ℕ → List ℕ
once [] = []
once (b ∷ bs) = b ∷ without b (once bs)

-- where b stands first
abbrev pub place : ℕ → List ℕ → ℕ
place b [] = 0
place b (x ∷ xs) = cond (b == x) 0 (suc (place b xs))

-- a view with its position in the made list
abbrev pub placed : (made buffers : List ℕ) → View → View
placed made buffers (short len inline) = short len inline
placed made buffers (long len prefix position offset) = long len prefix (place (slice_index buffers position) made) offset
