-- A buffer's values, one after another.
use Rattle.std.specs.Prelude.{ℕ, ◌/◌, Bool, cond, List, [], ◌∷◌, length, Some, None, Option}
use Rattle.columns.specs.Contents.{values_in}

-- all values of a buffer
abbrev pub all_values : (w : ℕ) → List ℕ → List ℕ
all_values w bytes = values_in w (length bytes / w) bytes

-- The last of them, if each follows the one before it, and the first follows `low`.
abbrev pub walked : (ℕ → ℕ → Bool) → (low : ℕ) → List ℕ → Option ℕ
walked follows low [] = Some low
walked follows low (x ∷ xs) = cond (follows low x) (walked follows x xs) None
