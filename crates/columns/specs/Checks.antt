-- Denials, and ladders of checks of which the first that fails gives the answer.
use Rattle.std.specs.Prelude.{ℕ, suc, Bool, true, false, cond, ◌&&◌, List, [], ◌∷◌}
use Rattle.std.proofs.Math.Option.{Option, some, none}

pub data Denial : Type 0 where
  denial : (number detail : ℕ) → Denial

-- A check: the number of its denial and, if it fails, the detail.
abbrev pub Check : Type 0
Check = ℕ × Option ℕ

abbrev pub unless : Bool → ℕ → Option ℕ
unless true detail = none
unless false detail = some detail

abbrev pub denied_or : ℕ → Option ℕ → Option Denial → Option Denial
denied_or number (some detail) next = some (denial number detail)
denied_or number none next = next

abbrev pub first_denial : List Check → Option Denial
first_denial [] = none
first_denial (c ∷ cs) = denied_or c.0 c.1 (first_denial cs)

-- the first of the list that fails the test
abbrev pub first_failing : {X : Type 0} → (X → Bool) → List X → Option X
first_failing test [] = none
first_failing test (x ∷ xs) = cond (test x) (first_failing test xs) (some x)

-- the place, from k on, of the first that fails the test
abbrev pub failing_place : {X : Type 0} → (X → Bool) → ℕ → List X → Option ℕ
failing_place test k [] = none
failing_place test k (x ∷ xs) = cond (test x) (failing_place test (suc k) xs) (some k)

abbrev pub all_of : {X : Type 0} → (X → Bool) → List X → Bool
all_of test [] = true
all_of test (x ∷ xs) = test x && all_of test xs
