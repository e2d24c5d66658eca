-- A loop that takes one reading after another.
use Rattle.std.proofs.Common.{◌≡◌, ℕ, zero, suc, ◌+◌, ◌<◌, ◌≤◌, List, [], ◌∷◌, ◌++◌, length, get_or, drop, sym, refl, ap, ◌∙◌}
use Rattle.std.proofs.lemmas.List.{at_drop_more, at_drop_all, append_assoc, append-nil}
use Rattle.columns.specs.Checks as checks
use Rattle.columns.specs.Says.{span}
use Rattle.columns.specs.Reading.{Outcome, denied, reached, onward, each_of, give, Reading, ◌>>=◌}
use Rattle.columns.specs.Reading as rules

pub length_span : (a n : ℕ) → length (span a n) ≡ n
length_span a zero = refl
length_span a (suc n) = ap suc (length_span (suc a) n)

pub onward_give : {A : Type 0} (o : Outcome A) → o ≡ onward o (λ a. give a)
onward_give (denied d) = refl
onward_give (reached a p) = refl

module _ {X A : Type 0} (f : X → Reading A) (xs : List X) (d : X) where
  -- k of the readings are done, and gave s; what is left gives the whole
  abbrev pub Left : Outcome (List A) → ℕ → List A → rules.Place → Type 0
  Left o k s q = o ≡ onward (each_of f (drop k xs) q) (λ rest. give (s ++ rest))

  pub left_start : (p : rules.Place) → Left (each_of f xs p) 0 [] p
  left_start p = onward_give (each_of f xs p)

  join_step : (m : Outcome (List A)) (s : List A) (x : A)
      → onward (onward m (λ rest. give (x ∷ rest))) (λ rest. give (s ++ rest)) ≡ onward m (λ rest. give ((s ++ x ∷ []) ++ rest))
  join_step (denied e) s x = refl
  join_step (reached l q) s x = ap (λ (k : List A). reached k q) (sym (append_assoc s (x ∷ []) l))

  left_open : (o : Outcome (List A)) (k : ℕ) (s : List A) (q : rules.Place) → Left o k s q → k < length xs
      → o ≡ onward (onward (f (get_or xs k d) q) (λ a. each_of f (drop (k + 1) xs) >>= λ rest. give (a ∷ rest))) (λ rest. give (s ++ rest))
  left_open o k s q e h = e ∙ ap (λ (m : Outcome (List A)). onward m (λ rest. give (s ++ rest))) (at_drop_more (λ (l : List X). each_of f l q) xs k d h)

  pub left_more : (o : Outcome (List A)) (k : ℕ) (s : List A) (q r : rules.Place) (x : A) → Left o k s q → k < length xs
      → f (get_or xs k d) q ≡ reached x r → Left o (k + 1) (s ++ x ∷ []) r
  left_more o k s q r x e h g =
      left_open o k s q e h
      ∙ ap (λ (m : Outcome A). onward (onward m (λ a. each_of f (drop (k + 1) xs) >>= λ rest. give (a ∷ rest))) (λ rest. give (s ++ rest))) g
      ∙ join_step (each_of f (drop (k + 1) xs) r) s x

  pub left_denied : (o : Outcome (List A)) (k : ℕ) (s : List A) (q : rules.Place) (w : checks.Denial) → Left o k s q → k < length xs
      → f (get_or xs k d) q ≡ denied w → o ≡ denied w
  left_denied o k s q w e h g =
      left_open o k s q e h
      ∙ ap (λ (m : Outcome A). onward (onward m (λ a. each_of f (drop (k + 1) xs) >>= λ rest. give (a ∷ rest))) (λ rest. give (s ++ rest))) g

  pub left_all : (o : Outcome (List A)) (k : ℕ) (s : List A) (q : rules.Place) → Left o k s q → length xs ≤ k → o ≡ reached s q
  left_all o k s q e h =
      e ∙ ap (λ (m : Outcome (List A)). onward m (λ rest. give (s ++ rest))) (at_drop_all (λ (l : List X). each_of f l q) xs k h)
      ∙ ap (λ (l : List A). reached l q) (append-nil s)
