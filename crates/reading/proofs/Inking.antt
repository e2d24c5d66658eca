-- What a pen or a gauge has written, piece by piece.
use Rattle.std.proofs.Common.{◌≡◌, ℕ, Bool, false, List, [], ◌∷◌, ◌++◌, Ok, Err, Result, sym, refl, ap, ◌∙◌}
use Rattle.std.specs.Prelude.{is_ok, IsErr}
use Rattle.reading.specs.Inked.{inked, wrote}

not_ok : {T E : Type 0} (r : Result T E) → IsErr r → is_ok r ≡ false
not_ok (Ok x) h = sym h
not_ok (Err e) h = refl

module _ {X : Type 0} (room : X → ℕ) (marked : X → ℕ → X) where
  pub wrote_append : (s : X × Bool) (xs ys : List ℕ) → wrote room marked s (xs ++ ys) ≡ wrote room marked (wrote room marked s xs) ys
  unfolding wrote
  wrote_append s [] ys = refl
  wrote_append s (x ∷ xs) ys = wrote_append (inked room marked s x) xs ys

  pub wrote_none : (s : X × Bool) → wrote room marked s [] ≡ s
  unfolding wrote
  wrote_none s = refl

  -- one byte or one piece, and what is left
  pub step : (s t : X × Bool) (b : ℕ) (y : List ℕ) → t ≡ inked room marked s b → wrote room marked t y ≡ wrote room marked s (b ∷ y)
  unfolding wrote
  step s t b y e = ap (λ r. wrote room marked r y) e

  pub last : (s t : X × Bool) (b : ℕ) → t ≡ inked room marked s b → t ≡ wrote room marked s (b ∷ [])
  last s t b e = sym (wrote_none t) ∙ step s t b [] e

  pub piece : (s t : X × Bool) (x y : List ℕ) → t ≡ wrote room marked s x → wrote room marked t y ≡ wrote room marked s (x ++ y)
  piece s t x y e = ap (λ r. wrote room marked r y) e ∙ sym (wrote_append s x y)

  -- Where a byte was refused, no more goes in.
  pub wrote_full : (p : X) (xs : List ℕ) → wrote room marked (p, false) xs ≡ (p, false)
  unfolding wrote
  wrote_full p [] = refl
  wrote_full p (x ∷ xs) = wrote_full p xs

  -- So a refusal of one byte or one piece is one of all that was to follow.
  pub stop : {E : Type 0} (s t : X × Bool) (q : X) (y z : List ℕ) (r : Result (Unit {0}) E) → IsErr r → t ≡ (q, false) → wrote room marked t y ≡ wrote room marked s z → ◌≡◌ {A = X × Bool} (q, is_ok r) (wrote room marked s z)
  stop s t q y z r h e f = ap (λ (b : Bool). (q, b)) (not_ok r h) ∙ sym (wrote_full q y) ∙ ap (λ u. wrote room marked u y) (sym e) ∙ f

  pub refused_byte : {E : Type 0} (s : X × Bool) (q : X) (b : ℕ) (y : List ℕ) (r : Result (Unit {0}) E) → IsErr r → ◌≡◌ {A = X × Bool} (q, false) (inked room marked s b) → ◌≡◌ {A = X × Bool} (q, is_ok r) (wrote room marked s (b ∷ y))
  refused_byte s q b y r h e = stop s (q, false) q y (b ∷ y) r h refl (step s (q, false) b y e)

  pub refused : {E : Type 0} (s : X × Bool) (q : X) (x y : List ℕ) (r : Result (Unit {0}) E) → IsErr r → ◌≡◌ {A = X × Bool} (q, false) (wrote room marked s x) → ◌≡◌ {A = X × Bool} (q, is_ok r) (wrote room marked s (x ++ y))
  refused s q x y r h e = stop s (q, false) q y (x ++ y) r h refl (piece s (q, false) x y e)
