-- The text of a list or a struct, element by element.
use Rattle.std.proofs.Common.{◌≡◌, ℕ, List, [], ◌∷◌, ◌++◌, map, codes, refl, ap, ◌∙◌}
use Rattle.columns.specs.Says.{Said, saids}
use Rattle.columns.specs.Text.{text, texts}
use Rattle.reading.specs.Raw.{commas}

two_texts : (x y : Said) (xs : List Said) → texts (saids (x ∷ y ∷ xs)) ≡ text x ++ (codes "," ++ texts (saids (y ∷ xs)))
unfolding texts
two_texts x y [] = refl
two_texts x y (z ∷ xs) = refl

pub texts_are : (xs : List Said) → texts (saids xs) ≡ commas (map text xs)
unfolding texts
texts_are [] = refl
texts_are (x ∷ []) = refl
texts_are (x ∷ y ∷ xs) = two_texts x y xs ∙ ap (λ (t : List ℕ). text x ++ (codes "," ++ t)) (texts_are (y ∷ xs))
