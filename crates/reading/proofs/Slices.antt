-- A part of a list, read one by one.
use Rattle.std.proofs.Common.{◌≡◌, ℕ, suc, ◌+◌, ◌-◌, ◌<◌, List, ◌∷◌, length, get_or, take, drop, ap, ◌∙◌, arith}
use Rattle.std.proofs.lemmas.List.{drop_more}
use Rattle.columns.specs.Says.{slice}

pub slice_more : {X : Type 0} (xs : List X) (a n k : ℕ) (d : X) → k < n → a + k < length xs → slice xs (a + k) (n - k) ≡ get_or xs (a + k) d ∷ slice xs (a + (k + 1)) (n - (k + 1))
slice_more {X} xs a n k d h l =
    ap (take (n - k)) (drop_more xs (a + k) d l)
    ∙ ap (λ m. take m (get_or xs (a + k) d ∷ drop (a + k + 1) xs)) (let e : n - k ≡ suc (n - (k + 1)) = omega arith in e)
    ∙ ap (λ m. get_or xs (a + k) d ∷ take (n - (k + 1)) (drop m xs)) (let e : a + k + 1 ≡ a + (k + 1) = omega arith in e)
