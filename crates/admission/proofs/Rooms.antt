use Rattle.std.proofs.Common.{◌≡◌, ℕ, ◌+◌, Bool, cond, ◌&&◌, leb, List, [], ◌∷◌, refl, ap, ◌∙◌}
use mathlib.Core.Option as math
use Rattle.columns.specs.Checks.{first_failing}
use Rattle.columns.specs.Pools.{Entries, of_pool, pools, fits, full_pool}

-- pools that agree are full alike
first_same : {X : Type 0} (f g : X → Bool) → ((x : X) → f x ≡ g x) → (xs : List X) → first_failing f xs ≡ first_failing g xs
first_same f g e [] = refl
first_same f g e (x ∷ xs) = ap (λ (b : Bool). cond b (first_failing f xs) (math.some x)) (e x) ∙ ap (λ (o : math.Option _). cond (g x) o (math.some x)) (first_same f g e xs)

pub full_agrees : (l m l' m' n : Entries) → ((pool : ℕ) → of_pool l pool ≡ of_pool l' pool) → ((pool : ℕ) → of_pool m pool ≡ of_pool m' pool) → full_pool l m n ≡ full_pool l' m' n
full_agrees l m l' m' n a b =
    first_same (fits l m n) (fits l' m' n)
    (λ (p : ℕ). ap (λ (x : ℕ). leb (x + of_pool n p) (of_pool l p) && leb (x + of_pool n p) 1048576) (b p) ∙ ap (λ (x : ℕ). leb (of_pool m' p + of_pool n p) x && leb (of_pool m' p + of_pool n p) 1048576) (a p)) pools
