-- The first pool that is too short, by its place among the pools and by its number.
use Rattle.std.proofs.Common.{◌≡◌, ℕ, ◌+◌, Bool, true, false, cond, ◌&&◌, leb, not, List, [], ◌∷◌, Some, None, Option, position, sym, refl, ap, ◌∙◌, arith}
use mathlib.Core.Option as math
use Rattle.std.proofs.lemmas.Iterator.Adapters.{position_from-zero}
use Rattle.std.specs.List.{zip, position_from}
use Rattle.columns.specs.Checks.{first_failing}
use Rattle.columns.specs.Pools.{fits, full_pool, pools}
use Rattle.formats.specs.Spelled.{lifted}
use Rattle.pools.specs.declared.entries.Entries.{Entries}
use Rattle.pools.specs.Marked.{listed}
use Rattle.pools.specs.Used.{is_short}

-- a pool's number is the one after its place
abbrev pub next : Option ℕ → Option ℕ
next None = None
next (Some k) = Some (k + 1)

step : (b : Bool) (k : ℕ) (o : math.Option ℕ) (q : Option ℕ) → lifted o ≡ next q → lifted (cond b o (math.some (k + 1))) ≡ next (cond (not b) (Some k) q)
step true k o q e = e
step false k o q e = refl

of_entries : (lengths marks needs : Entries) → lifted (full_pool (listed lengths) (listed marks) (listed needs)) ≡ next (position_from is_short 0 (zip (zip (listed lengths) (listed marks)) (listed needs)))
of_entries l m n =
    let at : ℕ → Bool = fits (listed l) (listed m) (listed n) in
    step (at 1) 0 _ _ (step (at 2) 1 _ _ (step (at 3) 2 _ _ (step (at 4) 3 _ _ (step (at 5) 4 _ _ (step (at 6) 5 _ _ (step (at 7) 6 _ _ (step (at 8) 7 _ _ (step (at 9) 8 _ _ (step (at 10) 9 _ _ (step (at 11) 10 _ _ refl))))))))))

pub short_is : (ends used more : List ℕ) (lengths marks needs : Entries) → ends ≡ listed lengths → used ≡ listed marks → more ≡ listed needs
    → lifted (full_pool (listed lengths) (listed marks) (listed needs)) ≡ next (position is_short (zip (zip ends used) more))
short_is ends used more l m n a b c =
    of_entries l m n
    ∙ ap next (sym (position_from-zero is_short (zip (zip (listed l) (listed m)) (listed n))))
    ∙ ap (λ (x : List ℕ). next (position is_short (zip (zip x (listed m)) (listed n)))) (sym a)
    ∙ ap (λ (x : List ℕ). next (position is_short (zip (zip ends x) (listed n)))) (sym b)
    ∙ ap (λ (x : List ℕ). next (position is_short (zip (zip ends used) x))) (sym c)
