use Rattle.std.proofs.Common.{◌≡◌, ℕ, ◌+◌, ◌-◌, ◌*◌, ◌^◌, ◌<◌, ◌≤◌, Bool, true, false, cond, ◌&&◌, leb, List, [], ◌∷◌, length, get_or, drop, Some, None, Option, sym, refl, ap, ◌∙◌, arith, ne_eqb, leb-true}
use mathlib.Core.Option as math
use mathlib.Core.Option.{none}
use Rattle.std.proofs.lemmas.List.{at_drop_more}
use Rattle.formats.specs.Spelled.{digit_of, capped, then, lifted}
use Rattle.columns.specs.Format.{digits, decimal}
use Rattle.formats.specs.Spelled.{digits_from as go}

go_open : (cs : List ℕ) (i n : ℕ) → i < length cs
    → go (drop i cs) n ≡ then (digit_of (get_or cs i 0)) (λ d. then (capped (10 * n + d)) (go (drop (i + 1) cs)))
go_open cs i n h = at_drop_more (λ l. go l n) cs i 0 h

pub go_bad : (cs : List ℕ) (i n : ℕ) → i < length cs → None ≡ digit_of (get_or cs i 0) → go (drop i cs) n ≡ None
go_bad cs i n h e = go_open cs i n h ∙ ap (λ (o : Option ℕ). then o (λ d. then (capped (10 * n + d)) (go (drop (i + 1) cs)))) (sym e)

pub go_digit : (cs : List ℕ) (i n d : ℕ) → i < length cs → Some d ≡ digit_of (get_or cs i 0) → go (drop i cs) n ≡ then (capped (10 * n + d)) (go (drop (i + 1) cs))
go_digit cs i n d h e = go_open cs i n h ∙ ap (λ (o : Option ℕ). then o (λ d. then (capped (10 * n + d)) (go (drop (i + 1) cs)))) (sym e)

pub go_on : (cs : List ℕ) (i n d : ℕ) (o : Option ℕ) → i < length cs → Some d ≡ digit_of (get_or cs i 0) → o ≡ capped (10 * n + d)
    → go (drop i cs) n ≡ then o (go (drop (i + 1) cs))
go_on cs i n d o h e f = go_digit cs i n d h e ∙ ap (λ (o : Option ℕ). then o (go (drop (i + 1) cs))) (sym f)

small_of : (b : Bool) (x m : ℕ) → leb x 2147483647 ≡ b → Some m ≡ cond b (Some x) None → m < 2 ^ 32
small_of true x m l e = let q : m ≡ x = cc in omega (arith, leb-true x 2147483647 l, q)
small_of false x m l e = let z : ◌≡◌ {A = ℕ} 0 1 = cc in absurd (omega arith)

pub capped_small : (x m : ℕ) → Some m ≡ capped x → m < 2 ^ 32
capped_small x m e = small_of (leb x 2147483647) x m refl e

step_cap : (z : Bool) (m : ℕ) (cs : List ℕ) → go cs m ≡ lifted (digits m cs) → then (cond z (Some m) None) (go cs) ≡ lifted (cond z (digits m cs) none)
step_cap true m cs e = e
step_cap false m cs e = refl

step_digit : (x y z : Bool) (d : ℕ) (f : ℕ → Option ℕ) (o : math.Option ℕ) → f d ≡ lifted (cond z o none)
    → then (cond x (cond y (Some d) None) None) f ≡ lifted (cond (x && y && z) o none)
step_digit true true z d f o e = e
step_digit true false z d f o e = refl
step_digit false y z d f o e = refl

pub digits_are : (cs : List ℕ) (n : ℕ) → go cs n ≡ lifted (digits n cs)
digits_are [] n = refl
digits_are (c ∷ cs) n =
    step_digit (leb 48 c) (leb c 57) (leb (10 * n + (c - 48)) 2147483647) (c - 48) (λ d. then (capped (10 * n + d)) (go cs)) (digits (10 * n + (c - 48)) cs)
    (step_cap (leb (10 * n + (c - 48)) 2147483647) (10 * n + (c - 48)) cs (digits_are cs (10 * n + (c - 48))))

pub decimal_is : (cs : List ℕ) → 2 ≤ length cs → (get_or cs 0 0 ≡ 48 → ⊥) → go cs 0 ≡ lifted (decimal cs)
decimal_is [] h z = absurd (omega arith)
decimal_is (c ∷ []) h z = absurd (omega arith)
decimal_is (c ∷ d ∷ ds) h z =
    digits_are (c ∷ d ∷ ds) 0 ∙ ap (λ (b : Bool). lifted (cond b none (digits 0 (c ∷ d ∷ ds)))) (sym (ne_eqb c 48 z))
