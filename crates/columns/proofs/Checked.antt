-- What it means that no check fails.
use Rattle.std.proofs.Common.{◌≡◌, ℕ, zero, suc, ◌<◌, Bool, true, false, cond, List, [], ◌∷◌, ◌++◌, length, get_or, refl, arith}
use mathlib.Core.Option.{Option, some, none}
use Rattle.std.proofs.lemmas.Bool.{and_parts}
use Rattle.columns.specs.Checks.{Denial, Check, unless, denied_or, first_denial, first_failing, failing_place, all_of}

abbrev pub Passed : List Check → Type 0
Passed [] = Unit {0}
Passed (c ∷ cs) = (c.1 ≡ none) × Passed cs

parted : (n : ℕ) (o : Option ℕ) (next : Option Denial) → denied_or n o next ≡ none → (o ≡ none) × (next ≡ none)
parted n none next e = (refl, e)
parted n (some d) next e = absurd (let z : ◌≡◌ {A = ℕ} 0 1 = cc in omega arith)

pub passed : (cs : List Check) → first_denial cs ≡ none → Passed cs
passed [] e = tt
passed (c ∷ cs) e = let p = parted c.0 c.1 (first_denial cs) e in (p.0, passed cs p.1)

pub none_denied : (cs : List Check) → Passed cs → first_denial cs ≡ none
none_denied [] p = refl
none_denied (c ∷ cs) p = rw p.0 (none_denied cs p.1)

pub passed_left : (cs ds : List Check) → Passed (cs ++ ds) → Passed cs
passed_left [] ds p = tt
passed_left (c ∷ cs) ds p = (p.0, passed_left cs ds p.1)

pub passed_right : (cs ds : List Check) → Passed (cs ++ ds) → Passed ds
passed_right [] ds p = p
passed_right (c ∷ cs) ds p = passed_right cs ds p.1

pub unless_none : (b : Bool) (d : ℕ) → unless b d ≡ none → b ≡ true
unless_none true d e = refl
unless_none false d e = cc

pub on_none : {X : Type 0} (b : Bool) (o : Option X) (x : X) → cond b o (some x) ≡ none → (b ≡ true) × (o ≡ none)
on_none true o x e = (refl, e)
on_none false o x e = absurd (let z : ◌≡◌ {A = ℕ} 0 1 = cc in omega arith)

pub none_fails : {X : Type 0} (test : X → Bool) (xs : List X) (d : X) → first_failing test xs ≡ none → (i : ℕ) → i < length xs → test (get_or xs i d) ≡ true
none_fails test [] d e i l = absurd (omega arith)
none_fails test (x ∷ xs) d e zero l = (on_none (test x) (first_failing test xs) x e).0
none_fails test (x ∷ xs) d e (suc i) l = none_fails test xs d (on_none (test x) (first_failing test xs) x e).1 i (omega arith)

pub no_place_fails : {X : Type 0} (test : X → Bool) (k : ℕ) (xs : List X) (d : X) → failing_place test k xs ≡ none → (i : ℕ) → i < length xs → test (get_or xs i d) ≡ true
no_place_fails test k [] d e i l = absurd (omega arith)
no_place_fails test k (x ∷ xs) d e zero l = (on_none (test x) (failing_place test (suc k) xs) k e).0
no_place_fails test k (x ∷ xs) d e (suc i) l = no_place_fails test (suc k) xs d (on_none (test x) (failing_place test (suc k) xs) k e).1 i (omega arith)

pub all_pass : {X : Type 0} (test : X → Bool) (xs : List X) (d : X) → all_of test xs ≡ true → (i : ℕ) → i < length xs → test (get_or xs i d) ≡ true
all_pass test [] d e i l = absurd (omega arith)
all_pass test (x ∷ xs) d e zero l = (and_parts (test x) (all_of test xs) e).0
all_pass test (x ∷ xs) d e (suc i) l = all_pass test xs d (and_parts (test x) (all_of test xs) e).1 i (omega arith)
