-- what `find_map` finds, over an iterator that shows the list that it has left
use Rattle.std.proofs.Common.{◌≡◌, ℕ, suc, ◌+◌, ◌<◌, true, List, [], ◌∷◌, ◌++◌, Some, None, Option, sym, refl, ap, ◌∙◌, subst, append-nil}
use Rattle.std.specs.Iterator.{YieldsFirst, Yields, FindsMapped}
use Rattle.std.specs.Iterator.Runs.{Run, SomeRun, YieldsRun, AllItemsGive, IsFirstToGive, CallKeepsClosure}
use Rattle.std.specs.List.{FoldsTo, slice_get}
use Rattle.std.specs.Fn.{Called}
use Rattle.std.specs.Bool.{IsTrue}
use Rattle.std.specs.Option.{MatchOption, IfSome}
use denote.Param.Members.{Mut}

abbrev pub or_else : {B : Type 0} → Option B → Option B → Option B
or_else None r = r
or_else (Some y) r = Some y

-- the first of what f makes of the items that is something
abbrev pub first_made : {A B : Type 0} → (A → Option B) → List A → Option B
first_made f [] = None
first_made f (x ∷ xs) = or_else (f x) (first_made f xs)

module _ {S A : Type 0} (rest : S → List A) where
  yielded : (xs : List A) (s t : S) → Yields (YieldsFirst rest) s xs t → rest s ≡ xs ++ rest t
  yielded [] s t e = ap rest e
  yielded (x ∷ xs) s t (j, p, y) = p ∙ ap (λ (l : List A). x ∷ l) (yielded xs j t y)

  module _ {B F : Type 0} (g : Mut F (A × Unit {0}) (Option B)) (f : F) (h : A → Option B) (calls : (x : A) (r : Option B) (q : F) → Called g f (x, tt) r q → (q ≡ f) × (r ≡ h x)) where
    passed : (xs : List A) (p q : F) → p ≡ f → FoldsTo (λ p x q. Called g p (x, tt) None q) p xs q → (q ≡ f) × ((ys : List A) → first_made h (xs ++ ys) ≡ first_made h ys)
    passed [] p q e k = (sym k ∙ e, λ ys. refl)
    passed (x ∷ xs) p q e (j, c, k) =
        let a = calls x None j (subst (λ (m : F). Called g m (x, tt) None j) e c) in
        let b = passed xs j q a.0 k in
        (b.0, λ ys. ap (λ (o : Option B). or_else o (first_made h (xs ++ ys))) (sym a.1) ∙ b.1 ys)

    none_made : (xs : List A) → ((k : ℕ) → IfSome (slice_get xs k) (λ x. Called g f (x, tt) None f)) → first_made h xs ≡ None
    none_made [] n = refl
    none_made (x ∷ xs) n = ap (λ (o : Option B). or_else o (first_made h xs)) (sym (calls x None f (n 0)).1) ∙ none_made xs (λ k. n (suc k))

    keeps : CallKeepsClosure g f
    keeps (x, u) r q c = (calls x r q c).0

    whole : (p : Run (YieldsFirst rest)) (s : S) → p.from ≡ s → p.whole ≡ true → AllItemsGive p g f None → first_made h (rest s) ≡ None
    unfolding YieldsRun
    whole p s e w n =
        let d = p.gave.0 in
        let u = d.2 w in
        let k : (i : ℕ) → IfSome (slice_get p.items i) (λ x. Called g f (x, tt) None f) = λ i. subst (λ (o : Option A). IfSome o (λ x. Called g f (x, tt) None f)) (p.gave.1 i) (n keeps i) in
        let l : rest s ≡ p.items ++ [] = ap rest (sym e) ∙ yielded p.items p.from d.0 d.1 ∙ ap (λ (x : List A). p.items ++ x) u.1.0 in
        ap (first_made h) l ∙ ap (first_made h) (append-nil p.items) ∙ none_made p.items k

    stopped : (s u : S) (r : Option B) → (y : B) → r ≡ Some y → FindsMapped (YieldsFirst rest) g s f r u → first_made h (rest s) ≡ Some y
    stopped s u r y e (xs, None, q, (t, d, n), k, m) = let z : Some y ≡ None = sym e ∙ m in cc
    stopped s u r y e (xs, Some x, q, (t, d, n), k, (j, c)) =
        let p = passed xs f q refl k in
        let a = calls x r j (subst (λ (m : F). Called g m (x, tt) r j) p.0 c) in
        ap (first_made h) (yielded xs s t d) ∙ p.1 (rest t) ∙ ap (first_made h) n
        ∙ ap (λ (o : Option B). or_else o (first_made h (rest u))) (sym a.1 ∙ e)

    pub find_mapped : (s u : S) (r : Option B) → FindsMapped (YieldsFirst rest) g s f r u
        → SomeRun (YieldsFirst rest) s (λ p. MatchOption r (IsTrue p.whole × AllItemsGive p g f None) (λ y. (i : ℕ) × (i < p.len) × (p.len ≡ i + 1) × IsFirstToGive p g f (Some y) None i))
        → r ≡ first_made h (rest s)
    find_mapped s u None m (p, e, (w, n)) = sym (whole p s e w n)
    find_mapped s u (Some y) m w = sym (stopped s u (Some y) y refl m)
