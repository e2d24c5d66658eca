-- Runs: which entry a row of a made run-ended column has.
use Rattle.std.proofs.Common.{◌≡◌, ℕ, zero, suc, ◌+◌, ◌<◌, ◌≤◌, Bool, true, false, cond, eqb, ltb, List, [], ◌∷◌, length, get_or, sym, refl, ap, ◌∙◌, subst, inl, inr, arith}
use Rattle.std.proofs.lemmas.Bool.{eqb-true, eq-eqb, cond-true, cond-false, and_parts, and_from, both_ways, lt-ltb, le-ltb}
use Rattle.columns.specs.Says.{entry}
use Rattle.columns.specs.Gathering.{Pair}
use Rattle.columns.specs.Claims.{In}
use Rattle.columns.specs.Runs.{same_pair, run_ends_from, kept}
use Rattle.columns.specs.Sound.{Climbs}
use Rattle.columns.specs.Laws.{RunStops}

pub same_pair_true : (p q : Pair) → same_pair p q ≡ true → p ≡ q
same_pair_true p q h =
    let e = and_parts (eqb p.0 q.0) (eqb p.1 q.1) h in
    let e0 = eqb-true p.0 q.0 e.0 in let e1 = eqb-true p.1 q.1 e.1 in λ i. (e0 i, e1 i)

pub entry_first : (e : ℕ) (es : List ℕ) (i : ℕ) → i < e → entry (e ∷ es) i ≡ 0
entry_first e es i h = cond-true (ltb i e) 0 (suc (entry es i)) (lt-ltb i e h)

pub entry_next : (e : ℕ) (es : List ℕ) (i : ℕ) → e ≤ i → entry (e ∷ es) i ≡ suc (entry es i)
entry_next e es i h = cond-false (ltb i e) 0 (suc (entry es i)) (le-ltb i e h)

pub first_entry : (a : ℕ) (x : Pair) (xs : List Pair) (i : ℕ) → i ≤ a → entry (run_ends_from a (x ∷ xs)) i ≡ 0
first_entry a x [] i h = entry_first (suc a) [] i (omega arith)
first_entry a x (y ∷ ys) i h = go (same_pair x y) (first_entry (suc a) y ys i (omega arith))
  where
    go : (t : Bool) → entry (run_ends_from (suc a) (y ∷ ys)) i ≡ 0 → entry (cond t (run_ends_from (suc a) (y ∷ ys)) (suc a ∷ run_ends_from (suc a) (y ∷ ys))) i ≡ 0
    go true e = e
    go false e = entry_first (suc a) (run_ends_from (suc a) (y ∷ ys)) i (omega arith)

-- the entry of a made row is the one that its pair led to
pub kept_entry : (a : ℕ) (es : List Pair) (k : ℕ) → k < length es → get_or (kept es) (entry (run_ends_from a es) (a + k)) (0, 0) ≡ get_or es k (0, 0)
kept_entry a [] k h = absurd (omega arith)
kept_entry a (x ∷ []) zero h = ap (λ m. get_or (x ∷ []) m (0, 0)) (entry_first (suc a) [] (a + 0) (omega arith))
kept_entry a (x ∷ []) (suc k) h = absurd (omega arith)
kept_entry a (x ∷ y ∷ ys) k h = go (same_pair x y) refl k h (kept_entry (suc a) (y ∷ ys))
  where
    more : List Pair
    more = y ∷ ys

    go : (t : Bool) → same_pair x y ≡ t → (k : ℕ) → k < suc (length more) →
        ((j : ℕ) → j < length more → get_or (kept more) (entry (run_ends_from (suc a) more) (suc a + j)) (0, 0) ≡ get_or more j (0, 0)) →
        get_or (cond t (kept more) (x ∷ kept more)) (entry (cond t (run_ends_from (suc a) more) (suc a ∷ run_ends_from (suc a) more)) (a + k)) (0, 0) ≡ get_or (x ∷ more) k (0, 0)
    go true e zero h ih =
        ap (λ m. get_or (kept more) m (0, 0)) (first_entry (suc a) y ys (a + 0) (omega arith) ∙ sym (first_entry (suc a) y ys (suc a + 0) (omega arith)))
        ∙ ih 0 (omega arith) ∙ sym (same_pair_true x y e)
    go true e (suc k) h ih = ap (λ i. get_or (kept more) (entry (run_ends_from (suc a) more) i) (0, 0)) (omega arith) ∙ ih k (omega arith)
    go false e zero h ih = ap (λ m. get_or (x ∷ kept more) m (0, 0)) (entry_first (suc a) (run_ends_from (suc a) more) (a + 0) (omega arith))
    go false e (suc k) h ih =
        ap (λ m. get_or (x ∷ kept more) m (0, 0)) (entry_next (suc a) (run_ends_from (suc a) more) (a + suc k) (omega arith))
        ∙ ap (λ i. get_or (kept more) (entry (run_ends_from (suc a) more) i) (0, 0)) (omega arith) ∙ ih k (omega arith)

pub run_ends_climb : (low a : ℕ) (x : Pair) (xs : List Pair) → low ≤ a → Climbs low (run_ends_from a (x ∷ xs)) (a + suc (length xs))
run_ends_climb low a x [] h = (omega arith, omega arith)
run_ends_climb low a x (y ∷ ys) h = go (same_pair x y) (run_ends_climb low (suc a) y ys (omega arith)) (run_ends_climb (suc a) (suc a) y ys (omega arith))
  where
    e : suc a + suc (length ys) ≡ a + suc (suc (length ys))
    e = omega arith

    go : (t : Bool) → Climbs low (run_ends_from (suc a) (y ∷ ys)) (suc a + suc (length ys)) → Climbs (suc a) (run_ends_from (suc a) (y ∷ ys)) (suc a + suc (length ys)) →
        Climbs low (cond t (run_ends_from (suc a) (y ∷ ys)) (suc a ∷ run_ends_from (suc a) (y ∷ ys))) (a + suc (suc (length ys)))
    go true c d = subst (λ n. Climbs low (run_ends_from (suc a) (y ∷ ys)) n) e c
    go false c d = (omega arith, subst (λ n. Climbs (suc a) (run_ends_from (suc a) (y ∷ ys)) n) e d)

pub ends_above : (a : ℕ) (es : List Pair) (b : ℕ) → In b (run_ends_from a es) → a < b
ends_above a [] b h = absurd h
ends_above a (x ∷ []) b (inl e) = omega arith
ends_above a (x ∷ []) b (inr h) = absurd h
ends_above a (x ∷ y ∷ ys) b h = go (same_pair x y) h (ends_above (suc a) (y ∷ ys) b)
  where
    go : (t : Bool) → In b (cond t (run_ends_from (suc a) (y ∷ ys)) (suc a ∷ run_ends_from (suc a) (y ∷ ys))) → (In b (run_ends_from (suc a) (y ∷ ys)) → suc a < b) → a < b
    go true h ih = let k = ih h in omega arith
    go false (inl e) ih = omega arith
    go false (inr h) ih = let k = ih h in omega arith

pub same_pair_false : (p q : Pair) → same_pair p q ≡ false → p ≡ q → ⊥
same_pair_false p q h e =
    let t : same_pair p q ≡ true = and_from (eqb p.0 q.0) (eqb p.1 q.1) (eq-eqb p.0 q.0 (ap (λ (r : Pair). r.0) e)) (eq-eqb p.1 q.1 (ap (λ (r : Pair). r.1) e)) in
    both_ways (same_pair p q) h t

pub stop_has_end : (a : ℕ) (es : List Pair) (k : ℕ) → k < length es → RunStops es k → In (suc (a + k)) (run_ends_from a es)
stop_has_end a [] k h s = absurd (omega arith)
stop_has_end a (x ∷ []) zero h s = inl (omega arith)
stop_has_end a (x ∷ []) (suc k) h s = absurd (omega arith)
stop_has_end a (x ∷ y ∷ ys) k h s = go (same_pair x y) refl k h s (stop_has_end (suc a) (y ∷ ys))
  where
    more : List Pair
    more = y ∷ ys

    go : (t : Bool) → same_pair x y ≡ t → (k : ℕ) → k < suc (length more) → RunStops (x ∷ more) k →
        ((j : ℕ) → j < length more → RunStops more j → In (suc (suc a + j)) (run_ends_from (suc a) more)) →
        In (suc (a + k)) (cond t (run_ends_from (suc a) more) (suc a ∷ run_ends_from (suc a) more))
    go true e zero h (inl z) ih = absurd (omega arith)
    go true e zero h (inr d) ih = absurd (d (same_pair_true x y e))
    go false e zero h s ih = inl (omega arith)
    go true e (suc k) h (inl z) ih = subst (λ b. In b (run_ends_from (suc a) more)) (omega arith) (ih k (omega arith) (inl (omega arith)))
    go true e (suc k) h (inr d) ih = subst (λ b. In b (run_ends_from (suc a) more)) (omega arith) (ih k (omega arith) (inr d))
    go false e (suc k) h (inl z) ih = inr (subst (λ b. In b (run_ends_from (suc a) more)) (omega arith) (ih k (omega arith) (inl (omega arith))))
    go false e (suc k) h (inr d) ih = inr (subst (λ b. In b (run_ends_from (suc a) more)) (omega arith) (ih k (omega arith) (inr d)))

pub end_is_stop : (a : ℕ) (es : List Pair) (k : ℕ) → k < length es → In (suc (a + k)) (run_ends_from a es) → RunStops es k
end_is_stop a [] k h i = absurd (omega arith)
end_is_stop a (x ∷ []) zero h i = inl refl
end_is_stop a (x ∷ []) (suc k) h i = absurd (omega arith)
end_is_stop a (x ∷ y ∷ ys) k h i = go (same_pair x y) refl k h i (end_is_stop (suc a) (y ∷ ys))
  where
    more : List Pair
    more = y ∷ ys

    up : (k : ℕ) → RunStops more k → RunStops (x ∷ more) (suc k)
    up k (inl z) = inl (omega arith)
    up k (inr d) = inr d

    go : (t : Bool) → same_pair x y ≡ t → (k : ℕ) → k < suc (length more) →
        In (suc (a + k)) (cond t (run_ends_from (suc a) more) (suc a ∷ run_ends_from (suc a) more)) →
        ((j : ℕ) → j < length more → In (suc (suc a + j)) (run_ends_from (suc a) more) → RunStops more j) → RunStops (x ∷ more) k
    go true e zero h i ih = let z = ends_above (suc a) more (suc (a + 0)) i in absurd (omega arith)
    go false e zero h i ih = inr (same_pair_false x y e)
    go true e (suc k) h i ih = up k (ih k (omega arith) (subst (λ b. In b (run_ends_from (suc a) more)) (omega arith) i))
    go false e (suc k) h (inl z) ih = absurd (omega arith)
    go false e (suc k) h (inr i) ih = up k (ih k (omega arith) (subst (λ b. In b (run_ends_from (suc a) more)) (omega arith) i))
