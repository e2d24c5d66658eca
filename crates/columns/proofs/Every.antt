-- What holds of every element of a list laid together from others.
use Rattle.std.proofs.Common.{◌≡◌, ℕ, zero, suc, ◌+◌, ◌<◌, ◌≤◌, Bool, true, false, cond, List, [], ◌∷◌, ◌++◌, map, length, get_or, sym, refl, ap, subst, inl, inr, arith}
use Rattle.std.specs.List.{flat_map}
use Rattle.std.proofs.lemmas.Bool.{cases_lt}
use Rattle.columns.specs.Says.{span, entry}
use Rattle.columns.specs.Gathering.{Pair, Ranges, row_range, gathered}
use Rattle.columns.specs.Runs.{kept, run_ends_from, same_pair}
use Rattle.columns.specs.Sound.{Climbs}
use Rattle.columns.proofs.Run.{entry_first, entry_next}

abbrev pub Every : {X : Type 0} → (X → Type 0) → List X → Type 0
Every P [] = Unit {0}
Every P (x ∷ xs) = P x × Every P xs

pub every_at : {X : Type 0} (P : X → Type 0) (xs : List X) (d : X) → Every P xs → (k : ℕ) → k < length xs → P (get_or xs k d)
every_at P [] d h k l = absurd (omega arith)
every_at P (x ∷ xs) d h zero l = h.0
every_at P (x ∷ xs) d h (suc k) l = every_at P xs d h.1 k (omega arith)

pub every_from : {X : Type 0} (P : X → Type 0) (xs : List X) (d : X) → ((k : ℕ) → k < length xs → P (get_or xs k d)) → Every P xs
every_from P [] d h = tt
every_from P (x ∷ xs) d h = (h 0 (omega arith), every_from P xs d (λ k l. h (suc k) (omega arith)))

pub every_append : {X : Type 0} (P : X → Type 0) (xs ys : List X) → Every P xs → Every P ys → Every P (xs ++ ys)
every_append P [] ys h k = k
every_append P (x ∷ xs) ys h k = (h.0, every_append P xs ys h.1 k)

pub every_joined : {X Y : Type 0} (P : Y → Type 0) (f : X → List Y) (ps : List X) (d : X) → ((k : ℕ) → k < length ps → Every P (f (get_or ps k d))) → Every P (flat_map f ps)
every_joined P f [] d h = tt
every_joined P f (p ∷ ps) d h = every_append P (f p) (flat_map f ps) (h 0 (omega arith)) (every_joined P f ps d (λ k l. h (suc k) (omega arith)))

pub every_map : {X Y : Type 0} (P : Y → Type 0) (f : X → Y) (ps : List X) (d : X) → ((k : ℕ) → k < length ps → P (f (get_or ps k d))) → Every P (map f ps)
every_map P f [] d h = tt
every_map P f (p ∷ ps) d h = (h 0 (omega arith), every_map P f ps d (λ k l. h (suc k) (omega arith)))

every_span : {Y : Type 0} (P : Y → Type 0) (f : ℕ → Y) (a n : ℕ) → ((j : ℕ) → a ≤ j → j < a + n → P (f j)) → Every P (map f (span a n))
every_span P f a zero h = tt
every_span P f a (suc n) h = (h a (omega arith) (omega arith), every_span P f (suc a) n (λ j l u. h j (omega arith) (omega arith)))

pub every_gathered : (P : Pair → Type 0) (R : ℕ → Ranges) (ps : List Pair) →
    ((k : ℕ) → k < length ps → (j : ℕ) → (R (get_or ps k (0, 0)).0).start (get_or ps k (0, 0)).1 ≤ j →
    j < (R (get_or ps k (0, 0)).0).start (get_or ps k (0, 0)).1 + (R (get_or ps k (0, 0)).0).size (get_or ps k (0, 0)).1 → P ((get_or ps k (0, 0)).0, j)) →
    Every P (gathered R ps)
every_gathered P R ps h = every_joined P (row_range R) ps (0, 0) (λ k l. every_span P (λ j. ((get_or ps k (0, 0)).0, j)) _ _ (h k l))

pub every_kept : (P : Pair → Type 0) (es : List Pair) → Every P es → Every P (kept es)
every_kept P [] h = tt
every_kept P (x ∷ []) h = h
every_kept P (x ∷ y ∷ ys) h = go (same_pair x y) (every_kept P (y ∷ ys) h.1)
  where
    go : (t : Bool) → Every P (kept (y ∷ ys)) → Every P (cond t (kept (y ∷ ys)) (x ∷ kept (y ∷ ys)))
    go true k = k
    go false k = (h.0, k)

pub entry_known : (low : ℕ) (es : List ℕ) (top i : ℕ) → Climbs low es top → low ≤ i → i < top → entry es i < length es
entry_known low [] top i c l h = omega arith
entry_known low (e ∷ es) top i c l h = elim (cases_lt i e) [
  | inl b ↦ subst (λ m. m < suc (length es)) (sym (entry_first e es i b)) (omega arith)
  | inr b ↦ subst (λ m. m < suc (length es)) (sym (entry_next e es i b)) (let z = entry_known e es top i c.1 b h in omega arith)
]

pub ends_kept : (a : ℕ) (es : List Pair) → length (run_ends_from a es) ≡ length (kept es)
ends_kept a [] = refl
ends_kept a (x ∷ []) = refl
ends_kept a (x ∷ y ∷ ys) = go (same_pair x y) (ends_kept (suc a) (y ∷ ys))
  where
    go : (t : Bool) → length (run_ends_from (suc a) (y ∷ ys)) ≡ length (kept (y ∷ ys)) →
        length (cond t (run_ends_from (suc a) (y ∷ ys)) (suc a ∷ run_ends_from (suc a) (y ∷ ys))) ≡ length (cond t (kept (y ∷ ys)) (x ∷ kept (y ∷ ys)))
    go true e = e
    go false e = ap suc e
