-- Gathering from gathered sources.
use Rattle.std.proofs.Common.{◌≡◌, ℕ, zero, suc, ◌+◌, ◌-◌, ◌<◌, List, [], ◌∷◌, ◌++◌, map, length, get_or, sym, refl, ap, ◌∙◌, ap₂, add-zero, arith}
use Rattle.std.specs.List.{flat_map}
use Rattle.std.proofs.lemmas.List.{map-append}
use Rattle.columns.specs.Says.{span}
use Rattle.columns.specs.Gathering.{Pair, Ranges, row_range, gathered, sizes, totals, totals_from}
use Rattle.columns.specs.Chain.{gathered_ranges, followed, GatheringFromGathered}
use Rattle.columns.proofs.Gather.{before, map_map, total_start, total_size, range_length, gathered_row}

pub map_both : {X Y Z : Type 0} (f : X → Z) (g : Y → Z) (xs : List X) (ys : List Y) (d : X) (e : Y) → length xs ≡ length ys →
    ((k : ℕ) → k < length xs → f (get_or xs k d) ≡ g (get_or ys k e)) → map f xs ≡ map g ys
map_both f g [] [] d e l h = refl
map_both f g [] (y ∷ ys) d e l h = absurd (omega arith)
map_both f g (x ∷ xs) [] d e l h = absurd (omega arith)
map_both f g (x ∷ xs) (y ∷ ys) d e l h = ap₂ {C = List _} (λ a b. a ∷ b) (h 0 (omega arith)) (map_both f g xs ys d e (omega arith) (λ k b. h (suc k) (omega arith)))

pub joined_both : {X Y Z : Type 0} (f : X → List Z) (g : Y → List Z) (xs : List X) (ys : List Y) (d : X) (e : Y) → length xs ≡ length ys →
    ((k : ℕ) → k < length xs → f (get_or xs k d) ≡ g (get_or ys k e)) → flat_map f xs ≡ flat_map g ys
joined_both f g [] [] d e l h = refl
joined_both f g [] (y ∷ ys) d e l h = absurd (omega arith)
joined_both f g (x ∷ xs) [] d e l h = absurd (omega arith)
joined_both f g (x ∷ xs) (y ∷ ys) d e l h = ap₂ (λ a b. a ++ b) (h 0 (omega arith)) (joined_both f g xs ys d e (omega arith) (λ k b. h (suc k) (omega arith)))

pub map_joined : {X Y Z : Type 0} (g : Y → Z) (f : X → List Y) (ps : List X) → map g (flat_map f ps) ≡ flat_map (λ p. map g (f p)) ps
map_joined g f [] = refl
map_joined g f (p ∷ ps) = map-append g (f p) (flat_map f ps) ∙ ap (λ r. map g (f p) ++ r) (map_joined g f ps)

pub map_span : {Y : Type 0} (f g : ℕ → Y) (a b n : ℕ) → ((j : ℕ) → j < n → f (a + j) ≡ g (b + j)) → map f (span a n) ≡ map g (span b n)
map_span f g a b zero h = refl
map_span f g a b (suc n) h =
    ap₂ {C = List _} (λ x xs. x ∷ xs) (ap f (sym (add-zero a)) ∙ h 0 (omega arith) ∙ ap g (add-zero b))
    (map_span f g (suc a) (suc b) n (λ j l. ap f (omega arith) ∙ h (suc j) (omega arith) ∙ ap g (omega arith)))

pub span_at : {Y : Type 0} (f : ℕ → Y) (a n j : ℕ) (d : Y) → j < n → get_or (map f (span a n)) j d ≡ f (a + j)
span_at f a zero j d h = absurd (omega arith)
span_at f a (suc n) zero d h = ap f (sym (add-zero a))
span_at f a (suc n) (suc j) d h = span_at f (suc a) n j d (omega arith) ∙ ap f (omega arith)

-- child row j of pair k's range, where it was laid
pub gathered_at : (R : ℕ → Ranges) (ps : List Pair) (k j : ℕ) → k < length ps → j < (R (get_or ps k (0, 0)).0).size (get_or ps k (0, 0)).1 →
    get_or (gathered R ps) (before (sizes R ps) k + j) (0, 0) ≡ ((get_or ps k (0, 0)).0, (R (get_or ps k (0, 0)).0).start (get_or ps k (0, 0)).1 + j)
gathered_at R ps k j h l =
    let p : Pair = get_or ps k (0, 0) in
    let n : ℕ = (R p.0).size p.1 in
    sym (span_at (λ m. get_or (gathered R ps) m (0, 0)) (before (sizes R ps) k) n j (0, 0) l)
    ∙ ap (λ xs. get_or xs j (0, 0)) (gathered_row R ps k (before (sizes R ps) k) n h refl refl (λ m. get_or (gathered R ps) m (0, 0)) (λ q. q) (λ m b. refl))
    ∙ span_at (λ i. (p.0, i)) ((R p.0).start p.1) n j (0, 0) l

pub made_start : (R : ℕ → Ranges) (ps : List Pair) (k : ℕ) → k < length ps → get_or (totals R ps) k 0 ≡ before (sizes R ps) k
made_start R ps k h = total_start (row_range R) (λ q. (R q.0).size q.1) ps (0, 0) (λ i l. range_length R ps (get_or ps i (0, 0))) k h

pub made_size : (R : ℕ → Ranges) (ps : List Pair) (k : ℕ) → k < length ps →
    get_or (totals R ps) (k + 1) 0 - get_or (totals R ps) k 0 ≡ (R (get_or ps k (0, 0)).0).size (get_or ps k (0, 0)).1
made_size R ps k h = total_size (row_range R) (λ q. (R q.0).size q.1) ps (0, 0) (λ i l. range_length R ps (get_or ps i (0, 0))) k h

pub gathering_from_gathered : GatheringFromGathered
gathering_from_gathered R P qs inside = (ap (totals_from 0) same_sizes, same_rows)
  where
    lead : Pair → Pair
    lead q = get_or (P q.0) q.1 (0, 0)

    M : ℕ → Ranges
    M a = gathered_ranges R (P a)

    size_at : (k : ℕ) → k < length qs → (M (get_or qs k (0, 0)).0).size (get_or qs k (0, 0)).1 ≡ (R (lead (get_or qs k (0, 0))).0).size (lead (get_or qs k (0, 0))).1
    size_at k l = made_size R (P (get_or qs k (0, 0)).0) (get_or qs k (0, 0)).1 (inside k l)

    same_sizes : sizes M qs ≡ sizes R (followed P qs)
    same_sizes =
        map_both (λ q. (M q.0).size q.1) (λ q. (R (lead q).0).size (lead q).1) qs qs (0, 0) (0, 0) refl size_at
        ∙ sym (map_map (λ (p : Pair). (R p.0).size p.1) lead qs)

    row_at : (k : ℕ) → k < length qs → map (λ q. get_or (gathered R (P q.0)) q.1 (0, 0)) (row_range M (get_or qs k (0, 0))) ≡ row_range R (lead (get_or qs k (0, 0)))
    row_at k l =
        let q : Pair = get_or qs k (0, 0) in
        map_map (λ (q : Pair). get_or (gathered R (P q.0)) q.1 (0, 0)) (λ j. (q.0, j)) (span ((M q.0).start q.1) ((M q.0).size q.1))
        ∙ ap (λ n. map (λ j. get_or (gathered R (P q.0)) j (0, 0)) (span ((M q.0).start q.1) n)) (size_at k l)
        ∙ map_span (λ j. get_or (gathered R (P q.0)) j (0, 0)) (λ j. ((lead q).0, j)) ((M q.0).start q.1) ((R (lead q).0).start (lead q).1) ((R (lead q).0).size (lead q).1)
        (λ j b. ap (λ x. get_or (gathered R (P q.0)) (x + j) (0, 0)) (made_start R (P q.0) q.1 (inside k l))
        ∙ gathered_at R (P q.0) q.1 j (inside k l) b)

    same_rows : followed (λ a. gathered R (P a)) (gathered M qs) ≡ gathered R (followed P qs)
    same_rows =
        map_joined (λ (q : Pair). get_or (gathered R (P q.0)) q.1 (0, 0)) (row_range M) qs
        ∙ joined_both (λ p. map (λ (q : Pair). get_or (gathered R (P q.0)) q.1 (0, 0)) (row_range M p)) (λ q. row_range R (lead q)) qs qs (0, 0) (0, 0) refl row_at
        ∙ sym (Rattle.columns.proofs.Buffer.joined_map (row_range R) lead qs)
