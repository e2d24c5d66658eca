-- Lists laid end to end, and their running totals.
use Rattle.std.proofs.Common.{◌≡◌, ℕ, zero, suc, ◌+◌, ◌-◌, ◌*◌, ◌<◌, ◌≤◌, List, [], ◌∷◌, ◌++◌, map, length, get_or, take, drop, sym, refl, ap, ◌∙◌, subst, ap₂, zero-mul, add-one, arith, length-append, drop-cons}
use lib.ListN.{length-map}
use Rattle.std.specs.List.{flat_map}
use Rattle.std.proofs.lemmas.List.{take_at, drop_at, drop-drop, get_or-map}
use Rattle.columns.specs.Says.{span, slice}
use Rattle.columns.specs.Gathering.{Pair, Ranges, row_range, gathered, sizes, totals_from}

-- the total of the sizes before place k
abbrev pub before : List ℕ → ℕ → ℕ
before [] k = 0
before (l ∷ ls) zero = 0
before (l ∷ ls) (suc k) = l + before ls k

pub totals_at : (a : ℕ) (ls : List ℕ) (k : ℕ) → k ≤ length ls → get_or (totals_from a ls) k 0 ≡ a + before ls k
totals_at a [] zero h = omega arith
totals_at a [] (suc k) h = omega arith
totals_at a (l ∷ ls) zero h = omega arith
totals_at a (l ∷ ls) (suc k) h = let e = totals_at (a + l) ls k (omega arith) in omega arith

pub length_totals : (a : ℕ) (ls : List ℕ) → length (totals_from a ls) ≡ length ls + 1
length_totals a [] = refl
length_totals a (l ∷ ls) = let e = length_totals (a + l) ls in omega arith

pub before_more : (ls : List ℕ) (k : ℕ) → k < length ls → before ls (suc k) ≡ before ls k + get_or ls k 0
before_more [] k h = omega arith
before_more (l ∷ []) zero h = omega arith
before_more (l ∷ (m ∷ ls)) zero h = omega arith
before_more (l ∷ ls) (suc k) h = let e = before_more ls k (omega arith) in omega arith

pub before_within : (ls : List ℕ) (k : ℕ) → k < length ls → before ls k + get_or ls k 0 ≤ before ls (length ls)
before_within [] k h = omega arith
before_within (l ∷ ls) zero h = omega arith
before_within (l ∷ ls) (suc k) h = let e = before_within ls k (omega arith) in omega arith

pub length_span : (a n : ℕ) → length (span a n) ≡ n
length_span a zero = refl
length_span a (suc n) = ap suc (length_span (suc a) n)

pub before_fixed : {X : Type 0} (N : ℕ) (ps : List X) (k : ℕ) → k ≤ length ps → before (map (λ p. N) ps) k ≡ k * N
before_fixed N [] zero h = sym (zero-mul N)
before_fixed N [] (suc k) h = omega arith
before_fixed N (p ∷ ps) zero h = sym (zero-mul N)
before_fixed N (p ∷ ps) (suc k) h = let e = before_fixed N ps k (omega arith) in omega arith

module _ {X Y : Type 0} (f : X → List Y) where
  pub length_joined : (ps : List X) → length (flat_map f ps) ≡ before (map (λ p. length (f p)) ps) (length ps)
  length_joined [] = refl
  length_joined (p ∷ ps) = length-append (f p) (flat_map f ps) ∙ ap (λ n. length (f p) + n) (length_joined ps)

  pub joined_slice : (ps : List X) (k : ℕ) (d : X) → k < length ps → slice (flat_map f ps) (before (map (λ p. length (f p)) ps) k) (length (f (get_or ps k d))) ≡ f (get_or ps k d)
  joined_slice [] k d h = absurd (omega arith)
  joined_slice (p ∷ ps) zero d h = take_at (f p) (flat_map f ps) (length (f p)) refl
  joined_slice (p ∷ ps) (suc k) d h =
      ap (λ r. take (length (f (get_or ps k d))) r)
      (sym (drop-drop (before (map (λ p. length (f p)) ps) k) (length (f p)) (f p ++ flat_map f ps))
      ∙ ap (λ r. drop (before (map (λ p. length (f p)) ps) k) r) (drop_at (f p) (flat_map f ps) (length (f p)) refl))
      ∙ joined_slice ps k d (omega arith)

-- a function along a run of places is a function of what stands there
pub map_slice : {X Y : Type 0} (f : ℕ → Y) (g : X → Y) (qs : List X) (d : X) (a n : ℕ) → a + n ≤ length qs →
    ((m : ℕ) → m < length qs → f m ≡ g (get_or qs m d)) → map f (span a n) ≡ map g (slice qs a n)
map_slice f g qs d a zero h e = refl
map_slice f g qs d a (suc n) h e =
    ap₂ {C = List _} (λ x xs. x ∷ xs) (e a (omega arith)) (map_slice f g qs d (suc a) n (omega arith) e)
    ∙ ap (λ r. map g (take (suc n) r)) (sym (drop-cons qs a d (omega arith)))

pub map_same : {X Y : Type 0} (f g : X → Y) (xs : List X) (d : X) → ((k : ℕ) → k < length xs → f (get_or xs k d) ≡ g (get_or xs k d)) → map f xs ≡ map g xs
map_same f g [] d e = refl
map_same f g (x ∷ xs) d e = ap₂ {C = List _} (λ y ys. y ∷ ys) (e 0 (omega arith)) (map_same f g xs d (λ k h. e (suc k) (omega arith)))

pub map_map : {X Y Z : Type 0} (f : Y → Z) (g : X → Y) (xs : List X) → map f (map g xs) ≡ map (λ x. f (g x)) xs
map_map f g [] = refl
map_map f g (x ∷ xs) = ap {B = List _} (λ ys. f (g x) ∷ ys) (map_map f g xs)

-- Totals k and k + 1 bound exactly what stands for pair k, in order.
module _ {X Y : Type 0} (f : X → List Y) (size : X → ℕ) (ps : List X) (d : X)
    (LongAs : (k : ℕ) → k < length ps → length (f (get_or ps k d)) ≡ size (get_or ps k d)) where
  sizes_are : map (λ p. length (f p)) ps ≡ map size ps
  sizes_are = map_same (λ p. length (f p)) size ps d LongAs

  pub laid_at : (k : ℕ) → k < length ps → slice (flat_map f ps) (before (map size ps) k) (size (get_or ps k d)) ≡ f (get_or ps k d)
  laid_at k h =
      subst (λ n. slice (flat_map f ps) (before (map size ps) k) n ≡ f (get_or ps k d)) (LongAs k h)
      (subst (λ ls. slice (flat_map f ps) (before ls k) (length (f (get_or ps k d))) ≡ f (get_or ps k d)) sizes_are (joined_slice f ps k d h))

  pub laid_length : length (flat_map f ps) ≡ before (map size ps) (length ps)
  laid_length = length_joined f ps ∙ ap (λ ls. before ls (length ps)) sizes_are

  pub laid_within : (k : ℕ) → k < length ps → before (map size ps) k + size (get_or ps k d) ≤ length (flat_map f ps)
  laid_within k h =
      let e : get_or (map size ps) k 0 ≡ size (get_or ps k d) = get_or-map size ps k d 0 h in
      let w = before_within (map size ps) k (rw length-map h) in
      let l : length (map size ps) ≡ length ps = length-map ps size in
      let z : before (map size ps) (length (map size ps)) ≡ before (map size ps) (length ps) = ap (λ m. before (map size ps) m) l in
      omega (arith, laid_length)

  pub total_start : (k : ℕ) → k < length ps → get_or (totals_from 0 (map size ps)) k 0 ≡ before (map size ps) k
  total_start k h = let e = totals_at 0 (map size ps) k (rw length-map (omega arith)) in omega arith

  pub total_size : (k : ℕ) → k < length ps → get_or (totals_from 0 (map size ps)) (k + 1) 0 - get_or (totals_from 0 (map size ps)) k 0 ≡ size (get_or ps k d)
  total_size k h =
      let e0 = totals_at 0 (map size ps) k (rw length-map (omega arith)) in
      let e1 = totals_at 0 (map size ps) (k + 1) (rw length-map (omega arith)) in
      let m : before (map size ps) (suc k) ≡ before (map size ps) k + get_or (map size ps) k 0 = before_more (map size ps) k (rw length-map h) in
      let m1 : before (map size ps) (k + 1) ≡ before (map size ps) (suc k) = ap (λ i. before (map size ps) i) (add-one k) in
      let g : get_or (map size ps) k 0 ≡ size (get_or ps k d) = get_or-map size ps k d 0 h in
      omega arith

-- The same for gathering, over every list kind.
module _ (R : ℕ → Ranges) (ps : List Pair) where
  size_of : Pair → ℕ
  size_of p = (R p.0).size p.1

  pub range_length : (p : Pair) → length (row_range R p) ≡ (R p.0).size p.1
  range_length p = length-map (span ((R p.0).start p.1) ((R p.0).size p.1)) (λ j. (p.0, j)) ∙ length_span ((R p.0).start p.1) ((R p.0).size p.1)

  pub gathered_row : {Y : Type 0} (k a n : ℕ) → k < length ps → a ≡ before (sizes R ps) k → n ≡ (R (get_or ps k (0, 0)).0).size (get_or ps k (0, 0)).1 →
      (f : ℕ → Y) (g : Pair → Y) → ((m : ℕ) → m < length (gathered R ps) → f m ≡ g (get_or (gathered R ps) m (0, 0))) →
      map f (span a n) ≡ map (λ j. g ((get_or ps k (0, 0)).0, j)) (span ((R (get_or ps k (0, 0)).0).start (get_or ps k (0, 0)).1) ((R (get_or ps k (0, 0)).0).size (get_or ps k (0, 0)).1))
  gathered_row k a n h ea en f g e =
      let p : Pair = get_or ps k (0, 0) in
      let w = laid_within (row_range R) (λ q. (R q.0).size q.1) ps (0, 0) (λ i l. range_length (get_or ps i (0, 0))) k h in
      let s = laid_at (row_range R) (λ q. (R q.0).size q.1) ps (0, 0) (λ i l. range_length (get_or ps i (0, 0))) k h in
      map_slice f g (gathered R ps) (0, 0) a n (omega arith) e
      ∙ ap (λ x. map g (slice (gathered R ps) x n)) ea
      ∙ ap (λ x. map g (slice (gathered R ps) (before (sizes R ps) k) x)) en
      ∙ ap (λ xs. map g xs) s
      ∙ map_map g (λ j. (p.0, j)) (span ((R p.0).start p.1) ((R p.0).size p.1))

pub gathered_length : (R : ℕ → Ranges) (ps : List Pair) → length (gathered R ps) ≡ before (sizes R ps) (length ps)
gathered_length R ps = laid_length (row_range R) (λ q. (R q.0).size q.1) ps (0, 0) (λ i l. range_length R ps (get_or ps i (0, 0)))
