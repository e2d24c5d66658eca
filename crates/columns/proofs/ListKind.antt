-- List kinds, and gathering for every one of them.
use Rattle.std.proofs.Common.{◌≡◌, ℕ, zero, suc, ◌+◌, ◌-◌, ◌*◌, ◌<◌, ◌≤◌, ltb, ◌↔◌, List, [], ◌∷◌, ◌++◌, map, length, get_or, take, drop, sym, refl, ap, ◌∙◌, subst, ap₂, inl, inr, add_assoc, mul-le-mul_right, add-one, arith, length-drop}
use mathlib.Core.Option.{Option, some, none}
use lib.ListN.{length-map}
use Rattle.std.specs.List.{AllByRecursion}
use Rattle.std.proofs.lemmas.List.{get_or-map, get_or-take, get_or-drop, take-append-le, drop-append-le}
use Rattle.std.proofs.ByRecursion.{All-get_or}
use Rattle.std.proofs.lemmas.Bool.{cases_lt, lt-ltb, le-ltb, cond-true, cond-false}
use Rattle.columns.specs.Kinds.{Kind, fixed_lists}
use Rattle.columns.specs.Column.{Node, Column, Columns, node, children, first, rows_of, nothing}
use Rattle.columns.specs.Says.{span, slice}
use Rattle.columns.specs.Gathering.{Pair, pair, Ranges, fixed_ranges, row_range, gathered, sizes, totals, totals_from}
use Rattle.columns.specs.Interleave.{source_ranges}
use Rattle.columns.specs.Sound.{Offsets, KindSound}
use Rattle.columns.specs.Chain.{gathered_ranges, followed}
use Rattle.columns.specs.Limits.{most_rows}
use Rattle.columns.specs.ListKind.{Ranged, ListKind, asked, offset_list, fixed_list, list_of, pooled_list, ListsAreListKinds, no_list, source, ranges_of, Inside, row_start, row_size, child_rows, total, LaidOut, gathered_list, GatheredFrom, GatheringKeepsRanges, GatheringExamples}
use Rattle.columns.proofs.Gather.{before, before_more, before_fixed, totals_at, length_totals, gathered_length, map_same}
use Rattle.columns.proofs.Follow.{joined_both, gathered_at, made_size, gathering_from_gathered}

-- The question.
row_there : (L : Ranged) (i : ℕ) → i < L.rows → asked L i ≡ some (L.ranges.start i, L.ranges.size i)
row_there L i h = cond-true (ltb i L.rows) _ _ (lt-ltb i L.rows h)

row_past : (L : Ranged) (i : ℕ) → L.rows ≤ i → asked L i ≡ none
row_past L i h = cond-false (ltb i L.rows) _ _ (le-ltb i L.rows h)

row_absent : (L : Ranged) (i : ℕ) → (asked L i ≡ none) ↔ (L.rows ≤ i)
row_absent L i = (
  (λ e. elim (cases_lt i L.rows) [ inl h ↦ (let s = row_there L i h in let z : ◌≡◌ {A = ℕ} 0 1 = cc in absurd (omega arith)) | inr h ↦ h ]),
  row_past L i,
)

ends_within : (L : Ranged) → ListKind L → (i start size : ℕ) → asked L i ≡ some (start, size) → start + size ≤ L.child
ends_within L k i start size e =
    elim (cases_lt i L.rows) [
      | inl h ↦ (let s = row_there L i h in let p : ◌≡◌ {A = ℕ × ℕ} (L.ranges.start i, L.ranges.size i) (start, size) = cc in
          let a : L.ranges.start i ≡ start = ap (λ (p : ℕ × ℕ). p.0) p in let b : L.ranges.size i ≡ size = ap (λ (p : ℕ × ℕ). p.1) p in let w = k.within i h in omega arith)
      | inr h ↦ (let s = row_past L i h in let z : ◌≡◌ {A = ℕ} 0 1 = cc in absurd (omega arith))
    ]

-- what never falls from one place to the next never falls
never_falls : (f : ℕ → ℕ) (n : ℕ) → ((i : ℕ) → i < n → f i ≤ f (i + 1)) → (i j : ℕ) → i ≤ j → j ≤ n → f i ≤ f j
never_falls f n step i j h l = let a = by_distance (j - i) i (omega arith) in let e : f (i + (j - i)) ≡ f j = ap f (let z : i + (j - i) ≡ j = omega arith in z) in omega arith
  where
    by_distance : (d i : ℕ) → i + d ≤ n → f i ≤ f (i + d)
    by_distance zero i h = let e : f (i + 0) ≡ f i = ap f (let z : i + 0 ≡ i = omega arith in z) in omega arith
    by_distance (suc d) i h =
        let a = by_distance d i (omega arith) in
        let b = step (i + d) (omega arith) in
        let e : f (i + suc d) ≡ f (i + d + 1) = ap f (let z : i + suc d ≡ i + d + 1 = omega arith in z) in omega arith

offset_lists : (os : List ℕ) (rows child : ℕ) → Offsets os rows child → child ≤ most_rows → ListKind (offset_list os rows child)
offset_lists os rows child o l =
    record {
      child_limit = l;
      within = λ i h. let a = o.never_fall i h in let b = never_falls (λ n. get_or os n 0) rows o.never_fall (i + 1) rows (omega arith) (omega arith) in
          let c = o.end_within in omega arith;
    }

fixed_within : (N i rows : ℕ) → i < rows → i * N + N ≤ rows * N
fixed_within N i rows h = let m = mul-le-mul_right {m = suc i} {n = rows} N h in let e : suc i * N ≡ i * N + N = omega arith in omega arith

fixed_size_lists : (N rows : ℕ) → rows * N ≤ most_rows → ListKind (fixed_list N rows)
fixed_size_lists N rows l = record { child_limit = l; within = λ i h. fixed_within N i rows h }

of_fixed_lists : (D : ℕ → List ℕ) (N : ℕ) (n : Node) (cs : Columns) → KindSound D (fixed_lists N) n cs → rows_of (first cs) ≤ most_rows → ListKind (list_of (fixed_lists N) n cs)
of_fixed_lists D N n cs s l = record { child_limit = l; within = λ i h. let e = s.0 in let w = fixed_within N i n.rows h in omega arith }

-- Offsets in a pool.
in_place : (pool : List ℕ) (place rows i : ℕ) → i < rows + 1 → get_or (slice pool place (rows + 1)) i 0 ≡ get_or pool (place + i) 0
in_place pool place rows i h = get_or-take (rows + 1) (drop place pool) i 0 h ∙ get_or-drop place pool i 0

read_in_place : (pool : List ℕ) (place rows child i : ℕ) → i < rows →
    asked (pooled_list pool place rows child) i ≡ some (get_or pool (place + i) 0, get_or pool (place + i + 1) 0 - get_or pool (place + i) 0)
read_in_place pool place rows child i h =
    let a = in_place pool place rows i (omega arith) in
    let b : get_or (slice pool place (rows + 1)) (i + 1) 0 ≡ get_or pool (place + i + 1) 0 = in_place pool place rows (i + 1) (omega arith) ∙ ap (λ n. get_or pool n 0) (sym (add_assoc place i 1)) in
    row_there (pooled_list pool place rows child) i h ∙ ap₂ {C = Option (ℕ × ℕ)} (λ x y. some (x, y - x)) a b

pool_gains : (pool more : List ℕ) (place rows child : ℕ) → place + rows + 1 ≤ length pool → pooled_list (pool ++ more) place rows child ≡ pooled_list pool place rows child
pool_gains pool more place rows child h =
    ap (λ os. offset_list os rows child)
    (ap (take (rows + 1)) (drop-append-le place pool more (omega arith)) ∙ take-append-le (rows + 1) (drop place pool) more (simp length-drop (omega arith)))

pub lists_are_list_kinds : ListsAreListKinds
lists_are_list_kinds =
    record {
      row_there = row_there;
      row_absent = row_absent;
      ends_within = ends_within;
      offset_lists = offset_lists;
      fixed_size_lists = fixed_size_lists;
      of_lists = λ D n cs s l. offset_lists n.offsets n.rows (rows_of (first cs)) s.0 l;
      of_maps = λ D n cs s l. offset_lists n.offsets n.rows (rows_of (first cs)) s.0 l;
      of_fixed_lists = of_fixed_lists;
      read_in_place = read_in_place;
      pool_gains = pool_gains;
    }

-- Gathering.
module _ (Ls : List Ranged) (ps : List Pair) where
  abbrev R : ℕ → Ranges
  R = ranges_of Ls

  size_count : length (sizes R ps) ≡ length ps
  size_count = length-map ps _

  total_is : (k : ℕ) → k ≤ length ps → total Ls ps k ≡ before (sizes R ps) k
  total_is k h = let e = totals_at 0 (sizes R ps) k (let z = size_count in omega arith) in omega arith

  next_total : (k : ℕ) → k < length ps → total Ls ps (k + 1) ≡ total Ls ps k + row_size Ls (pair ps k)
  next_total k h =
      let a = total_is k (omega arith) in
      let b : total Ls ps (k + 1) ≡ before (sizes R ps) (suc k) = total_is (k + 1) (omega arith) ∙ ap (before (sizes R ps)) (add-one k) in
      let m = before_more (sizes R ps) k (let z = size_count in omega arith) in
      let g : get_or (sizes R ps) k 0 ≡ row_size Ls (pair ps k) = get_or-map (λ (p : Pair). (R p.0).size p.1) ps k (0, 0) 0 h in omega arith

  never_fall : (i j : ℕ) → i ≤ j → j ≤ length ps → total Ls ps i ≤ total Ls ps j
  never_fall = never_falls (total Ls ps) (length ps) (λ k h. let n = next_total k h in omega arith)

  last_total : total Ls ps (length ps) ≡ length (child_rows Ls ps)
  last_total = total_is (length ps) (omega arith) ∙ sym (gathered_length R ps)

  first_total : total Ls ps 0 ≡ 0
  first_total = total_is 0 (omega arith) ∙ start (sizes R ps)
    where
      start : (ls : List ℕ) → before ls 0 ≡ 0
      start [] = refl
      start (l ∷ ls) = refl

  in_order : (k j : ℕ) → k < length ps → j < row_size Ls (pair ps k) → pair (child_rows Ls ps) (total Ls ps k + j) ≡ ((pair ps k).0, row_start Ls (pair ps k) + j)
  in_order k j h l = ap (λ n. pair (child_rows Ls ps) (n + j)) (total_is k (omega arith)) ∙ gathered_at R ps k j h l

  -- the pair in whose range place m lies, among the first n
  found : (n m : ℕ) → n ≤ length ps → m < total Ls ps n → (k : ℕ) × (k < length ps) × (total Ls ps k ≤ m) × (m < total Ls ps (k + 1))
  found zero m h l = absurd (let z = first_total in omega arith)
  found (suc n) m h l =
      elim (cases_lt m (total Ls ps n)) [
        | inl b ↦ found n m (omega arith) b
        | inr b ↦ (n, omega arith, b, subst (λ i. m < total Ls ps i) (sym (add-one n)) l)
      ]

  laid_out : LaidOut Ls ps
  laid_out =
      record {
        total_count = (let z = size_count in let e = length_totals 0 (sizes R ps) in omega arith);
        first_total = first_total;
        next_total = next_total;
        never_fall = never_fall;
        last_total = last_total;
        in_order = in_order;
        none_between = λ m h. found (length ps) m (omega arith) (let z = last_total in omega arith);
      }

  -- place m is row j of pair k's range
  inside_child : AllByRecursion ListKind Ls → Inside Ls ps → (m : ℕ) → m < length (child_rows Ls ps) →
      ((pair (child_rows Ls ps) m).0 < length Ls) × ((pair (child_rows Ls ps) m).1 < (source Ls (pair (child_rows Ls ps) m).0).child)
  inside_child kinds inside m h =
      let f = laid_out.none_between m h in
      let k : ℕ = f.0 in
      let l : k < length ps = f.1 in
      let low : total Ls ps k ≤ m = f.2 in
      let high : m < total Ls ps (k + 1) = f.3 in
      let s = inside.source_known k l in
      let n = next_total k l in
      let w = (All-get_or ListKind Ls (pair ps k).0 no_list s kinds).within (pair ps k).1 (inside.row_known k l) in
      let e : pair (child_rows Ls ps) m ≡ ((pair ps k).0, row_start Ls (pair ps k) + (m - total Ls ps k)) =
      ap (pair (child_rows Ls ps)) (let z : m ≡ total Ls ps k + (m - total Ls ps k) = omega arith in z) ∙ in_order k (m - total Ls ps k) l (omega arith) in
      subst (λ (q : Pair). (q.0 < length Ls) × (q.1 < (source Ls q.0).child)) (sym e) (s, omega arith)

  gathered_is : GatheredFrom Ls ps (gathered_list Ls ps)
  gathered_is = record { rows_are = refl; child_is = refl; starts_are = λ k h. refl; sizes_are = λ k h. let n = next_total k h in omega arith }

  again_list_kind : (G : Ranged) → GatheredFrom Ls ps G → G.child ≤ most_rows → ListKind G
  again_list_kind G g l =
      record {
        child_limit = l;
        within = λ i h. let r = g.rows_are in let c = g.child_is in let k : i < length ps = omega arith in
            let a = g.starts_are i k in let s = g.sizes_are i k in let n = next_total i k in
            let b = never_fall (i + 1) (length ps) (omega arith) (omega arith) in let t = last_total in omega arith;
      }

  -- of fixed-size lists total k is k * N
  module _ (N : ℕ) (fixed : (s : ℕ) → s < length Ls → ranges_of Ls s ≡ fixed_ranges N) (inside : Inside Ls ps) where
    size_fixed : (k : ℕ) → k < length ps → row_size Ls (pair ps k) ≡ N
    size_fixed k h = ap (λ (r : Ranges). r.size (pair ps k).1) (fixed (pair ps k).0 (inside.source_known k h))

    total_fixed : (k : ℕ) → k ≤ length ps → total Ls ps k ≡ k * N
    total_fixed k h =
        total_is k h ∙ ap (λ ls. before ls k) (map_same (λ (p : Pair). (R p.0).size p.1) (λ p. N) ps (0, 0) size_fixed) ∙ before_fixed N ps k h

    fixed_stays_fixed : GatheredFrom Ls ps (fixed_list N (length ps))
    fixed_stays_fixed =
        record { rows_are = refl; child_is = sym (sym last_total ∙ total_fixed (length ps) (omega arith)); starts_are = λ k h. sym (total_fixed k (omega arith)); sizes_are = λ k h. sym (size_fixed k h) }

-- Ranges that agree on the pairs gather alike.
gathers_alike : (Q R : ℕ → Ranges) (ps : List Pair) →
    ((k : ℕ) → k < length ps → ((Q (pair ps k).0).start (pair ps k).1 ≡ (R (pair ps k).0).start (pair ps k).1) × ((Q (pair ps k).0).size (pair ps k).1 ≡ (R (pair ps k).0).size (pair ps k).1)) →
    (totals Q ps ≡ totals R ps) × (gathered Q ps ≡ gathered R ps)
gathers_alike Q R ps alike = (
  ap (totals_from 0) (map_same (λ (p : Pair). (Q p.0).size p.1) (λ (p : Pair). (R p.0).size p.1) ps (0, 0) (λ k h. (alike k h).1)),
  joined_both (row_range Q) (row_range R) ps ps (0, 0) (0, 0) refl
      (λ k h. ap₂ (λ a n. map (λ j. ((pair ps k).0, j)) (span a n)) (alike k h).0 (alike k h).1),
)

interleave_gathers : (K : Kind) (S : List Column) (ps : List Pair) → ((k : ℕ) → k < length ps → (pair ps k).0 < length S) →
    let Ls : List Ranged = map (λ c. list_of K (node c) (children c)) S in
    (totals (source_ranges K S) ps ≡ totals (ranges_of Ls) ps) × (gathered (source_ranges K S) ps ≡ child_rows Ls ps)
interleave_gathers K S ps known =
    gathers_alike (source_ranges K S) (ranges_of (map (λ c. list_of K (node c) (children c)) S)) ps
    (λ k h. let e = get_or-map (λ c. list_of K (node c) (children c)) S (pair ps k).0 nothing no_list (known k h) in
    (ap (λ (L : Ranged). L.ranges.start (pair ps k).1) (sym e), ap (λ (L : Ranged). L.ranges.size (pair ps k).1) (sym e)))

module _ (Ls Gs : List Ranged) (P : ℕ → List Pair) (qs : List Pair) (direct : (a : ℕ) → a < length Gs → Inside Ls (P a))
    (made : (a : ℕ) → a < length Gs → GatheredFrom Ls (P a) (source Gs a)) (inside : Inside Gs qs) where
  row_made : (k : ℕ) → k < length qs → (pair qs k).1 < length (P (pair qs k).0)
  row_made k h = let e = (made (pair qs k).0 (inside.source_known k h)).rows_are in let r = inside.row_known k h in omega arith

  follow_at : (k : ℕ) → k < length qs → pair (followed P qs) k ≡ pair (P (pair qs k).0) (pair qs k).1
  follow_at k h = get_or-map (λ (q : Pair). get_or (P q.0) q.1 (0, 0)) qs k (0, 0) (0, 0) h

  follow_count : length (followed P qs) ≡ length qs
  follow_count = length-map qs _

  inside_direct : Inside Ls (followed P qs)
  inside_direct =
      record {
        source_known = λ k h. let l : k < length qs = (let z = follow_count in omega arith) in
            subst (λ (p : Pair). p.0 < length Ls) (sym (follow_at k l)) ((direct (pair qs k).0 (inside.source_known k l)).source_known (pair qs k).1 (row_made k l));
        row_known = λ k h. let l : k < length qs = (let z = follow_count in omega arith) in
            subst (λ (p : Pair). p.1 < (source Ls p.0).rows) (sym (follow_at k l)) ((direct (pair qs k).0 (inside.source_known k l)).row_known (pair qs k).1 (row_made k l));
      }

  alike : (totals (ranges_of Gs) qs ≡ totals (λ a. gathered_ranges (ranges_of Ls) (P a)) qs) × (child_rows Gs qs ≡ gathered (λ a. gathered_ranges (ranges_of Ls) (P a)) qs)
  alike =
      gathers_alike (ranges_of Gs) (λ a. gathered_ranges (ranges_of Ls) (P a)) qs
      (λ k h. let m = made (pair qs k).0 (inside.source_known k h) in (
        m.starts_are (pair qs k).1 (row_made k h),
        m.sizes_are (pair qs k).1 (row_made k h) ∙ sym (made_size (ranges_of Ls) (P (pair qs k).0) (pair qs k).1 (row_made k h)),
      ))

  from_gathered : Inside Ls (followed P qs)
      × (totals (ranges_of Gs) qs ≡ totals (ranges_of Ls) (followed P qs))
      × (followed (λ a. child_rows Ls (P a)) (child_rows Gs qs) ≡ child_rows Ls (followed P qs))
  from_gathered =
      let g = gathering_from_gathered (ranges_of Ls) P qs row_made in
      (inside_direct, alike.0 ∙ g.0, ap (followed (λ a. child_rows Ls (P a))) alike.1 ∙ g.1)

pub gathering_keeps_ranges : GatheringKeepsRanges
gathering_keeps_ranges =
    record {
      laid_out = laid_out;
      inside_child = inside_child;
      again_list_kind = again_list_kind;
      gathered_is = gathered_is;
      fixed_stays_fixed = λ N Ls ps f i. fixed_stays_fixed Ls ps N f i;
      from_gathered = from_gathered;
      interleave_gathers = interleave_gathers;
    }

pub gathering_examples : GatheringExamples
gathering_examples = record { third_row = refl; no_such_row = refl; running = refl; end_to_end = refl; of_no_pairs = refl }
