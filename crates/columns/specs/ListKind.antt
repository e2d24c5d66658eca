-- What a list kind means, and gathering for every list kind.
use Rattle.std.specs.Prelude.{◌≡◌, ℕ, ◌+◌, ◌-◌, ◌*◌, ◌<◌, ◌≤◌, cond, ◌↔◌, List, [], ◌∷◌, ◌++◌, map, length, nat_lt, slice_index, slice_index_or}
use Rattle.std.proofs.Math.Option.{Option, some, none}
use Rattle.std.specs.List.{AllByRecursion}
use Rattle.columns.specs.Kinds.{Kind, lists, maps, fixed_lists}
use Rattle.columns.specs.Column.{Node, Column, Columns, node, children, first, rows_of}
use Rattle.columns.specs.Says.{slice}
use Rattle.columns.specs.Gathering.{Pair, pair, Ranges, ranges, fixed_ranges, gathered, totals}
use Rattle.columns.specs.Interleave.{source_ranges}
use Rattle.columns.specs.Sound.{Offsets, KindSound}
use Rattle.columns.specs.Chain.{gathered_ranges, followed}
use Rattle.columns.specs.Limits.{most_rows}

-- Rows over a child: how many there are, how many the child has, and each row's range.
pub record Ranged : Type 0 where
  pub rows : ℕ
  pub child : ℕ
  pub ranges : Ranges

-- They are of a list kind when each range ends within the child, which has 1,048,576 rows at most.
pub record ListKind (L : Ranged) : Type 0 where
  pub child_limit : L.child ≤ most_rows
  pub within : (i : ℕ) → i < L.rows → L.ranges.start i + L.ranges.size i ≤ L.child

-- the question that is asked of a list kind: a row's start and length, or nothing
abbrev pub asked : Ranged → ℕ → Option (ℕ × ℕ)
asked L i = cond (nat_lt i L.rows) (some (L.ranges.start i, L.ranges.size i)) none

-- Offset lists and maps read offsets, fixed-size lists multiply.
abbrev pub offset_list : (offsets : List ℕ) (rows child : ℕ) → Ranged
offset_list os rows child =
    record { rows = rows; child = child; ranges = record { start = λ i. slice_index os i; size = λ i. slice_index os (i + 1) - slice_index os i } }

abbrev pub fixed_list : (N rows : ℕ) → Ranged
fixed_list N rows = record { rows = rows; child = rows * N; ranges = fixed_ranges N }

abbrev pub list_of : Kind → Node → Columns → Ranged
list_of K n cs = record { rows = n.rows; child = rows_of (first cs); ranges = ranges K n }

-- the offsets of a list that begin at a place of a pool
abbrev pub pooled_list : (pool : List ℕ) (place rows child : ℕ) → Ranged
pooled_list pool place rows child = offset_list (slice pool place (rows + 1)) rows child

pub record ListsAreListKinds : Type 0 where
  -- the answer is absent exactly when the row is not below the count, and ends within the child
  pub row_there : (L : Ranged) (i : ℕ) → i < L.rows → asked L i ≡ some (L.ranges.start i, L.ranges.size i)
  pub row_absent : (L : Ranged) (i : ℕ) → (asked L i ≡ none) ↔ (L.rows ≤ i)
  pub ends_within : (L : Ranged) → ListKind L → (i start size : ℕ) → asked L i ≡ some (start, size) → start + size ≤ L.child
  pub offset_lists : (os : List ℕ) (rows child : ℕ) → Offsets os rows child → child ≤ most_rows → ListKind (offset_list os rows child)
  pub fixed_size_lists : (N rows : ℕ) → rows * N ≤ most_rows → ListKind (fixed_list N rows)
  -- sound nodes whose child has no more rows than a node may have
  pub of_lists : (data_buffer : ℕ → List ℕ) (n : Node) (cs : Columns) → KindSound data_buffer lists n cs → rows_of (first cs) ≤ most_rows → ListKind (list_of lists n cs)
  pub of_maps : (data_buffer : ℕ → List ℕ) (n : Node) (cs : Columns) → KindSound data_buffer maps n cs → rows_of (first cs) ≤ most_rows → ListKind (list_of maps n cs)
  pub of_fixed_lists : (data_buffer : ℕ → List ℕ) (N : ℕ) (n : Node) (cs : Columns) → KindSound data_buffer (fixed_lists N) n cs → rows_of (first cs) ≤ most_rows →
      ListKind (list_of (fixed_lists N) n cs)
  -- a pool's offsets where they stand, and one answer whatever the pool gains
  pub read_in_place : (pool : List ℕ) (place rows child i : ℕ) → i < rows →
      asked (pooled_list pool place rows child) i ≡ some (slice_index pool (place + i), slice_index pool (place + i + 1) - slice_index pool (place + i))
  pub pool_gains : (pool more : List ℕ) (place rows child : ℕ) → place + rows + 1 ≤ length pool →
      pooled_list (pool ++ more) place rows child ≡ pooled_list pool place rows child

-- Sources of a gathering; a position past them is a list of no rows.
abbrev pub no_list : Ranged
no_list = fixed_list 0 0

abbrev pub source : List Ranged → ℕ → Ranged
source Ls s = slice_index_or Ls s no_list

abbrev pub ranges_of : List Ranged → ℕ → Ranges
ranges_of Ls s = (source Ls s).ranges

-- no pair is outside
pub record Inside (Ls : List Ranged) (ps : List Pair) : Type 0 where
  pub source_known : (k : ℕ) → k < length ps → (pair ps k).0 < length Ls
  pub row_known : (k : ℕ) → k < length ps → (pair ps k).1 < (source Ls (pair ps k).0).rows

abbrev pub row_start : List Ranged → Pair → ℕ
row_start Ls p = (ranges_of Ls p.0).start p.1

abbrev pub row_size : List Ranged → Pair → ℕ
row_size Ls p = (ranges_of Ls p.0).size p.1

abbrev pub child_rows : List Ranged → List Pair → List Pair
child_rows Ls ps = gathered (ranges_of Ls) ps

abbrev pub total : List Ranged → List Pair → ℕ → ℕ
total Ls ps k = slice_index (totals (ranges_of Ls) ps) k

-- Totals k and k + 1 bound exactly the child rows of pair k's range, in order.
pub record LaidOut (Ls : List Ranged) (ps : List Pair) : Type 0 where
  pub total_count : length (totals (ranges_of Ls) ps) ≡ length ps + 1
  pub first_total : total Ls ps 0 ≡ 0
  pub next_total : (k : ℕ) → k < length ps → total Ls ps (k + 1) ≡ total Ls ps k + row_size Ls (pair ps k)
  pub never_fall : (i j : ℕ) → i ≤ j → j ≤ length ps → total Ls ps i ≤ total Ls ps j
  pub last_total : total Ls ps (length ps) ≡ length (child_rows Ls ps)
  pub in_order : (k j : ℕ) → k < length ps → j < row_size Ls (pair ps k) → pair (child_rows Ls ps) (total Ls ps k + j) ≡ ((pair ps k).0, row_start Ls (pair ps k) + j)
  pub none_between : (m : ℕ) → m < length (child_rows Ls ps) → (k : ℕ) × (k < length ps) × (total Ls ps k ≤ m) × (m < total Ls ps (k + 1))

-- the rows that the pairs made: their child is what was gathered, their ranges are the totals
abbrev pub gathered_list : List Ranged → List Pair → Ranged
gathered_list Ls ps = record { rows = length ps; child = length (child_rows Ls ps); ranges = gathered_ranges (ranges_of Ls) ps }

-- Rows that the pairs made, whether they read the totals or multiply.
pub record GatheredFrom (Ls : List Ranged) (ps : List Pair) (G : Ranged) : Type 0 where
  pub rows_are : G.rows ≡ length ps
  pub child_is : G.child ≡ length (child_rows Ls ps)
  pub starts_are : (k : ℕ) → k < length ps → G.ranges.start k ≡ total Ls ps k
  pub sizes_are : (k : ℕ) → k < length ps → G.ranges.size k ≡ row_size Ls (pair ps k)

pub record GatheringKeepsRanges : Type 0 where
  pub laid_out : (Ls : List Ranged) (ps : List Pair) → LaidOut Ls ps
  -- every gathered pair names a known source, and a row of its child
  pub inside_child : (Ls : List Ranged) (ps : List Pair) → AllByRecursion ListKind Ls → Inside Ls ps → (m : ℕ) → m < length (child_rows Ls ps) →
      ((pair (child_rows Ls ps) m).0 < length Ls) × ((pair (child_rows Ls ps) m).1 < (source Ls (pair (child_rows Ls ps) m).0).child)
  -- what the pairs made is again of a list kind, if not too long; from fixed-size lists it is a fixed-size list
  pub gathered_is : (Ls : List Ranged) (ps : List Pair) → GatheredFrom Ls ps (gathered_list Ls ps)
  pub again_list_kind : (Ls : List Ranged) (ps : List Pair) (G : Ranged) → GatheredFrom Ls ps G → G.child ≤ most_rows → ListKind G
  pub fixed_stays_fixed : (N : ℕ) (Ls : List Ranged) (ps : List Pair) → ((s : ℕ) → s < length Ls → ranges_of Ls s ≡ fixed_ranges N) → Inside Ls ps →
      GatheredFrom Ls ps (fixed_list N (length ps))
  -- Gathering from gathered sources, followed back, gives the totals and child rows of gathering directly. Source a was
  -- made from Ls by the pairs `P a`.
  pub from_gathered : (Ls Gs : List Ranged) (P : ℕ → List Pair) (qs : List Pair) →
      ((a : ℕ) → a < length Gs → Inside Ls (P a)) → ((a : ℕ) → a < length Gs → GatheredFrom Ls (P a) (source Gs a)) → Inside Gs qs →
      Inside Ls (followed P qs)
      × (totals (ranges_of Gs) qs ≡ totals (ranges_of Ls) (followed P qs))
      × (followed (λ a. child_rows Ls (P a)) (child_rows Gs qs) ≡ child_rows Ls (followed P qs))
  -- an interleave gathers the child rows of its sources' nodes
  pub interleave_gathers : (K : Kind) (S : List Column) (ps : List Pair) → ((k : ℕ) → k < length ps → (pair ps k).0 < length S) →
      let Ls : List Ranged = map (λ c. list_of K (node c) (children c)) S in
      (totals (source_ranges K S) ps ≡ totals (ranges_of Ls) ps) × (gathered (source_ranges K S) ps ≡ child_rows Ls ps)

-- An offset list and a list of fixed size, and pairs that take rows of both.
abbrev pub two_lists : List Ranged
two_lists = offset_list (0 ∷ 2 ∷ 2 ∷ 5 ∷ []) 3 5 ∷ fixed_list 2 3 ∷ []

pub record GatheringExamples : Type 0 where
  pub third_row : map (λ L. asked L 2) two_lists ≡ some (2, 3) ∷ some (4, 2) ∷ []
  pub no_such_row : map (λ L. asked L 3) two_lists ≡ none ∷ none ∷ []
  pub running : totals (ranges_of two_lists) ((1, 2) ∷ (0, 1) ∷ (0, 2) ∷ []) ≡ 0 ∷ 2 ∷ 2 ∷ 5 ∷ []
  pub end_to_end : child_rows two_lists ((1, 2) ∷ (0, 1) ∷ (0, 2) ∷ []) ≡ (1, 4) ∷ (1, 5) ∷ (0, 2) ∷ (0, 3) ∷ (0, 4) ∷ []
  pub of_no_pairs : totals (ranges_of two_lists) [] ≡ 0 ∷ []
