-- Interleaves of interleaves: gathering from gathered sources, and what is the same in the layout of two columns.
use Rattle.std.specs.Prelude.{◌≡◌, ℕ, ◌+◌, ◌-◌, ◌<◌, false, List, map, length, slice_index, slice_index_or}
use Rattle.columns.specs.Kinds.{is_run_ended}
use Rattle.columns.specs.Column.{Column, Columns, column, end, ◌&◌, kind}
use Rattle.columns.specs.Gathering.{Pair, pair, Ranges, gathered, totals}

-- Gathering from gathered sources. Source a was made from the sources of ranges R by the pairs `P a`: its row k has
-- the child rows from total k up to total k + 1.
abbrev pub gathered_ranges : (ℕ → Ranges) → List Pair → Ranges
gathered_ranges R ps =
    record { start = λ k. slice_index (totals R ps) k; size = λ k. slice_index (totals R ps) (k + 1) - slice_index (totals R ps) k }

abbrev pub followed : (ℕ → List Pair) → List Pair → List Pair
followed P qs = map (λ q. slice_index_or (P q.0) q.1 (0, 0)) qs

abbrev pub GatheringFromGathered : Type 0
GatheringFromGathered =
    (R : ℕ → Ranges) (P : ℕ → List Pair) (qs : List Pair) →
    ((k : ℕ) → k < length qs → (pair qs k).1 < length (P (pair qs k).0)) →
    (totals (λ a. gathered_ranges R (P a)) qs ≡ totals R (followed P qs))
    × (followed (λ a. gathered R (P a)) (gathered (λ a. gathered_ranges R (P a)) qs) ≡ gathered R (followed P qs))

unfoldable mutual
  pub NoRunEnds : Column → Type 0
  NoRunEnds (column n cs) = (is_run_ended (kind n) ≡ false) × NoneRunEnded cs

  pub NoneRunEnded : Columns → Type 0
  NoneRunEnded end = Unit {0}
  NoneRunEnded (c & cs) = NoRunEnds c × NoneRunEnded cs

-- The same offsets, views and buffer lists at every depth.
unfoldable mutual
  pub SameLayout : Column → Column → Type 0
  SameLayout (column n cs) (column m ds) = (n.offsets ≡ m.offsets) × (n.views ≡ m.views) × (n.buffers ≡ m.buffers) × SameLayouts cs ds

  pub SameLayouts : Columns → Columns → Type 0
  SameLayouts end end = Unit {0}
  SameLayouts end (d & ds) = ⊥
  SameLayouts (c & cs) end = ⊥
  SameLayouts (c & cs) (d & ds) = SameLayout c d × SameLayouts cs ds
