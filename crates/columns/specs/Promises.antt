-- What filing and interleaving promise: sound columns, and rows that follow the pairs.
use Rattle.std.specs.Prelude.{◌≡◌, ℕ, ◌<◌, ◌≤◌, List, [], ◌++◌, length, slice_index_or}
use Rattle.std.proofs.Math.Option.{none}
use Rattle.std.specs.List.{AllByRecursion}
use Rattle.columns.specs.Column.{Column, rows_of, at}
use Rattle.columns.specs.Says.{says}
use Rattle.columns.specs.Gathering.{Pair, pair}
use Rattle.columns.specs.Interleave.{interleave}
use Rattle.columns.specs.Types.{SameType}
use Rattle.columns.specs.Sound.{Sound, ListsShelved}
use Rattle.columns.specs.Limits.{depth, node_count, most_rows, WithinLimits}
use Rattle.columns.specs.Widths.{Bytes, WithinWidths}
use Rattle.columns.specs.Checks.{first_denial}
use Rattle.columns.specs.Reading.{Place, reached}
use Rattle.columns.specs.Parcel.{Found, parcel_read}
use Rattle.columns.specs.Pools.{Entries, making_checks}

-- A parcel that meets no denial decodes to a sound column within the limits, and only adds data buffers; if it is one of
-- bytes, its numbers fit.
pub record WellRead (shelved : List (List ℕ)) (parcel : List ℕ) (f : Found) (p : Place) : Type 0 where
  pub only_adds : (more : List (List ℕ)) × (p.buffers ≡ shelved ++ more)
  pub sound : Sound (λ b. slice_index_or p.buffers b []) f.found
  pub lists_shelved : ListsShelved (length p.buffers) f.found
  pub within_limits : WithinLimits f.found
  pub within_widths : Bytes parcel → WithinWidths f.found
  pub buffers_of_bytes : Bytes parcel → AllByRecursion Bytes shelved → AllByRecursion Bytes p.buffers

abbrev pub ParcelIsSound : Type 0
ParcelIsSound =
    (shelved : List (List ℕ)) (parcel : List ℕ) (f : Found) (p : Place) → parcel_read shelved parcel ≡ reached f p → first_denial f.checks ≡ none →
    WellRead shelved parcel f p

-- What an interleave is accepted for: sound sources of one type, and pairs that name rows of theirs.
pub record Accepted (data_buffer : ℕ → List ℕ) (c : Column) (S : List Column) (ps : List Pair) : Type 0 where
  pub sound : (s : ℕ) → s < length S → Sound data_buffer (at S s)
  pub same : (s : ℕ) → s < length S → SameType c (at S s)
  pub source_known : (k : ℕ) → k < length ps → (pair ps k).0 < length S
  pub row_known : (k : ℕ) → k < length ps → (pair ps k).1 < rows_of (at S (pair ps k).0)

-- n pairs give n rows, and row k says what pair k's row says.
abbrev pub RowsFollowPairs : Type 0
RowsFollowPairs =
    (data_buffer : ℕ → List ℕ) (S : List Column) (ps : List Pair) → Accepted data_buffer (at S 0) S ps →
    (rows_of (interleave S ps) ≡ length ps)
    × ((k : ℕ) → k < length ps → says data_buffer (interleave S ps) k ≡ says data_buffer (at S (pair ps k).0) (pair ps k).1)

-- The made column is sound, and has its sources' type, depth and number of nodes. If no check of its nodes fails, whatever
-- the pools, it is within the limits, and then its numbers fit where its sources' do.
pub record MadeWell (data_buffer : ℕ → List ℕ) (S : List Column) (ps : List Pair) : Type 0 where
  pub sound : Sound data_buffer (interleave S ps)
  pub lists_shelved : (many : ℕ) → ((s : ℕ) → s < length S → ListsShelved many (at S s)) → ListsShelved many (interleave S ps)
  pub same_type : SameType (interleave S ps) (at S 0)
  pub same_depth : depth (interleave S ps) ≡ depth (at S 0)
  pub same_count : node_count (interleave S ps) ≡ node_count (at S 0)
  pub within_limits : (lengths marks : Entries) → length ps ≤ most_rows → WithinLimits (at S 0) →
      first_denial (making_checks lengths marks (interleave S ps)) ≡ none → WithinLimits (interleave S ps)
  pub within_widths : WithinLimits (interleave S ps) → ((s : ℕ) → s < length S → WithinWidths (at S s)) → WithinWidths (interleave S ps)

abbrev pub MadeColumnIsSound : Type 0
MadeColumnIsSound =
    (data_buffer : ℕ → List ℕ) (S : List Column) (ps : List Pair) → 0 < length S → Accepted data_buffer (at S 0) S ps → MadeWell data_buffer S ps
