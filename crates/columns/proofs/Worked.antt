-- The worked runs hold by computing.
use Rattle.std.proofs.Common.{◌≡◌, ℕ, leb, [], ◌∷◌, length, drop, refl, ap}
use mathlib.Core.Option.{Option, some}
use Rattle.columns.specs.Checks.{Denial, denial, denied_or, unless, first_denial}
use Rattle.columns.specs.Format.{kind_of, offset_bytes, ends_format}
use Rattle.columns.specs.Says.{says}
use Rattle.columns.specs.Text.{text}
use Rattle.columns.specs.Interleave.{interleaved}
use Rattle.columns.specs.Types.{alike}
use Rattle.columns.specs.Parcel.{node_read}
use Rattle.columns.specs.Pools.{column_needs, format_bytes, making_checks}
use Rattle.columns.specs.Ledger.{shelf_of, interleave_checks}
use Rattle.columns.specs.Cases.{LedgerCases, FormatCases}
use Rattle.columns.specs.Large.{LargeCases}

pub ledger_cases : LedgerCases
unfolding kind_of offset_bytes ends_format says text interleaved node_read column_needs format_bytes making_checks shelf_of alike
ledger_cases = record {
  the_run = refl;
  header_cut = refl;
  format_cut = refl;
  buffer_cut = refl;
  bytes_left = refl;
  unknown_format = refl;
  child_count = refl;
  masked_runs = refl;
  too_few_values = refl;
  offset_below_zero = refl;
  offsets_from_below_zero = refl;
  ends_short = refl;
  runs_read = refl;
  list_read = refl;
  no_source = refl;
  source_limit = refl;
  unlike_no_pairs = refl;
  unknown_column = refl;
  fieldless_outside = refl;
  buffer_by_number = refl;
  full_bytes = refl;
  labels_read_whole = refl;
  highest_bit_names = refl;
  own_buffer_named = refl;
  eight_levels = refl;
  many_nodes = refl;
  runs_of_bytes = refl;
  map_of_bytes = refl;
  row_limit = refl;
  full_slip = refl;
  bits_lowest_first = refl;
  highest_byte_first = refl;
  large_strings = refl;
  data_bytes = refl;
  data_bytes_full = refl;
  data_buffers_full = refl;
  unsound_before_full = refl;
  mask_and_bits = refl;
  mask_and_bits_full = refl;
  slip_is_back = refl;
}

pub format_cases : FormatCases
unfolding kind_of offset_bytes
format_cases = record { one_byte = refl; two_byte = refl; four_byte = refl; eight_byte = refl; zones = refl; sizes = refl; no_such = refl; wide_offsets = refl }

over_count : (n : ℕ) (next : Option Denial) → n ≡ 1048577 → denied_or 5 (unless (leb n 1048576) n) next ≡ some (denial 5 1048577)
over_count n next e = ap (λ m. denied_or 5 (unless (leb m 1048576) m) next) e

pub large_cases : LargeCases
unfolding kind_of offset_bytes interleaved
large_cases =
    record {
      last_fits = refl;
      first_over = refl;
      over_32_bits = refl;
      within_64_bits = refl;
      too_many_pairs = λ lengths s ps e. over_count (length ps) (first_denial (drop 3 (interleave_checks lengths s (0 ∷ []) ps))) e;
      most_pairs = λ lengths s ps e. ap (λ n. (5, unless (leb n 1048576) n)) e;
    }
