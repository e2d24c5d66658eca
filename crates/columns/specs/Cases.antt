-- Runs and denials of the plain ledger, worked out.
use Rattle.std.specs.Prelude.{◌≡◌, ℕ, zero, suc, cond, List, [], ◌∷◌, ◌++◌, map, replicate, codes, ◌==◌}
use Rattle.std.specs.List.{flat_map}
use Rattle.columns.specs.Kinds.{primitive, fixed_lists, unknown}
use Rattle.columns.specs.Format.{kind_of, offset_bytes}
use Rattle.columns.specs.Checks.{denial}
use Rattle.columns.specs.Pools.{Entries}
use Rattle.columns.specs.Ledger.{filing, interleaving, Call, adds, reads, empty, Answer, added, wrote, refused, answers}

abbrev plenty : Entries
plenty = replicate 11 2048

abbrev pub ran : List Call → List Answer
ran calls = answers plenty empty calls

abbrev file : List ℕ → Call
file parcel = adds (filing parcel)

-- a head: mask bit and format length, label, child count, rows; then the format
abbrev head : (first count rows : ℕ) → List ℕ → List ℕ
head first count rows format = first ∷ 0 ∷ 0 ∷ count ∷ 0 ∷ 0 ∷ 0 ∷ rows ∷ format

abbrev two_bytes : List ℕ
two_bytes = head 1 0 2 (codes "C") ++ 0 ∷ 0 ∷ 0 ∷ 2 ∷ 7 ∷ 9 ∷ []

-- two numbers of 16 bits
abbrev two_shorts : List ℕ
two_shorts = head 1 0 2 (codes "s") ++ 0 ∷ 0 ∷ 0 ∷ 4 ∷ 1 ∷ 2 ∷ 254 ∷ 255 ∷ []

abbrev two_signed : List ℕ
two_signed = head 1 0 2 (codes "c") ++ 0 ∷ 0 ∷ 0 ∷ 2 ∷ 7 ∷ 9 ∷ []

abbrev long_view : List ℕ
long_view = 13 ∷ 0 ∷ 0 ∷ 0 ∷ codes "abcd" ++ 0 ∷ 0 ∷ 0 ∷ 0 ∷ 0 ∷ 0 ∷ 0 ∷ 0 ∷ []

-- no view, and one data buffer, whose length or number follows
abbrev no_views : List ℕ
no_views = head 2 0 0 (codes "vz") ++ 0 ∷ 0 ∷ 0 ∷ 0 ∷ 0 ∷ 1 ∷ []

-- one long view, its data buffer brought, or named by its number
abbrev view_bringing : List ℕ
view_bringing = head 2 0 1 (codes "vz") ++ 0 ∷ 0 ∷ 0 ∷ 16 ∷ long_view ++ 0 ∷ 1 ∷ 0 ∷ 0 ∷ 0 ∷ 13 ∷ codes "abcdefghijklm"

abbrev view_naming : List ℕ
view_naming = head 2 0 1 (codes "vz") ++ 0 ∷ 0 ∷ 0 ∷ 16 ∷ long_view ++ 0 ∷ 1 ∷ 128 ∷ 0 ∷ 0 ∷ 0 ∷ []

-- three rows in two runs, of 7 and 9
abbrev two_runs : ℕ → List ℕ
two_runs last = head 2 2 3 (codes "+r") ++ head 1 0 2 (codes "s") ++ 0 ∷ 0 ∷ 0 ∷ 4 ∷ 2 ∷ 0 ∷ last ∷ 0 ∷ two_bytes

abbrev no_fields : List ℕ
no_fields = head 2 0 2 (codes "+s")

abbrev list_of_bytes : List ℕ
list_of_bytes = head 2 1 1 (codes "+l") ++ 0 ∷ 0 ∷ 0 ∷ 8 ∷ 0 ∷ 0 ∷ 0 ∷ 0 ∷ 2 ∷ 0 ∷ 0 ∷ 0 ∷ two_bytes

-- a struct with one child of that label
abbrev labelled : (high low : ℕ) → List ℕ
labelled high low = head 2 1 2 (codes "+s") ++ 1 ∷ high ∷ low ∷ 0 ∷ 0 ∷ 0 ∷ 0 ∷ 2 ∷ codes "C" ++ 0 ∷ 0 ∷ 0 ∷ 2 ∷ 7 ∷ 9 ∷ []

-- structs inside structs, so many levels of them, and a struct of so many that have no fields
abbrev nested : ℕ → List ℕ
nested zero = []
nested (suc n) = head 2 (cond (n == 0) 0 1) 0 (codes "+s") ++ nested n

abbrev wide : ℕ → List ℕ
wide n = head 2 n 0 (codes "+s") ++ flat_map {X = ℕ} (λ i. head 2 0 0 (codes "+s")) (replicate n 0)

-- a view that lists a buffer that it brings, and once more by number
abbrev view_naming_own : List ℕ
view_naming_own = head 2 0 1 (codes "vz") ++ 0 ∷ 0 ∷ 0 ∷ 16 ∷ long_view ++ 0 ∷ 2 ∷ 0 ∷ 0 ∷ 0 ∷ 13 ∷ codes "abcdefghijklm" ++ 128 ∷ 0 ∷ 0 ∷ 0 ∷ []

abbrev list_of_lists : List ℕ
list_of_lists = head 2 1 1 (codes "+l") ++ 0 ∷ 0 ∷ 0 ∷ 8 ∷ 0 ∷ 0 ∷ 0 ∷ 0 ∷ 1 ∷ 0 ∷ 0 ∷ 0 ∷ list_of_bytes

-- nine booleans, of which only the first and the last are true and the second is null
abbrev nine_bits : List ℕ
nine_bits = head 129 0 9 (codes "b") ++ 0 ∷ 0 ∷ 0 ∷ 2 ∷ 253 ∷ 1 ∷ 0 ∷ 0 ∷ 0 ∷ 2 ∷ 1 ∷ 1 ∷ []

-- one string of 64-bit offsets
abbrev one_large : List ℕ
one_large = head 1 0 1 (codes "Z") ++ 0 ∷ 0 ∷ 0 ∷ 16 ∷ 1 ∷ 0 ∷ 0 ∷ 0 ∷ 0 ∷ 0 ∷ 0 ∷ 0 ∷ 3 ∷ 0 ∷ 0 ∷ 0 ∷ 0 ∷ 0 ∷ 0 ∷ 0 ∷ 0 ∷ 0 ∷ 0 ∷ 3 ∷ codes "abc"

-- byte strings with no rows, or with one, and 32-bit offsets of which the first has its highest bit set, so that it is below 0
abbrev below_zero : List ℕ
below_zero = head 1 0 0 (codes "z") ++ 0 ∷ 0 ∷ 0 ∷ 4 ∷ 0 ∷ 0 ∷ 0 ∷ 128 ∷ 0 ∷ 0 ∷ 0 ∷ 0 ∷ []

abbrev from_below_zero : List ℕ
from_below_zero = head 1 0 1 (codes "z") ++ 0 ∷ 0 ∷ 0 ∷ 8 ∷ 0 ∷ 0 ∷ 0 ∷ 128 ∷ 0 ∷ 0 ∷ 0 ∷ 0 ∷ 0 ∷ 0 ∷ 0 ∷ 0 ∷ []

pub record FormatCases : Type 0 where
  pub one_byte : map kind_of (codes "c" ∷ codes "C" ∷ []) ≡ replicate 2 (primitive 1)
  pub two_byte : map kind_of (codes "s" ∷ codes "S" ∷ codes "e" ∷ []) ≡ replicate 3 (primitive 2)
  pub four_byte : map kind_of (codes "i" ∷ codes "I" ∷ codes "f" ∷ codes "tdD" ∷ codes "tts" ∷ codes "ttm" ∷ codes "tiM" ∷ []) ≡ replicate 7 (primitive 4)
  pub eight_byte : map kind_of (codes "l" ∷ codes "L" ∷ codes "g" ∷ codes "tdm" ∷ codes "ttu" ∷ codes "ttn" ∷ codes "tDs" ∷ codes "tDm" ∷ codes "tDu" ∷ codes "tDn" ∷ codes "tiD" ∷ []) ≡ replicate 11 (primitive 8)
  pub zones : map kind_of (codes "tss:" ∷ codes "tsm:UTC" ∷ codes "tsu:Europe/Paris" ∷ codes "tsn:+01:00" ∷ []) ≡ replicate 4 (primitive 8)
  pub sizes : map kind_of (codes "+w:0" ∷ codes "+w:10" ∷ codes "+w:2147483647" ∷ []) ≡ fixed_lists 0 ∷ fixed_lists 10 ∷ fixed_lists 2147483647 ∷ []
  pub no_such : map kind_of ([] ∷ codes "x" ∷ codes "tss" ∷ codes "+w:" ∷ codes "+w:01" ∷ codes "+w:00" ∷ codes "+w:1a" ∷ codes "+w:2147483648" ∷ codes "n" ∷ codes "w:4" ∷ codes "d:9,2" ∷ codes "+vl" ∷ []) ≡ replicate 12 unknown
  pub wide_offsets : map offset_bytes (codes "u" ∷ codes "z" ∷ codes "+l" ∷ codes "+m" ∷ codes "U" ∷ codes "Z" ∷ codes "+L" ∷ []) ≡ 4 ∷ 4 ∷ 4 ∷ 4 ∷ 8 ∷ 8 ∷ 8 ∷ []

pub record LedgerCases : Type 0 where
  pub the_run : ran (file two_bytes ∷ adds (interleaving (0 ∷ []) ((0, 1) ∷ (0, 0) ∷ [])) ∷ reads 1 0 4096 ∷ reads 1 2 4096 ∷ [])
      ≡ added 0 ∷ added 1 ∷ wrote (codes "09") ∷ refused (denial 7 2) ∷ []
  pub header_cut : ran (file (1 ∷ 0 ∷ []) ∷ []) ≡ refused (denial 1 0) ∷ []
  pub format_cut : ran (file (head 3 0 2 (codes "C")) ∷ []) ≡ refused (denial 1 8) ∷ []
  pub buffer_cut : ran (file (head 1 0 2 (codes "C") ++ 0 ∷ 0 ∷ 0 ∷ 2 ∷ 7 ∷ []) ∷ []) ≡ refused (denial 1 9) ∷ []
  pub bytes_left : ran (file (two_bytes ++ 0 ∷ []) ∷ []) ≡ refused (denial 1 15) ∷ []
  pub unknown_format : ran (file (head 1 0 2 (codes "x")) ∷ []) ≡ refused (denial 2 0) ∷ []
  pub child_count : ran (file (head 1 1 2 (codes "C")) ∷ []) ≡ refused (denial 3 0) ∷ []
  pub masked_runs : ran (file (head 130 2 3 (codes "+r")) ∷ []) ≡ refused (denial 3 0) ∷ []
  pub too_few_values : ran (file (head 1 0 2 (codes "C") ++ 0 ∷ 0 ∷ 0 ∷ 1 ∷ 7 ∷ []) ∷ []) ≡ refused (denial 4 0) ∷ []
  pub offset_below_zero : ran (file below_zero ∷ []) ≡ refused (denial 4 0) ∷ []
  pub offsets_from_below_zero : ran (file from_below_zero ∷ []) ≡ refused (denial 4 0) ∷ []
  pub ends_short : ran (file (two_runs 4) ∷ []) ≡ refused (denial 4 1) ∷ []
  pub runs_read : ran (file (two_runs 3) ∷ reads 0 1 4096 ∷ reads 0 2 4096 ∷ []) ≡ added 0 ∷ wrote (codes "07") ∷ wrote (codes "09") ∷ []
  pub list_read : ran (file list_of_bytes ∷ adds (interleaving (0 ∷ []) ((0, 0) ∷ (0, 0) ∷ [])) ∷ reads 1 1 7 ∷ reads 1 1 6 ∷ [])
      ≡ added 0 ∷ added 1 ∷ wrote (codes "[07,09]") ∷ refused (denial 10 6) ∷ []
  pub no_source : ran (adds (interleaving [] []) ∷ []) ≡ refused (denial 5 0) ∷ []
  pub source_limit : ran (file two_bytes ∷ adds (interleaving (replicate 64 0) []) ∷ adds (interleaving (replicate 65 0) []) ∷ []) ≡ added 0 ∷ added 1 ∷ refused (denial 5 65) ∷ []
  pub unlike_no_pairs : ran (file two_bytes ∷ file two_signed ∷ adds (interleaving (0 ∷ 1 ∷ []) []) ∷ []) ≡ added 0 ∷ added 1 ∷ refused (denial 6 1) ∷ []
  pub unknown_column : ran (file two_bytes ∷ adds (interleaving (0 ∷ 5 ∷ []) []) ∷ reads 9 0 4 ∷ []) ≡ added 0 ∷ refused (denial 11 5) ∷ refused (denial 11 9) ∷ []
  pub fieldless_outside : ran (file no_fields ∷ adds (interleaving (0 ∷ []) ((0, 1) ∷ (0, 2) ∷ [])) ∷ []) ≡ added 0 ∷ refused (denial 7 1) ∷ []
  pub buffer_by_number : ran (file view_naming ∷ file view_bringing ∷ file view_naming ∷ reads 1 0 4096 ∷ [])
      ≡ refused (denial 12 0) ∷ added 0 ∷ added 1 ∷ wrote (codes "\"6162636465666768696a6b6c6d\"") ∷ []
  pub full_bytes : answers (9 ∷ 9 ∷ 6 ∷ 9 ∷ 9 ∷ 9 ∷ 9 ∷ 9 ∷ 9 ∷ 9 ∷ 9 ∷ []) empty
      (file two_bytes ∷ file two_bytes ∷ adds (interleaving (0 ∷ []) ((0, 1) ∷ [])) ∷ adds (interleaving (0 ∷ []) ((0, 1) ∷ (0, 0) ∷ (0, 0) ∷ [])) ∷ [])
      ≡ added 0 ∷ added 1 ∷ refused (denial 13 3) ∷ refused (denial 13 3) ∷ []
  pub labels_read_whole : ran (file (labelled 1 0) ∷ file (labelled 0 0) ∷ file (labelled 1 0) ∷ adds (interleaving (0 ∷ 2 ∷ 1 ∷ []) []) ∷ adds (interleaving (0 ∷ 2 ∷ []) ((1, 1) ∷ [])) ∷ reads 3 0 4096 ∷ [])
      ≡ added 0 ∷ added 1 ∷ added 2 ∷ refused (denial 6 2) ∷ added 3 ∷ wrote (codes "{09}") ∷ []
  pub highest_bit_names : ran (file (no_views ++ 64 ∷ 0 ∷ 0 ∷ 0 ∷ []) ∷ file (no_views ++ 128 ∷ 0 ∷ 0 ∷ 0 ∷ []) ∷ []) ≡ refused (denial 1 16) ∷ refused (denial 12 0) ∷ []
  pub own_buffer_named : ran (file view_naming_own ∷ []) ≡ refused (denial 12 0) ∷ []
  pub eight_levels : ran (file (nested 8) ∷ file (nested 9) ∷ []) ≡ added 0 ∷ refused (denial 3 8) ∷ []
  pub many_nodes : ran (file (wide 255) ∷ file (head 2 1 0 (codes "+s") ++ wide 255) ∷ []) ≡ added 0 ∷ refused (denial 3 256) ∷ []
  pub runs_of_bytes : ran (file (head 2 2 2 (codes "+r") ++ two_bytes ++ two_bytes) ∷ []) ≡ refused (denial 3 1) ∷ []
  pub map_of_bytes : ran (file (head 2 1 0 (codes "+m") ++ 0 ∷ 0 ∷ 0 ∷ 4 ∷ 0 ∷ 0 ∷ 0 ∷ 0 ∷ two_bytes) ∷ []) ≡ refused (denial 3 1) ∷ []
  pub row_limit : ran (file (2 ∷ 0 ∷ 0 ∷ 0 ∷ 0 ∷ 16 ∷ 0 ∷ 0 ∷ codes "+s") ∷ file (2 ∷ 0 ∷ 0 ∷ 0 ∷ 0 ∷ 16 ∷ 0 ∷ 1 ∷ codes "+s") ∷ []) ≡ added 0 ∷ refused (denial 3 0) ∷ []
  pub full_slip : answers (9 ∷ 9 ∷ 99 ∷ 9 ∷ 9 ∷ 9 ∷ 99 ∷ 9 ∷ 9 ∷ 9 ∷ 2 ∷ []) empty
      (file list_of_lists ∷ adds (interleaving (0 ∷ []) ((0, 0) ∷ (0, 0) ∷ [])) ∷ reads 1 1 99 ∷ adds (interleaving (0 ∷ []) ((0, 0) ∷ (0, 0) ∷ (0, 0) ∷ [])) ∷ [])
      ≡ added 0 ∷ added 1 ∷ wrote (codes "[[07,09]]") ∷ refused (denial 13 11) ∷ []
  pub bits_lowest_first : ran (file nine_bits ∷ reads 0 0 9 ∷ reads 0 1 9 ∷ reads 0 7 9 ∷ reads 0 8 9 ∷ []) ≡ added 0 ∷ wrote (codes "t") ∷ wrote (codes "-") ∷ wrote (codes "f") ∷ wrote (codes "t") ∷ []
  pub highest_byte_first : ran (file two_shorts ∷ reads 0 0 4 ∷ reads 0 1 4 ∷ []) ≡ added 0 ∷ wrote (codes "0201") ∷ wrote (codes "fffe") ∷ []
  pub large_strings : ran (file one_large ∷ reads 0 0 9 ∷ []) ≡ added 0 ∷ wrote (codes "\"6263\"") ∷ []
  pub data_bytes : answers (9 ∷ 9 ∷ 15 ∷ 9 ∷ 9 ∷ 9 ∷ 9 ∷ 9 ∷ 9 ∷ 1 ∷ 9 ∷ []) empty (file view_bringing ∷ []) ≡ added 0 ∷ []
  pub data_bytes_full : answers (9 ∷ 9 ∷ 14 ∷ 9 ∷ 9 ∷ 9 ∷ 9 ∷ 9 ∷ 9 ∷ 1 ∷ 9 ∷ []) empty (file view_bringing ∷ []) ≡ refused (denial 13 3) ∷ []
  pub data_buffers_full : answers (9 ∷ 9 ∷ 15 ∷ 9 ∷ 9 ∷ 9 ∷ 9 ∷ 9 ∷ 9 ∷ 0 ∷ 9 ∷ []) empty (file view_bringing ∷ []) ≡ refused (denial 13 10) ∷ []
  pub unsound_before_full : answers [] empty (file (head 1 0 2 (codes "C") ++ 0 ∷ 0 ∷ 0 ∷ 1 ∷ 7 ∷ []) ∷ file two_bytes ∷ []) ≡ refused (denial 4 0) ∷ refused (denial 13 1) ∷ []
  pub mask_and_bits : answers (9 ∷ 9 ∷ 5 ∷ []) empty (file nine_bits ∷ []) ≡ added 0 ∷ []
  pub mask_and_bits_full : answers (9 ∷ 9 ∷ 4 ∷ []) empty (file nine_bits ∷ []) ≡ refused (denial 13 3) ∷ []
  pub slip_is_back : answers (9 ∷ 99 ∷ 99 ∷ 9 ∷ 9 ∷ 9 ∷ 99 ∷ 9 ∷ 9 ∷ 9 ∷ 2 ∷ []) empty
      (file (head 2 2 1 (codes "+s") ++ list_of_lists ++ list_of_lists) ∷ adds (interleaving (0 ∷ []) ((0, 0) ∷ (0, 0) ∷ [])) ∷ reads 1 1 99 ∷ [])
      ≡ added 0 ∷ added 1 ∷ wrote (codes "{[[07,09]],[[07,09]]}") ∷ []
