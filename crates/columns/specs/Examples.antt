-- Ten small examples of the definitions, in one statement.
use Rattle.std.specs.Prelude.{◌≡◌, ℕ, Bool, true, false, List, [], ◌∷◌, map, length, replicate, codes}
use Rattle.std.proofs.Math.Option.{Option, some, none}
use Rattle.columns.specs.Column.{View, short, long, view_of, only_values, offsets_into, only_offsets, views_into, no_buffers, Node, node_with, Column, column, end, ◌&◌, node, children, first}
use Rattle.columns.specs.Says.{ends_of}
use Rattle.columns.specs.Claims.{claim}
use Rattle.columns.specs.Interleave.{interleave}
use Rattle.columns.specs.Checks.{denial}
use Rattle.columns.specs.Pools.{Entries}
use Rattle.columns.specs.Ledger.{Shelf, line_denial, interleaving}

-- columns of so many rows, with a mask or none, and what they hold
abbrev header : List ℕ → ℕ → Option (List Bool) → Node
header f rows m = node_with f 0 rows m [] no_buffers

abbrev primitives : List ℕ → ℕ → Option (List Bool) → List ℕ → Column
primitives f rows m vs = column (node_with f 0 rows m [] (only_values vs)) end

abbrev pub byte_strings : ℕ → List ℕ → List ℕ → Column
byte_strings rows os bs = column (node_with (codes "z") 0 rows none [] (offsets_into os bs)) end

abbrev pub runs : ℕ → List ℕ → Column → Column
runs rows ends vs = column (header (codes "+r") rows none) (primitives (codes "s") (length ends) none ends & vs & end)

abbrev view_column : ℕ → List View → List ℕ → Column
view_column rows vs bs = column (node_with (codes "vz") 0 rows none [] (views_into vs bs)) end

abbrev list_column : ℕ → List ℕ → Column → Column
list_column rows os c = column (node_with (codes "+l") 0 rows none [] (only_offsets os)) (c & end)

abbrev struct_column : ℕ → Column → Column
struct_column rows c = column (header (codes "+s") rows none) (c & end)

-- the columns of the examples
abbrev pub strings_a : Column
strings_a = byte_strings 3 (0 ∷ 2 ∷ 2 ∷ 3 ∷ []) (0x61 ∷ 0x62 ∷ 0x63 ∷ [])

abbrev run_a : Column
run_a = runs 3 (2 ∷ 3 ∷ []) (primitives (codes "C") 2 none (7 ∷ 8 ∷ []))

abbrev run_b : Column
run_b = runs 2 (2 ∷ []) (primitives (codes "C") 1 none (7 ∷ []))

abbrev pub run_one : Column
run_one = runs 1 (1 ∷ []) (primitives (codes "C") 1 none (7 ∷ []))

abbrev position_of : View → ℕ
position_of (short len inline) = 0
position_of (long len prefix position offset) = position

abbrev view_a : Column
view_a = view_column 2 (long 13 0 1 0 ∷ long 14 0 0 0 ∷ []) (5 ∷ 6 ∷ [])

abbrev view_b : Column
view_b = view_column 1 (long 15 0 0 0 ∷ []) (6 ∷ [])

abbrev with_null : Column
with_null = primitives (codes "C") 2 (some (true ∷ false ∷ [])) (1 ∷ 0 ∷ [])

abbrev pub no_data : ℕ → List ℕ
no_data b = []

-- a shelf with these columns, and pools with room for all that a pool may hold
abbrev pub shelf_with : List Column → Shelf
shelf_with cs = record { columns = cs; buffers = []; marks = [] }

abbrev pub roomy : Entries
roomy = replicate 11 1048576

abbrev signed_bytes : Column
signed_bytes = primitives (codes "c") 1 none (7 ∷ [])

abbrev plain_bytes : Column
plain_bytes = primitives (codes "C") 1 none (7 ∷ [])

pub record SmallExamples : Type 0 where
  -- 1: byte strings `ab`, nothing and `c`; the third and the first are taken
  pub string_offsets : (node (interleave (strings_a ∷ []) ((0, 2) ∷ (0, 0) ∷ []))).offsets ≡ 0 ∷ 1 ∷ 3 ∷ []
  -- 2: neighbouring rows of one run join
  pub runs_joined : ends_of (children (interleave (run_a ∷ run_b ∷ []) ((0, 0) ∷ (0, 1) ∷ (1, 0) ∷ (0, 2) ∷ []))) ≡ 2 ∷ 3 ∷ 4 ∷ []
  -- 3: a row of another source parts a run
  pub runs_parted : ends_of (children (interleave (run_a ∷ run_b ∷ []) ((0, 0) ∷ (1, 0) ∷ (0, 1) ∷ []))) ≡ 1 ∷ 2 ∷ 3 ∷ []
  -- 4: buffers 6, 5 and 6 are claimed
  pub buffer_list : (node (interleave (view_a ∷ view_b ∷ []) ((0, 0) ∷ (0, 1) ∷ (1, 0) ∷ []))).buffers ≡ 6 ∷ 5 ∷ []
  pub view_positions : map position_of (node (interleave (view_a ∷ view_b ∷ []) ((0, 0) ∷ (0, 1) ∷ (1, 0) ∷ []))).views ≡ 0 ∷ 1 ∷ 0 ∷ []
  -- 5: a view of 12 bytes claims no buffer, one of 13 claims one
  pub twelve_claims_none : claim (5 ∷ []) (view_of 12 0 0 0 []) ≡ []
  pub thirteen_claims_one : claim (5 ∷ []) (view_of 13 0 0 0 []) ≡ 5 ∷ []
  -- 6: no source and no pairs; unlike types and no pairs
  pub no_source : line_denial roomy (shelf_with []) (interleaving [] []) ≡ some (denial 5 0)
  pub unlike_types : line_denial roomy (shelf_with (plain_bytes ∷ signed_bytes ∷ [])) (interleaving (0 ∷ 1 ∷ []) []) ≡ some (denial 6 1)
  -- 7: run ends of 16 bits
  pub ends_fit : line_denial roomy (shelf_with (run_one ∷ [])) (interleaving (0 ∷ []) (replicate 32767 (0, 0))) ≡ none
  pub ends_too_high : line_denial roomy (shelf_with (run_one ∷ [])) (interleaving (0 ∷ []) (replicate 32768 (0, 0))) ≡ some (denial 9 32768)
  -- 8: 524,288 bytes, whatever they are, taken 4,096 times
  pub total_too_high : (text : List ℕ) →
      line_denial roomy (shelf_with (byte_strings 1 (0 ∷ 524288 ∷ []) text ∷ [])) (interleaving (0 ∷ []) (replicate 4096 (0, 0))) ≡ some (denial 8 2147483648)
  -- 9: lists of one byte, the second byte null, of which the first list is taken; and the same bytes as a struct's child
  pub list_child_unmasked : (node (first (children (interleave (list_column 2 (0 ∷ 1 ∷ 2 ∷ []) with_null ∷ []) ((0, 0) ∷ []))))).mask ≡ none
  pub struct_child_masked : (node (first (children (interleave (struct_column 2 with_null ∷ []) ((0, 0) ∷ []))))).mask ≡ some (true ∷ [])
  -- 10: columns of one run each; A, B, A and of that the rows 0 and 2; and A twice directly
  pub ends_by_way_of_another : ends_of (children (interleave (interleave (run_one ∷ run_one ∷ []) ((0, 0) ∷ (1, 0) ∷ (0, 0) ∷ []) ∷ []) ((0, 0) ∷ (0, 2) ∷ []))) ≡ 1 ∷ 2 ∷ []
  pub ends_directly : ends_of (children (interleave (run_one ∷ []) ((0, 0) ∷ (0, 0) ∷ []))) ≡ 2 ∷ []
