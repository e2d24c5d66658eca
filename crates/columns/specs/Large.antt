-- Large totals and many pairs, worked out.
use Rattle.std.specs.Prelude.{◌≡◌, ℕ, List, [], ◌∷◌, length, get_or, replicate, codes, slice_index_or}
use Rattle.std.proofs.Math.Option.{some, none}
use Rattle.columns.specs.Column.{Node, node, node_with, only_offsets}
use Rattle.columns.specs.Interleave.{interleave}
use Rattle.columns.specs.Gathering.{Pair}
use Rattle.columns.specs.Checks.{denial}
use Rattle.columns.specs.Pools.{Entries, total_over}
use Rattle.columns.specs.Ledger.{Shelf, interleaving, line_denial, interleave_checks}
use Rattle.columns.specs.Examples.{byte_strings}

abbrev pub node_of : List ℕ → (last : ℕ) → Node
node_of f last = node_with f 0 1 none [] (only_offsets (0 ∷ last ∷ []))

-- the totals of 4,096 rows of 524,288 bytes each
abbrev pub big_offsets : List ℕ
big_offsets = (node (interleave (byte_strings 1 (0 ∷ 524288 ∷ []) [] ∷ []) (replicate 4096 (0, 0)))).offsets

pub record LargeCases : Type 0 where
  pub last_fits : get_or big_offsets 4095 0 ≡ 2146959360
  pub first_over : get_or big_offsets 4096 0 ≡ 2147483648
  pub over_32_bits : total_over (node_of (codes "z") 2147483648) ≡ some 2147483648
  pub within_64_bits : total_over (node_of (codes "Z") 2147483648) ≡ none
  -- 1,048,577 pairs are too many, whatever the shelf and the pools; the check of their number passes at 1,048,576
  pub too_many_pairs : (lengths : Entries) (s : Shelf) (ps : List Pair) → length ps ≡ 1048577 → line_denial lengths s (interleaving (0 ∷ []) ps) ≡ some (denial 5 1048577)
  pub most_pairs : (lengths : Entries) (s : Shelf) (ps : List Pair) → length ps ≡ 1048576 → slice_index_or (interleave_checks lengths s (0 ∷ []) ps) 2 (0, none) ≡ (5, none)
