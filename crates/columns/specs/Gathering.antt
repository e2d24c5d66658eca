-- Pairs, the ranges of list kinds, and gathering: each row's range in pair order, laid end to end.
use Rattle.std.specs.Prelude.{ℕ, ◌+◌, ◌*◌, List, [], ◌∷◌, map, slice_index_or}
use Rattle.std.specs.List.{flat_map}
use Rattle.columns.specs.Kinds.{Kind, primitive, boolean, strings, views, lists, maps, structs, run_ended, fixed_lists, unknown}
use Rattle.columns.specs.Column.{Node}
use Rattle.columns.specs.Says.{span, offset_start, offset_length}

-- A pair is a source position and a row.
abbrev pub Pair : Type 0
Pair = ℕ × ℕ

abbrev pub pair : List Pair → ℕ → Pair
pair ps k = slice_index_or ps k (0, 0)

-- A list kind: for each row a start and a length.
pub record Ranges : Type 0 where
  pub start : ℕ → ℕ
  pub size : ℕ → ℕ

abbrev pub offset_ranges : Node → Ranges
offset_ranges n = record { start = offset_start n; size = offset_length n }

abbrev pub fixed_ranges : ℕ → Ranges
fixed_ranges N = record { start = λ i. i * N; size = λ i. N }

abbrev pub ranges : Kind → Node → Ranges
ranges (primitive w) n = offset_ranges n
ranges boolean n = offset_ranges n
ranges strings n = offset_ranges n
ranges views n = offset_ranges n
ranges lists n = offset_ranges n
ranges maps n = offset_ranges n
ranges structs n = offset_ranges n
ranges run_ended n = offset_ranges n
ranges (fixed_lists N) n = fixed_ranges N
ranges unknown n = offset_ranges n

-- Gathering: each row's range in pair order, laid end to end, and running totals from 0.
abbrev pub row_range : (ℕ → Ranges) → Pair → List Pair
row_range R p = map (λ j. (p.0, j)) (span ((R p.0).start p.1) ((R p.0).size p.1))

abbrev pub gathered : (ℕ → Ranges) → List Pair → List Pair
gathered R ps = flat_map (row_range R) ps

abbrev pub totals_from : ℕ → List ℕ → List ℕ
totals_from a [] = a ∷ []
totals_from a (l ∷ ls) = a ∷ totals_from (a + l) ls

abbrev pub sizes : (ℕ → Ranges) → List Pair → List ℕ
sizes R ps = map (λ p. (R p.0).size p.1) ps

abbrev pub totals : (ℕ → Ranges) → List Pair → List ℕ
totals R ps = totals_from 0 (sizes R ps)
