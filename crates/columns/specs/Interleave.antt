-- Interleaving: the column made from the rows that a list of pairs (source position, row) names.
use Rattle.std.specs.Prelude.{ℕ, Bool, true, false, cond, ◌&&◌, ◌||◌, List, [], ◌∷◌, map, length, slice_index, slice_index_or}
use Rattle.std.proofs.Math.Option.{Option, some, none}
use Rattle.std.specs.List.{flat_map}
use Rattle.columns.specs.Kinds.{Kind, primitive, boolean, strings, views, lists, maps, structs, run_ended, fixed_lists, unknown, is_primitive, is_run_ended, is_list}
use Rattle.columns.specs.Column.{at, view_at, Buffers, only_values, only_bits, only_offsets, offsets_into, views_into, no_buffers, Node, node_with, Column, Columns, column, end, ◌&◌, node, children, first, rest, kind}
use Rattle.columns.specs.Masks.{some_null, has_null, valid}
use Rattle.columns.specs.Says.{string_at}
use Rattle.columns.specs.Gathering.{Pair, Ranges, ranges, gathered, totals}
use Rattle.columns.specs.Claims.{claim, once, placed}
use Rattle.columns.specs.Runs.{run_ends_from, kept, entries}

abbrev pub any_null : List Column → Bool
any_null [] = false
any_null (c ∷ cs) = has_null (node c) || any_null cs

abbrev pub mask_when : Bool → List Bool → Option (List Bool)
mask_when true bs = some bs
mask_when false bs = none

-- with no rows there is no mask
abbrev pub made_mask : (needed : Bool) → List Bool → Option (List Bool)
made_mask needed [] = none
made_mask needed (b ∷ bs) = mask_when needed (b ∷ bs)

-- S are the sources and ps the pairs: what the rows taken hold, in pair order
abbrev pub rows_taken : {X : Type 0} → List Column → (Node → ℕ → X) → List Pair → List X
rows_taken S f ps = map (λ p. f (node (at S p.0)) p.1) ps

abbrev pub claims : List Column → List Pair → List ℕ
claims S ps = flat_map (λ p. claim (node (at S p.0)).buffers (view_at (node (at S p.0)) p.1)) ps

abbrev pub source_ranges : Kind → List Column → ℕ → Ranges
source_ranges K S s = ranges K (node (at S s))

abbrev pub made_buffers : Kind → List Column → List Pair → Buffers
made_buffers (primitive w) S ps = only_values (rows_taken S (λ n i. slice_index n.values i) ps)
made_buffers boolean S ps = only_bits (rows_taken S (λ n i. slice_index_or n.bits i false) ps) []
made_buffers strings S ps = offsets_into (totals (source_ranges strings S) ps) (flat_map (λ p. string_at (node (at S p.0)) p.1) ps)
made_buffers views S ps = views_into (rows_taken S (λ n i. placed (once (claims S ps)) n.buffers (view_at n i)) ps) (once (claims S ps))
made_buffers lists S ps = only_offsets (totals (source_ranges lists S) ps)
made_buffers maps S ps = only_offsets (totals (source_ranges maps S) ps)
made_buffers structs S ps = no_buffers
made_buffers run_ended S ps = no_buffers
made_buffers (fixed_lists N) S ps = no_buffers
made_buffers unknown S ps = no_buffers

-- A mask is made exactly when some source's node has a null; for a primitive child of a list, when a copied row is null.
abbrev pub needs_mask : (in_list : Bool) → Kind → List Column → List Pair → Bool
needs_mask in_list K S ps = cond (in_list && is_primitive K) (some_null (rows_taken S valid ps)) (any_null S)

-- The made node. It has no spare bits: past its rows, the bits of its mask and booleans are 0.
abbrev pub made_node : (in_list : Bool) → Kind → Node → List Column → List Pair → Node
made_node in_list K n S ps =
    node_with n.format n.label (length ps) (made_mask (needs_mask in_list K S ps) (rows_taken S valid ps)) [] (made_buffers K S ps)

-- the pairs by which the children are made
abbrev pub child_pairs : Kind → List Column → List Pair → List Pair
child_pairs (primitive w) S ps = []
child_pairs boolean S ps = []
child_pairs strings S ps = []
child_pairs views S ps = []
child_pairs lists S ps = gathered (source_ranges lists S) ps
child_pairs maps S ps = gathered (source_ranges maps S) ps
child_pairs structs S ps = ps
child_pairs run_ended S ps = kept (entries S ps)
child_pairs (fixed_lists N) S ps = gathered (source_ranges (fixed_lists N) S) ps
child_pairs unknown S ps = []

-- the first child of run ends: source 0's format and label, and the made run ends
abbrev pub ends_column : Node → List ℕ → Column
ends_column n es = column (node_with n.format n.label (length es) none [] (only_values es)) end

-- Source 0 gives format and label; the sources' children are taken alongside its own.
unfoldable mutual
  pub interleaved : (in_list : Bool) → Column → List Column → List Pair → Column
  interleaved in_list (column n cs) S ps =
      column (made_node in_list (kind n) n S ps)
      (cond (is_run_ended (kind n))
      (made_runs cs (run_ends_from 0 (entries S ps)) (map children S) (kept (entries S ps)))
      (made_children (is_list (kind n)) cs (map children S) (child_pairs (kind n) S ps)))

  pub made_children : (in_list : Bool) → Columns → List Columns → List Pair → Columns
  made_children in_list end kids qs = end
  made_children in_list (c & cs) kids qs = interleaved in_list c (map first kids) qs & made_children in_list cs (map rest kids) qs

  pub made_runs : Columns → (ends : List ℕ) → List Columns → List Pair → Columns
  made_runs end ends kids qs = end
  made_runs (c & cs) ends kids qs = ends_column (node c) ends & made_children false cs (map rest kids) qs

abbrev pub interleave : List Column → List Pair → Column
interleave S ps = interleaved false (at S 0) S ps
