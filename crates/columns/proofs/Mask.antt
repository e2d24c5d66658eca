-- A made row is null exactly where its pair's row is.
use Rattle.std.proofs.Common.{◌≡◌, ℕ, zero, suc, ◌<◌, Bool, true, false, cond, not, ◌&&◌, List, [], ◌∷◌, length, get_or, sym, refl, ◌∙◌}
use mathlib.Core.Option.{Option, some, none}
use Rattle.std.proofs.lemmas.List.{get_or-map}
use Rattle.std.proofs.lemmas.Bool.{or_parts, not-false}
use Rattle.columns.specs.Kinds.{Kind, is_primitive}
use Rattle.columns.specs.Column.{Node, Column, node, at}
use Rattle.columns.specs.Masks.{mask_valid, valid, some_null, has_null}
use Rattle.columns.specs.Gathering.{Pair}
use Rattle.columns.specs.Interleave.{any_null, made_mask, needs_mask, rows_taken, made_node}

pub made_mask_valid : (b : Bool) (bits : List Bool) (k : ℕ) → (b ≡ false → get_or bits k true ≡ true) → mask_valid (made_mask b bits) k ≡ get_or bits k true
made_mask_valid b [] k h = refl
made_mask_valid true (x ∷ bits) k h = refl
made_mask_valid false (x ∷ bits) k h = sym (h refl)

pub no_null : (bits : List Bool) (k : ℕ) → some_null bits ≡ false → get_or bits k true ≡ true
no_null [] k h = refl
no_null (b ∷ bits) zero h = not-false b (or_parts (not b) (some_null bits) h).0
no_null (b ∷ bits) (suc k) h = no_null bits k (or_parts (not b) (some_null bits) h).1

pub no_null_mask : (m : Option (List Bool)) (k : ℕ) → elim m as (λ _. Bool) [ none ↦ false | some bs ↦ some_null bs ] ≡ false → mask_valid m k ≡ true
no_null_mask none k h = refl
no_null_mask (some bs) k h = no_null bs k h

pub no_source_null : (S : List Column) (s : ℕ) → any_null S ≡ false → has_null (node (at S s)) ≡ false
no_source_null [] s h = refl
no_source_null (c ∷ S) zero h = (or_parts (has_null (node c)) (any_null S) h).0
no_source_null (c ∷ S) (suc s) h = no_source_null S s (or_parts (has_null (node c)) (any_null S) h).1

pub valid_made : (in_list : Bool) (K : Kind) (n : Node) (S : List Column) (ps : List Pair) (k : ℕ) → k < length ps →
    valid (made_node in_list K n S ps) k ≡ valid (node (at S (get_or ps k (0, 0)).0)) (get_or ps k (0, 0)).1
valid_made in_list K n S ps k h = made_mask_valid (needs_mask in_list K S ps) (rows_taken S valid ps) k unneeded ∙ there
  where
    there : get_or (rows_taken S valid ps) k true ≡ valid (node (at S (get_or ps k (0, 0)).0)) (get_or ps k (0, 0)).1
    there = get_or-map (λ (p : Pair). valid (node (at S p.0)) p.1) ps k (0, 0) true h

    go : (t : Bool) → cond t (some_null (rows_taken S valid ps)) (any_null S) ≡ false → get_or (rows_taken S valid ps) k true ≡ true
    go true e = no_null (rows_taken S valid ps) k e
    go false e = there ∙ no_null_mask (node (at S (get_or ps k (0, 0)).0)).mask (get_or ps k (0, 0)).1 (no_source_null S (get_or ps k (0, 0)).0 e)

    unneeded : needs_mask in_list K S ps ≡ false → get_or (rows_taken S valid ps) k true ≡ true
    unneeded e = go (in_list && is_primitive K) e
