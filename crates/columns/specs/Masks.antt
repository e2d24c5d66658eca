-- Validity masks, which say whether a row is null.
use Rattle.std.specs.Prelude.{ℕ, Bool, true, false, not, ◌||◌, List, [], ◌∷◌, slice_index_or}
use Rattle.std.proofs.Math.Option.{Option, some, none}
use Rattle.columns.specs.Column.{Node}

abbrev pub some_null : List Bool → Bool
some_null [] = false
some_null (b ∷ bs) = not b || some_null bs

abbrev pub has_null : Node → Bool
has_null n = elim n.mask [ none ↦ false | some bs ↦ some_null bs ]

-- A mask may be absent, and then no row is null by it.
abbrev pub mask_valid : Option (List Bool) → ℕ → Bool
mask_valid none i = true
mask_valid (some bs) i = slice_index_or bs i true

abbrev pub valid : Node → ℕ → Bool
valid n i = mask_valid n.mask i
