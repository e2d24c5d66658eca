-- The small examples hold by computing.
use Rattle.std.proofs.Common.{◌≡◌, ℕ, zero, suc, ◌+◌, ◌<◌, ◌≤◌, [], ◌∷◌, get_or, sym, refl, ap, subst, arith}
use Rattle.columns.specs.Format.{offset_bytes, kind_of}
use Rattle.columns.specs.Column.{rows_of, at}
use Rattle.columns.specs.Gathering.{Pair}
use Rattle.columns.specs.Interleave.{interleaved}
use Rattle.columns.specs.Types.{type_of, alike}
use Rattle.columns.specs.Sound.{Sound}
use Rattle.columns.specs.Pools.{column_needs, making_checks}
use Rattle.columns.specs.Promises.{Accepted}
use Rattle.columns.specs.Examples.{SmallExamples, strings_a, no_data}

pub small_examples : SmallExamples
unfolding kind_of offset_bytes interleaved column_needs making_checks alike
small_examples = record {
  string_offsets = refl;
  runs_joined = refl;
  runs_parted = refl;
  buffer_list = refl;
  view_positions = refl;
  twelve_claims_none = refl;
  thirteen_claims_one = refl;
  no_source = refl;
  unlike_types = refl;
  ends_fit = refl;
  ends_too_high = refl;
  total_too_high = λ text. refl;
  list_child_unmasked = refl;
  struct_child_masked = refl;
  ends_by_way_of_another = refl;
  ends_directly = refl;
}

-- The hypotheses can be met: a filing and an interleave of it are accepted.
three_offsets : (i : ℕ) → i < 3 → get_or (0 ∷ 2 ∷ 2 ∷ 3 ∷ []) i 0 ≤ get_or (0 ∷ 2 ∷ 2 ∷ 3 ∷ []) (i + 1) 0
three_offsets zero h = omega arith
three_offsets (suc zero) h = omega arith
three_offsets (suc (suc zero)) h = omega arith
three_offsets (suc (suc (suc i))) h = absurd (omega arith)

strings_sound : Sound no_data strings_a
unfolding Sound kind_of
strings_sound = (refl, (record { fill = refl; never_fall = three_offsets; end_within = omega arith }, refl), tt)

only_strings : (s : ℕ) → s < 1 → at (strings_a ∷ []) s ≡ strings_a
only_strings zero h = refl
only_strings (suc s) h = absurd (omega arith)

pub an_interleave_is_accepted : Accepted no_data strings_a (strings_a ∷ []) ((0, 2) ∷ (0, 0) ∷ [])
an_interleave_is_accepted = record {
  sound = λ s h. subst (Sound no_data) (sym (only_strings s h)) strings_sound;
  same = λ s h. ap type_of (sym (only_strings s h));
  source_known = known;
  row_known = row;
}
  where
    known : (k : ℕ) → k < 2 → (get_or {A = Pair} ((0, 2) ∷ (0, 0) ∷ []) k (0, 0)).0 < 1
    known zero h = omega arith
    known (suc zero) h = omega arith
    known (suc (suc k)) h = absurd (omega arith)

    row : (k : ℕ) → k < 2 → (get_or {A = Pair} ((0, 2) ∷ (0, 0) ∷ []) k (0, 0)).1 < rows_of (at (strings_a ∷ []) (get_or {A = Pair} ((0, 2) ∷ (0, 0) ∷ []) k (0, 0)).0)
    row zero h = omega arith
    row (suc zero) h = omega arith
    row (suc (suc k)) h = absurd (omega arith)
