use Rattle.std.proofs.Common.{◌≡◌, ℕ, Bool}
use Rattle.formats.specs.Spelled.{bytes_of}
use Rattle.soundness.specs.Walks.{all_values, walked}
use Rattle.soundness.proofs.values.last_of.Given as goal

abbrev pub invariant-loop-entry : goal.invariant-loop-entry
invariant-loop-entry g l = record {
  callable : goal.F-IsAlwaysCallable g l.follows;
  can : (goal.iterator-loop-entry g).can_next l.entry-iterator;
  finite : (goal.iterator-loop-entry g).is_finite l.entry-iterator;
  size : l.entry-iterator.size ≡ bytes_of l.width;
  left : (test : ℕ → ℕ → Bool) → ((low next : ℕ) (r : Bool) → goal.F-post g l.follows low next r → r ≡ test low next)
      → walked test l.low (all_values (bytes_of l.width) l.entry-iterator.rest.now) ≡ walked test 0 (all_values (bytes_of l.width) l.body);
}
