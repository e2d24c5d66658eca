use Rattle.std.proofs.Common.{◌≡◌, ℕ, List, take}
use Rattle.std.specs.Slice.Iter.{chunks_exact_rest, chunks_exact_size}
use Rattle.pools.specs.Laid.{entries_in}
use Rattle.filing.proofs.Numbers.{Laying}
use Rattle.filing.proofs.read.put_entries.Given as goal

abbrev pub invariant-loop-entry : goal.invariant-loop-entry
invariant-loop-entry g l =
    let it = l.entry-iterator in
    record {
      can : (goal.iterator-loop-entry g).can_next it;
      finite : (goal.iterator-loop-entry g).is_finite it;
      size : chunks_exact_size it ≡ g.T.Laid.SIZE;
      laying : (left : ℕ) × Laying g.E.From.from_gives (λ (b : List ℕ). g.T.Laid.told (take g.T.Laid.SIZE b)) g.T.Laid.SIZE l.initial.pool l.mark l.pool.lent.now (entries_in (λ (b : List ℕ). g.T.Laid.told (take g.T.Laid.SIZE b)) g.T.Laid.SIZE l.count l.body) left (chunks_exact_rest it);
    }
