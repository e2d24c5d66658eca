use Rattle.std.proofs.Common.{◌≡◌, ℕ, ◌*◌, ◌<◌, length, get_or}
use Rattle.parcels.specs.Lent.{place_of}
use Rattle.soundness.proofs.Finding.{Stepping}
use Rattle.soundness.proofs.index.Index.of.Given as goal

abbrev pub invariant-loop-k : goal.invariant-loop-k
invariant-loop-k l =
    let parcel = l.node.parcel.now in
    let lent = l.node.draft.parts.lent in
    record {
      can : (goal.iterator-loop-k).can_next l.k-iterator;
      finite : (goal.iterator-loop-k).is_finite l.k-iterator;
      walk : Stepping parcel lent.start lent.len l.stride l.k-iterator.iter l.k-iterator.count;
      known : (j : ℕ) → j < l.k-iterator.count → get_or l.marks j 0 ≡ place_of parcel lent.start (j * l.stride);
      size : length l.marks ≡ 256;
    }
