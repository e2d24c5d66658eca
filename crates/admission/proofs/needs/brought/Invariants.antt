use Rattle.std.proofs.Common.{◌≡◌, ◌+◌}
use Rattle.soundness.specs.Buffers.{buffers_from}
use Rattle.admission.proofs.Counting.{new_in, size_in}
use Rattle.admission.proofs.needs.brought.Given as goal

abbrev pub invariant-loop-buffer : goal.invariant-loop-buffer
invariant-loop-buffer l =
    let left = buffers_from l.buffer-iterator.parcel.now l.buffer-iterator.at l.buffer-iterator.left in
    let all = buffers_from l.fn.lent.parcel.now l.fn.lent.at l.fn.lent.left in
    record {
      can : (goal.iterator-loop-buffer).can_next l.buffer-iterator;
      finite : (goal.iterator-loop-buffer).is_finite l.buffer-iterator;
      count : l.total.count + new_in left ≡ new_in all;
      bytes : l.total.bytes + size_in left ≡ size_in all;
    }
