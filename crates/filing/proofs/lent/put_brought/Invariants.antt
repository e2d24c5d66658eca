use Rattle.parcels.specs.Lent.{brought_from}
use Rattle.soundness.specs.Buffers.{buffers_from}
use Rattle.filing.proofs.Lending.{Bringing}
use Rattle.filing.proofs.lent.put_brought.Given as goal

abbrev pub invariant-loop-buffer : goal.invariant-loop-buffer
invariant-loop-buffer l =
    let it = l.buffer-iterator in
    Bringing l.fn.lent.parcel.now l.initial.bytes l.bytes l.initial.buffers l.buffers (brought_from l.fn.lent.parcel.now l.fn.lent.at l.fn.lent.left) (buffers_from it.parcel.now it.at it.left)
