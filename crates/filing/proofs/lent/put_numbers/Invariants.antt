use Rattle.std.proofs.Common.{map}
use Rattle.columns.specs.Sent.{number_of}
use Rattle.parcels.specs.Lent.{data_from}
use Rattle.soundness.specs.Buffers.{buffers_from}
use Rattle.filing.proofs.Lending.{Numbering}
use Rattle.filing.proofs.lent.put_numbers.Given as goal

abbrev pub invariant-loop-buffer : goal.invariant-loop-buffer
invariant-loop-buffer l =
    let it = l.buffer-iterator in
    Numbering l.parcel l.initial.lists l.lists (map number_of (data_from l.parcel l.lent.start l.first l.lent.len)) l.next (buffers_from it.parcel.now it.at it.left)
