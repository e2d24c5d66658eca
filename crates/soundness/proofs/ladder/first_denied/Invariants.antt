use Rattle.std.proofs.Common.{length}
use Rattle.pools.specs.Parts.{buffers_in}
use Rattle.soundness.proofs.Rungs.{Rung}
use Rattle.soundness.proofs.ladder.first_denied.Given as goal

abbrev pub invariant-loop-i : goal.invariant-loop-i
invariant-loop-i l = Rung l.nodes.parcel.now (length l.shelved.buffers.now) (buffers_in l.shelved.bytes.now l.shelved.buffers.now) l.nodes.drafts.now l.i
