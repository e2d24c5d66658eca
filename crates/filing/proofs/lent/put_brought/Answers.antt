use Rattle.filing.proofs.Lending.{bringing_start}
use Rattle.filing.proofs.lent.put_brought.Goals as goal

pub loop-buffer-init : goal.loop-buffer-init
loop-buffer-init c = rw c.into_iter-buffer-iterator.ensures.into_iter_gives (bringing_start c.args.lent c.args.bytes.now c.args.buffers.now c.requires.shelved c.requires.held)
