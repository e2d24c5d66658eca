use Rattle.reading.proofs.Pens as shown
use Rattle.reading.proofs.laws.pens_write_in_front.Goals as goal

pub returns : goal.returns
returns c = shown.pens_write_in_front
