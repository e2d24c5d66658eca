use Rattle.columns.proofs.offsets_are_totals.Goals as goal
use Rattle.columns.proofs.Laws.{offsets_are_totals}

pub returns : goal.returns
returns c = offsets_are_totals
