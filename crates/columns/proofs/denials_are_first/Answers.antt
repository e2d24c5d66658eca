use Rattle.columns.proofs.denials_are_first.Goals as goal
use Rattle.columns.proofs.Order.{denials_are_first}

pub returns : goal.returns
returns c = denials_are_first
