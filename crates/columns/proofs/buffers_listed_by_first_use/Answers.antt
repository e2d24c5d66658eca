use Rattle.columns.proofs.buffers_listed_by_first_use.Goals as goal
use Rattle.columns.proofs.Laws.{buffers_listed_by_first_use}

pub returns : goal.returns
returns c = buffers_listed_by_first_use
