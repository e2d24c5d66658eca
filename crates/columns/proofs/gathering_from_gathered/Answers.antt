use Rattle.columns.proofs.gathering_from_gathered.Goals as goal
use Rattle.columns.proofs.Follow.{gathering_from_gathered}

pub returns : goal.returns
returns c = gathering_from_gathered
