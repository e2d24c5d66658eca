use Rattle.columns.proofs.large_cases.Goals as goal
use Rattle.columns.proofs.Worked.{large_cases}

pub returns : goal.returns
returns c = large_cases
