use Rattle.columns.proofs.format_cases.Goals as goal
use Rattle.columns.proofs.Worked.{format_cases}

pub returns : goal.returns
returns c = format_cases
