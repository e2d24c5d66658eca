use Rattle.columns.proofs.ledger_cases.Goals as goal
use Rattle.columns.proofs.Worked.{ledger_cases}

pub returns : goal.returns
returns c = ledger_cases
