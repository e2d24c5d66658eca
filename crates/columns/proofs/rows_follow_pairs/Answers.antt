use Rattle.columns.proofs.rows_follow_pairs.Goals as goal
use Rattle.columns.proofs.Rows.{rows_follow_pairs}

pub returns : goal.returns
returns c = rows_follow_pairs
