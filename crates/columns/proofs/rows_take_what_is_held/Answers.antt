use Rattle.columns.proofs.rows_take_what_is_held.Goals as goal
use Rattle.columns.proofs.Held.{rows_take_what_is_held}

pub returns : goal.returns
returns c = rows_take_what_is_held
