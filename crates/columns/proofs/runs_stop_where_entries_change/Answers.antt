use Rattle.columns.proofs.runs_stop_where_entries_change.Goals as goal
use Rattle.columns.proofs.Laws.{runs_stop_where_entries_change}

pub returns : goal.returns
returns c = runs_stop_where_entries_change
