use Rattle.columns.proofs.no_pairs_make_empty.Goals as goal
use Rattle.columns.proofs.Laws.{no_pairs_make_empty}

pub returns : goal.returns
returns c = no_pairs_make_empty
