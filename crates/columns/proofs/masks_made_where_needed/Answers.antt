use Rattle.columns.proofs.masks_made_where_needed.Goals as goal
use Rattle.columns.proofs.Laws.{masks_made_where_needed}

pub returns : goal.returns
returns c = masks_made_where_needed
