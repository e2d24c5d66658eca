use Rattle.columns.proofs.alike_is_same_type.Goals as goal
use Rattle.columns.proofs.Alike.{alike_is_same_type}

pub returns : goal.returns
returns c = alike_is_same_type
