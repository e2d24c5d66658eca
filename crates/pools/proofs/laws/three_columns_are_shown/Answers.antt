use Rattle.pools.proofs.Worked.{three_columns_are_shown}
use Rattle.pools.proofs.laws.three_columns_are_shown.Goals as goal

pub returns : goal.returns
returns c = three_columns_are_shown
