use Rattle.pools.proofs.Same.{stored_same}
use Rattle.pools.proofs.laws.a_place_stores_one_column.Goals as goal

pub returns : goal.returns
returns c = stored_same
