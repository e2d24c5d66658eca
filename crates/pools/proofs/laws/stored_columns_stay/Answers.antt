use Rattle.pools.proofs.Keeping.{stored_kept}
use Rattle.pools.proofs.Staying.{stored_on}
use Rattle.pools.proofs.laws.stored_columns_stay.Goals as goal

pub returns : goal.returns
returns c = record { column_stays = λ P Q i d e h. stored_on e i d h; pools_stay = λ p q i d k h. stored_kept k i d h }
