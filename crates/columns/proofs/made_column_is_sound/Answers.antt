use Rattle.columns.proofs.made_column_is_sound.Goals as goal
use Rattle.columns.proofs.MadeWell.{made_column_is_sound}

pub returns : goal.returns
returns c = made_column_is_sound
