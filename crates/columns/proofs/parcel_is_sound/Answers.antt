use Rattle.columns.proofs.parcel_is_sound.Goals as goal
use Rattle.columns.proofs.Parcel.{parcel_is_sound}

pub returns : goal.returns
returns c = parcel_is_sound
