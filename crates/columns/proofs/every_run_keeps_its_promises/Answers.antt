use Rattle.columns.proofs.every_run_keeps_its_promises.Goals as goal
use Rattle.columns.proofs.Parcel.{parcel_is_sound}
use Rattle.columns.proofs.Ledger.{every_run}

pub returns : goal.returns
returns c = every_run parcel_is_sound
