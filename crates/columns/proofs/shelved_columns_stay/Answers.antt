use Rattle.columns.proofs.shelved_columns_stay.Goals as goal
use Rattle.columns.proofs.Parcel.{parcel_is_sound}
use Rattle.columns.proofs.Ledger.{shelved_columns_stay}

pub returns : goal.returns
returns c = shelved_columns_stay parcel_is_sound
