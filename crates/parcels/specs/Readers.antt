-- Where a reader stands, as the rules say it, and what stays while it reads.
use Rattle.std.specs.Prelude.{◌≡◌, ℕ, List}
use Rattle.columns.specs.Reading as rules_reading
use Rattle.parcels.specs.declared.reader.Reader.{Reader}
use Rattle.parcels.specs.Reads.{placed}

-- where the reading of the rules stands, with these data buffers
abbrev pub stands : Reader → List (List ℕ) → rules_reading.Place
stands r bs = placed r.parcel.now r.place bs

-- after what is no data buffer and no node
pub record Kept (old new : Reader) : Type 0 where
  pub parcel : new.parcel.now ≡ old.parcel.now
  pub nodes : new.place.nodes ≡ old.place.nodes
  pub brought : new.place.brought ≡ old.place.brought

-- after data buffers
pub record SameNode (old new : Reader) : Type 0 where
  pub parcel : new.parcel.now ≡ old.parcel.now
  pub nodes : new.place.nodes ≡ old.place.nodes
