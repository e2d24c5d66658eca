use Rattle.std.proofs.Common.{◌≡◌, ℕ, List, length, drop, arith}
use Rattle.std.proofs.lemmas.List.{length-take-le, length-drop}
use Rattle.pools.specs.declared.records.Part.{Part}
use Rattle.parcels.specs.Reads.{Within, within}

pub length_within : (parcel : List ℕ) (x : Part) → Within parcel x → length (within parcel x) ≡ x.len
length_within parcel x h = length-take-le x.len (drop x.start parcel) (simp length-drop (omega arith))
