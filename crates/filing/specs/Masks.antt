-- A mask of a parcel, which may be absent.
use Rattle.std.specs.Prelude.{ℕ, List, [], Some, None, Option}
use Rattle.pools.specs.declared.records.Part.{Part}
use Rattle.parcels.specs.Reads.{within}

abbrev pub mask_len : Option Part → ℕ
mask_len None = 0
mask_len (Some p) = p.len

-- its bytes
abbrev pub mask_sent : List ℕ → Option Part → List ℕ
mask_sent parcel None = []
mask_sent parcel (Some p) = within parcel p

-- its place, if there is one
abbrev pub mask_at : Option Part → ℕ → Option ℕ
mask_at None place = None
mask_at (Some p) place = Some place
