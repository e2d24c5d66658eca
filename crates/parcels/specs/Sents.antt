-- How a data buffer is sent: the bytes that follow its length, or the number of one that was shelved before.
use Rattle.std.specs.Prelude.{◌≡◌, ℕ, ◌+◌, ◌-◌, ◌^◌, ◌<◌, true, false, List, drop, Some, None, Option}
use Rattle.columns.specs.Sent.{buffer_length, is_named}
use Rattle.parcels.specs.declared.sent.Sent.{Sent}
use Rattle.parcels.specs.declared.sent.Sent.TheVariants.{Brought, Named}

-- how the data buffer at the front of these bytes is sent
abbrev pub SentSo : List ℕ → Sent → Type 0
SentSo ahead (Brought len) = (is_named ahead ≡ false) × (len ≡ buffer_length ahead) × (len < 2147483648)
SentSo ahead (Named number) = (is_named ahead ≡ true) × (number ≡ buffer_length ahead - 2 ^ 31)

-- how the data buffer at a place of the parcel is sent
abbrev pub SentAt : List ℕ → (at : ℕ) → Sent → Type 0
SentAt parcel at s = SentSo (drop at parcel) s

-- the bytes that it takes, with its length
abbrev pub size_sent : Sent → ℕ
size_sent (Brought len) = 4 + len
size_sent (Named number) = 4

-- its number, if it is not brought
abbrev pub name_sent : Sent → Option ℕ
name_sent (Brought len) = None
name_sent (Named number) = Some number
