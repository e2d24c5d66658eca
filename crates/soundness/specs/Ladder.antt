-- The checks of drafts, by their data buffers as they lie in the parcel.
use Rattle.std.specs.Prelude.{ℕ, Bool, cond, ltb, List, ◌++◌, length, Some, None, Ok, Err, Option, Result, nat_lt}
use Rattle.std.proofs.Math.Option as math
use Rattle.columns.specs.Checks.{first_failing}
use Rattle.columns.specs.Checks as checks
use Rattle.columns.specs.Sent.{Data}
use Rattle.columns.specs.Parcel.{named_before}
use Rattle.denials.specs.declared.Denial.{Denial}
use Rattle.parcels.specs.declared.draft.Draft.{Draft}
use Rattle.parcels.specs.Lent.{data_from, brought_from}
use Rattle.parcels.specs.Reads.{sent_of}
use Rattle.denials.specs.Said.{said}
use Rattle.parcels.specs.declared.sent.Sent.{Sent}
use Rattle.parcels.specs.declared.sent.Sent.TheVariants.{Brought, Named}
use Rattle.parcels.specs.Roles.{role_of}
use Rattle.parcels.specs.Drafts.{sound_by, kind_sound_by, kind_in, head_in, node_in}

-- a draft's data buffers, `bs` being those that there are before it, and those that there are after it
abbrev pub data_of : List ℕ → List (List ℕ) → Draft → List Data
data_of parcel bs d = data_from parcel d.parts.lent.start (length bs) d.parts.lent.len

abbrev pub held_by : List ℕ → List (List ℕ) → Draft → List (List ℕ)
held_by parcel bs d = bs ++ brought_from parcel d.parts.lent.start d.parts.lent.len

-- the first of the numbers that was not shelved before
abbrev pub unshelved_in : (before : ℕ) → List Data → math.Option ℕ
unshelved_in before ds = first_failing (λ b. ltb b before) (named_before before ds)

-- a data buffer's number, where it is sent by one that was not shelved before
abbrev pub beyond_of : Sent → (before : ℕ) → Option ℕ
beyond_of (Brought len) before = None
beyond_of (Named number) before = cond (nat_lt number before) None (Some number)

abbrev pub kind_sound_in : List ℕ → List (List ℕ) → Draft → Bool
kind_sound_in parcel bs d = kind_sound_by (held_by parcel bs d) (kind_in parcel d) (node_in parcel d (data_of parcel bs d)) d.below

abbrev pub sound_in : List ℕ → List (List ℕ) → Draft → Bool
sound_in parcel bs d =
    sound_by (role_of d.role) (kind_in parcel d) (head_in parcel d) (sent_of parcel d.parts (data_of parcel bs d)) (node_in parcel d (data_of parcel bs d)) d.below (held_by parcel bs d)

abbrev pub denial_in : {T : Type 0} → Result T Denial → math.Option checks.Denial
denial_in (Ok t) = math.none
denial_in (Err d) = math.some (said d)
