-- A node's data buffers, one after another.
use Rattle.std.specs.Prelude.{ℕ, zero, suc, ◌+◌, cond, List, [], ◌∷◌, drop}
use Rattle.columns.specs.Sent.{is_named, buffer_length}
use Rattle.parcels.specs.Lent.{data_size, number_at}
use Rattle.soundness.specs.declared.sent.DataBuffer.{DataBuffer}
use Rattle.parcels.specs.declared.sent.Sent.{Sent}
use Rattle.parcels.specs.declared.sent.Sent.TheVariants.{Brought, Named}

-- how the data buffer at a place is sent
abbrev pub sent_in : List ℕ → (at : ℕ) → Sent
sent_in parcel at = cond (is_named (drop at parcel)) (Named (number_at parcel at)) (Brought (buffer_length (drop at parcel)))

abbrev pub buffer_in : List ℕ → (at : ℕ) → DataBuffer
buffer_in parcel at = record { at = at; sent = sent_in parcel at }

-- n of them, the first standing at `at`
unfoldable pub buffers_from : List ℕ → (at n : ℕ) → List DataBuffer
buffers_from parcel at zero = []
buffers_from parcel at (suc n) = buffer_in parcel at ∷ buffers_from parcel (at + data_size parcel at) n
