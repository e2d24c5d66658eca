-- The bytes behind a node's data buffers.
use Rattle.std.specs.Prelude.{◌≡◌, ℕ, ◌+◌, ◌*◌, ◌/◌, ◌<◌, ◌≤◌, Bool, true, cond, ◌&&◌, List, [], length, drop, ◌==◌, nat_le, nat_lt, slice_index, slice_index_or}
use Rattle.columns.specs.Column.{View, short, long}
use Rattle.columns.specs.Says.{slice}
use Rattle.columns.specs.Sound.{little_endian}
use Rattle.columns.specs.Sent.{is_named}
use Rattle.pools.specs.declared.records.Part.{Part}
use Rattle.pools.specs.Parts.{buffers_in}
use Rattle.parcels.specs.Sents.{SentAt}
use Rattle.parcels.specs.Lent.{data_size, place_of, number_at, bytes_at}
use Rattle.soundness.specs.declared.places.Places.{Places}
use Rattle.soundness.specs.declared.sent.DataBuffer.{DataBuffer}

-- every `stride`-th place is known
pub record Indexed (parcel : List ℕ) (lent : Part) (x : Places) : Type 0 where
  pub stride : x.stride ≡ lent.len / 256 + 1
  pub known : (j : ℕ) → j * x.stride < lent.len → slice_index x.marks j ≡ place_of parcel lent.start (j * x.stride)
  pub size : length x.marks ≡ 256

-- what is told of a data buffer that lies in the parcel
abbrev pub Told : List ℕ → DataBuffer → Type 0
Told parcel b = SentAt parcel b.at b.sent × (b.at + data_size parcel b.at ≤ length parcel)

-- the bytes of the data buffer at a place
abbrev pub source_at : (parcel bytes : List ℕ) → List Part → (at : ℕ) → List ℕ
source_at parcel bytes buffers at = cond (is_named (drop at parcel)) (slice_index_or (buffers_in bytes buffers) (number_at parcel at) []) (bytes_at parcel at)

-- a view is sound, by the bytes behind a position
abbrev pub view_fine : (ℕ → List ℕ) → (count : ℕ) → View → Bool
view_fine source count (short len inline) = true
view_fine source count (long len prefix position offset) =
    nat_lt position count && nat_le (offset + len) (length (source position)) && prefix == little_endian (slice (source position) offset 4)

-- the bytes behind a node's positions
abbrev pub sources : (parcel bytes : List ℕ) → List Part → (lent : Part) → ℕ → List ℕ
sources parcel bytes buffers lent position = source_at parcel bytes buffers (place_of parcel lent.start position)
