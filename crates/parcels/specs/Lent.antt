-- Data buffers as they lie in the parcel, one after another.
use Rattle.std.specs.Prelude.{ℕ, zero, suc, ◌+◌, ◌-◌, ◌^◌, Bool, true, cond, ◌&&◌, List, [], ◌∷◌, length, drop, nat_le}
use Rattle.columns.specs.Says.{slice}
use Rattle.columns.specs.Sent.{Data, brought, named, buffer_length, is_named}

-- the bytes that the data buffer at this place takes, with its length
abbrev pub data_size : List ℕ → (at : ℕ) → ℕ
data_size parcel at = cond (is_named (drop at parcel)) 4 (4 + buffer_length (drop at parcel))

-- the place of the data buffer k, the first standing at `at`
unfoldable pub place_of : List ℕ → (at k : ℕ) → ℕ
place_of parcel at zero = at
place_of parcel at (suc k) = place_of parcel (at + data_size parcel at) k

-- n data buffers from this place on lie in the parcel
unfoldable pub readable : List ℕ → (at n : ℕ) → Bool
readable parcel at zero = true
readable parcel at (suc n) = nat_le (at + data_size parcel at) (length parcel) && readable parcel (at + data_size parcel at) n

abbrev pub number_at : List ℕ → (at : ℕ) → ℕ
number_at parcel at = buffer_length (drop at parcel) - 2 ^ 31

abbrev pub bytes_at : List ℕ → (at : ℕ) → List ℕ
bytes_at parcel at = slice parcel (at + 4) (buffer_length (drop at parcel))

-- what they are, those that are brought being numbered from `next` on
unfoldable pub data_from : List ℕ → (at next n : ℕ) → List Data
data_from parcel at next zero = []
data_from parcel at next (suc n) =
    cond (is_named (drop at parcel))
    (named (number_at parcel at) ∷ data_from parcel (at + data_size parcel at) next n)
    (brought next ∷ data_from parcel (at + data_size parcel at) (next + 1) n)

-- the bytes of those that are brought
unfoldable pub brought_from : List ℕ → (at n : ℕ) → List (List ℕ)
brought_from parcel at zero = []
brought_from parcel at (suc n) =
    cond (is_named (drop at parcel)) (brought_from parcel (at + data_size parcel at) n) (bytes_at parcel at ∷ brought_from parcel (at + data_size parcel at) n)
