-- What drafts need of the pools.
use Rattle.std.specs.Prelude.{ℕ, ◌+◌, List, [], ◌∷◌, ◌++◌, map, length, Some, None, Option}
use Rattle.columns.specs.Column.{bytes_for}
use Rattle.columns.specs.Pools.{plus, sum_of}
use Rattle.pools.specs.declared.pools.Marks.{Marks}
use Rattle.pools.specs.Marked.{entries}
use Rattle.pools.specs.declared.records.Part.{Part}
use Rattle.formats.specs.declared.format.Width.{Width}
use Rattle.formats.specs.declared.format.Width.TheVariants.{One, Two, Four, Eight}
use Rattle.formats.specs.declared.kind.Kind.{Kind}
use Rattle.formats.specs.declared.kind.Kind.TheVariants.{Primitive, Boolean, Text, View, Map, Struct, RunEnds, FixedList}
use Rattle.formats.specs.declared.kind.Kind.TheVariants.{List as ListOf}
use Rattle.parcels.specs.declared.draft.Draft.{Draft}
use Rattle.parcels.specs.Lent.{brought_from}

-- of pools 1 to 11: nothing of the slip
abbrev pub needed : Marks → List ℕ
needed x = entries x ++ 0 ∷ []

-- the data buffers that are brought, and their bytes
abbrev pub new_count : List ℕ → Part → ℕ
new_count parcel lent = length (brought_from parcel lent.start lent.len)

abbrev pub new_bytes : List ℕ → Part → ℕ
new_bytes parcel lent = sum_of (map length (brought_from parcel lent.start lent.len))

abbrev pub mask_need : Option Part → (rows : ℕ) → ℕ
mask_need None rows = 0
mask_need (Some p) rows = bytes_for rows

-- of a node: `base` bytes whatever its kind, and `new` data buffers
abbrev pub own_entries : (base new : ℕ) → List ℕ
own_entries base new = 0 ∷ 1 ∷ base ∷ 0 ∷ 0 ∷ 0 ∷ 0 ∷ 0 ∷ 0 ∷ new ∷ 0 ∷ []

abbrev pub width_entries : Width → (base rows new : ℕ) → List ℕ
width_entries One base r new = 0 ∷ 1 ∷ (base + r) ∷ 0 ∷ 0 ∷ 0 ∷ 0 ∷ 0 ∷ 0 ∷ new ∷ 0 ∷ []
width_entries Two base r new = 0 ∷ 1 ∷ base ∷ r ∷ 0 ∷ 0 ∷ 0 ∷ 0 ∷ 0 ∷ new ∷ 0 ∷ []
width_entries Four base r new = 0 ∷ 1 ∷ base ∷ 0 ∷ r ∷ 0 ∷ 0 ∷ 0 ∷ 0 ∷ new ∷ 0 ∷ []
width_entries Eight base r new = 0 ∷ 1 ∷ base ∷ 0 ∷ 0 ∷ r ∷ 0 ∷ 0 ∷ 0 ∷ new ∷ 0 ∷ []

abbrev pub kind_entries : Kind → (base rows text list new : ℕ) → List ℕ
kind_entries (Primitive w) base r t l new = width_entries w base r new
kind_entries Boolean base r t l new = 0 ∷ 1 ∷ (base + bytes_for r) ∷ 0 ∷ 0 ∷ 0 ∷ 0 ∷ 0 ∷ 0 ∷ new ∷ 0 ∷ []
kind_entries (Text wide) base r t l new = 0 ∷ 1 ∷ (base + t) ∷ 0 ∷ 0 ∷ 0 ∷ (r + 1) ∷ 0 ∷ 0 ∷ new ∷ 0 ∷ []
kind_entries View base r t l new = 0 ∷ 1 ∷ base ∷ 0 ∷ 0 ∷ 0 ∷ 0 ∷ r ∷ l ∷ new ∷ 0 ∷ []
kind_entries (ListOf wide) base r t l new = 0 ∷ 1 ∷ base ∷ 0 ∷ 0 ∷ 0 ∷ (r + 1) ∷ 0 ∷ 0 ∷ new ∷ 0 ∷ []
kind_entries Map base r t l new = 0 ∷ 1 ∷ base ∷ 0 ∷ 0 ∷ 0 ∷ (r + 1) ∷ 0 ∷ 0 ∷ new ∷ 0 ∷ []
kind_entries Struct base r t l new = own_entries base new
kind_entries RunEnds base r t l new = own_entries base new
kind_entries (FixedList size) base r t l new = own_entries base new

abbrev pub draft_entries : List ℕ → Draft → List ℕ
draft_entries parcel d =
    kind_entries d.kind (mask_need d.parts.mask d.head.rows + d.head.format.len + new_bytes parcel d.parts.lent)
    d.head.rows d.parts.text.len d.parts.lent.len (new_count parcel d.parts.lent)

unfoldable pub drafts_need : List ℕ → List Draft → List ℕ
drafts_need parcel [] = []
drafts_need parcel (d ∷ ds) = plus (draft_entries parcel d) (drafts_need parcel ds)
