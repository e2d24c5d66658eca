-- Texts by what is read from the pools.
use Rattle.std.specs.Prelude.{ℕ, zero, suc, ◌+◌, ◌/◌, ◌^◌, ◌<◌, Bool, true, false, List, [], ◌∷◌, ◌++◌, length, codes, slice_index, slice_index_or}
use Rattle.std.specs.List.{flat_map, AllByRecursion}
use Rattle.formats.specs.declared.kind.Kind.{Kind}
use Rattle.formats.specs.declared.kind.Kind.TheVariants.{Primitive, Boolean, Text, View as Viewed, List as Listed, Map, Struct, RunEnds, FixedList}
use Rattle.formats.specs.Spelled.{bytes_of}
use Rattle.columns.specs.Text.{hex_byte, hex_number}
use Rattle.columns.specs.Bytes.{le_bytes}
use Rattle.columns.specs.Says.{view_text}
use Rattle.columns.specs.Sound.{ViewSound}
use Rattle.pools.specs.declared.records.Part.{Part}
use Rattle.pools.specs.declared.records.View.{View as Halves}
use Rattle.pools.specs.declared.records.Node.{Node as Entry}
use Rattle.pools.specs.Parts.{part_of, Inside, buffers_in}
use Rattle.pools.specs.Store.{Store, no_halves}
use Rattle.pools.specs.Held.{values_pool, view_from}
use Rattle.pools.specs.Bits.{bit_of}
use Rattle.rows.specs.Ranged.{text_part}

-- Texts with commas between, and after a first.
abbrev pub tailed : List (List ℕ) → List ℕ
tailed [] = []
tailed (t ∷ ts) = codes "," ++ t ++ tailed ts

abbrev pub commas : List (List ℕ) → List ℕ
commas [] = []
commas (t ∷ ts) = t ++ tailed ts

-- what stands before text k, and the texts from k on
abbrev pub comma_before : ℕ → List ℕ
comma_before zero = []
comma_before (suc k) = codes ","

abbrev pub commas_from : ℕ → List (List ℕ) → List ℕ
commas_from zero ts = commas ts
commas_from (suc k) ts = tailed ts

abbrev pub bit_text : Bool → List ℕ
bit_text true = codes "t"
bit_text false = codes "f"

abbrev pub quoted : List ℕ → List ℕ
quoted bs = codes "\"" ++ flat_map hex_byte bs ++ codes "\""

-- A data buffer's bytes, and a view's text and soundness by its halves and its node's buffer list.
abbrev pub buffer_in : Store → ℕ → List ℕ
buffer_in P b = slice_index_or (buffers_in P.bytes P.buffers) b []

-- the bytes in a view, after its length
unfoldable pub inline : Halves → List ℕ
inline h = le_bytes 4 (h.low / 2 ^ 32) ++ le_bytes 8 h.high

unfoldable pub viewed : Store → Part → Halves → List ℕ
viewed P list h = view_text (buffer_in P) (part_of P.lists list) (view_from h)

pub record ViewIn (P : Store) (list : Part) (h : Halves) : Type 0 where
  pub listed : Inside P.lists list
  pub sound : ViewSound (buffer_in P) (part_of P.lists list) (view_from h)
  pub inside : AllByRecursion (Inside P.bytes) P.buffers

abbrev pub halves_at : Store → ℕ → Halves
halves_at P i = slice_index_or P.views i no_halves

-- A row of a node without children: its text, and that all that is read is there.
abbrev pub leaf_text : Store → Entry → Kind → ℕ → List ℕ
leaf_text P r (Primitive w) i = hex_number (bytes_of w) (slice_index (values_pool P w) (r.place + i))
leaf_text P r Boolean i = bit_text (bit_of P.bytes r.place i)
leaf_text P r (Text wide) i = quoted (part_of P.bytes (text_part P.offsets r i))
leaf_text P r Viewed i = quoted (viewed P r.buffers (halves_at P (r.place + i)))
leaf_text P r (Listed wide) i = []
leaf_text P r Map i = []
leaf_text P r Struct i = []
leaf_text P r RunEnds i = []
leaf_text P r (FixedList size) i = []

pub record TextIn (P : Store) (r : Entry) (i : ℕ) : Type 0 where
  pub there : r.place + i + 1 < length P.offsets
  pub inside : Inside P.bytes (text_part P.offsets r i)

pub record ViewedIn (P : Store) (r : Entry) (i : ℕ) : Type 0 where
  pub there : r.place + i < length P.views
  pub view : ViewIn P r.buffers (halves_at P (r.place + i))

abbrev pub LeafIn : Store → Entry → Kind → ℕ → Type 0
LeafIn P r (Primitive w) i = r.place + i < length (values_pool P w)
LeafIn P r Boolean i = r.place + i / 8 < length P.bytes
LeafIn P r (Text wide) i = TextIn P r i
LeafIn P r Viewed i = ViewedIn P r i
LeafIn P r (Listed wide) i = Unit {0}
LeafIn P r Map i = Unit {0}
LeafIn P r Struct i = Unit {0}
LeafIn P r RunEnds i = Unit {0}
LeafIn P r (FixedList size) i = Unit {0}
