-- The node that an entry of the node pool stands for: where each of its parts lies.
use Rattle.std.specs.Prelude.{◌≡◌, ℕ, ◌+◌, ◌≤◌, Bool, List, [], ◌++◌, map, length, Some, None, Option as Maybe}
use Rattle.std.proofs.Math.Option.{Option, some, none}
use Rattle.formats.specs.declared.format.Width.{Width}
use Rattle.formats.specs.declared.format.Width.TheVariants.{One, Two, Four, Eight}
use Rattle.formats.specs.declared.kind.Kind.{Kind}
use Rattle.formats.specs.declared.kind.Kind.TheVariants.{Primitive, Boolean, Text, View as Viewed, List as Listed, Map, Struct, RunEnds, FixedList}
use Rattle.formats.specs.Kinds.{layout, offset_width}
use Rattle.columns.specs.Format.{offset_bytes}
use Rattle.columns.specs.Column.{View, bytes_for, Buffers, only_values, only_bits, only_offsets, offsets_into, views_into, no_buffers, Node, kind}
use Rattle.columns.specs.Bytes.{packed, view_of_halves}
use Rattle.columns.specs.Limits.{most_rows}
use Rattle.pools.specs.declared.records.View.{View as Halves}
use Rattle.pools.specs.declared.records.Node.{Node as Entry}
use Rattle.pools.specs.Store.{Store, Segment, Lies}

-- Values lie in the pool of their width.
abbrev pub values_pool : Store → Width → List ℕ
values_pool P One = P.bytes
values_pool P Two = P.shorts
values_pool P Four = P.words
values_pool P Eight = P.longs

-- A view is told by its halves.
abbrev pub view_from : Halves → View
view_from h = view_of_halves h.low h.high

abbrev pub views_pool : Store → List View
views_pool P = map view_from P.views

-- A bit for each row, eight to a byte, and after them the spare bits of the last byte.
pub record BitsLie (bytes : List ℕ) (place rows : ℕ) (bits spare : List Bool) : Type 0 where
  pub fills : length bits ≡ rows
  pub lies : Segment bytes place (bytes_for rows) (packed (bits ++ spare))

-- A mask may be absent.
abbrev pub MaskLies : (bytes : List ℕ) → Maybe ℕ → (rows : ℕ) → Option (List Bool) → (spare : List Bool) → Type 0
MaskLies bytes None rows none spare = spare ≡ []
MaskLies bytes None rows (some bits) spare = ⊥
MaskLies bytes (Some place) rows none spare = ⊥
MaskLies bytes (Some place) rows (some bits) spare = BitsLie bytes place rows bits spare

-- what a node holds besides its mask
abbrev pub own_buffers : Node → Buffers
own_buffers n =
    record { values = n.values; bits = n.bits; bits_spare = n.bits_spare; offsets = n.offsets; text = n.text; views = n.views; buffers = n.buffers }

-- Where that lies, kind by kind; what a kind does not have is empty.
abbrev pub BuffersLie : Store → Entry → Kind → Node → Type 0
BuffersLie P r (Primitive w) n = Segment (values_pool P w) r.place n.rows n.values × (own_buffers n ≡ only_values n.values)
BuffersLie P r Boolean n = BitsLie P.bytes r.place n.rows n.bits n.bits_spare × (own_buffers n ≡ only_bits n.bits n.bits_spare)
BuffersLie P r (Text wide) n =
    Segment P.offsets r.place (n.rows + 1) n.offsets × Lies P.bytes r.text n.text
    × (own_buffers n ≡ offsets_into n.offsets n.text)
BuffersLie P r Viewed n =
    Segment (views_pool P) r.place n.rows n.views × Lies P.lists r.buffers n.buffers
    × (own_buffers n ≡ views_into n.views n.buffers)
BuffersLie P r (Listed wide) n = Segment P.offsets r.place (n.rows + 1) n.offsets × (own_buffers n ≡ only_offsets n.offsets)
BuffersLie P r Map n = Segment P.offsets r.place (n.rows + 1) n.offsets × (own_buffers n ≡ only_offsets n.offsets)
BuffersLie P r Struct n = own_buffers n ≡ no_buffers
BuffersLie P r RunEnds n = own_buffers n ≡ no_buffers
BuffersLie P r (FixedList size) n = own_buffers n ≡ no_buffers

-- Entry r is node n, which has so many children, and so many nodes with all below it.
pub record Held (P : Store) (r : Entry) (n : Node) (children nodes : ℕ) : Type 0 where
  pub is_kind : layout r.kind ≡ kind n
  pub offset_size : offset_width r.kind ≡ offset_bytes n.format
  pub format_lies : Lies P.bytes r.format n.format
  pub is_label : r.label ≡ n.label
  pub is_rows : r.rows ≡ n.rows
  pub few_rows : n.rows ≤ most_rows
  pub is_children : r.children ≡ children
  pub is_span : r.span ≡ nodes
  pub mask_lies : MaskLies P.bytes r.mask n.rows n.mask n.mask_spare
  pub buffers_lie : BuffersLie P r r.kind n
