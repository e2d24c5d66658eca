-- When a column is sound: at every node, in null rows too.
use Rattle.std.specs.Prelude.{◌≡◌, ℕ, ◌+◌, ◌*◌, ◌<◌, ◌≤◌, Bool, true, false, List, [], ◌∷◌, length, slice_index, slice_index_or}
use Rattle.std.proofs.Math.Option.{some, none}
use Rattle.std.specs.List.{AllByRecursion}
use Rattle.columns.specs.Kinds.{Kind, primitive, boolean, strings, views, lists, maps, structs, run_ended, fixed_lists, unknown}
use Rattle.columns.specs.Format.{ends_format}
use Rattle.columns.specs.Column.{View, short, long, bytes_for, Node, Column, Columns, column, end, ◌&◌, node, children, first, nth, width, kind, rows_of, view_at}
use Rattle.columns.specs.Masks.{has_null}
use Rattle.columns.specs.Says.{ends_of, slice}

-- Offsets never fall and end within what they point into.
pub record Offsets (os : List ℕ) (rows bound : ℕ) : Type 0 where
  pub fill : length os ≡ rows + 1
  pub never_fall : (i : ℕ) → i < rows → slice_index os i ≤ slice_index os (i + 1)
  pub end_within : slice_index_or os rows 0 ≤ bound

-- Strictly upwards from above `low`, the last being `top`.
abbrev pub Climbs : ℕ → List ℕ → ℕ → Type 0
Climbs low [] top = low ≡ top
Climbs low (e ∷ es) top = (low < e) × Climbs e es top

-- Spare bits lie in the last byte, after those of the rows.
abbrev pub SpareFits : ℕ → List Bool → Type 0
SpareFits rows spare = rows + length spare ≤ 8 * bytes_for rows

abbrev pub MaskFills : Node → Type 0
MaskFills n = elim n.mask [ none ↦ length n.mask_spare ≡ 0 | some bs ↦ (length bs ≡ n.rows) × SpareFits n.rows n.mask_spare ]

abbrev pub RowsAre : ℕ → Columns → Type 0
RowsAre r end = Unit
RowsAre r (c & cs) = (rows_of c ≡ r) × RowsAre r cs

-- a number of some bytes, least significant first
abbrev pub little_endian : List ℕ → ℕ
little_endian [] = 0
little_endian (b ∷ bs) = b + 256 * little_endian bs

module _ (data_buffer : ℕ → List ℕ) where
  -- Up to 12 bytes of text stand in the view; more lie in a listed buffer, and the first four of them are the prefix.
  abbrev pub ViewSound : List ℕ → View → Type 0
  ViewSound buffers (short len inline) = (len ≤ 12) × (length inline ≡ 12)
  ViewSound buffers (long len prefix position offset) =
      (12 < len) × (position < length buffers) × (offset + len ≤ length (data_buffer (slice_index buffers position)))
      × (prefix ≡ little_endian (slice (data_buffer (slice_index buffers position)) offset 4))

  -- What a node's own buffers and its children have to be, kind by kind.
  abbrev pub KindSound : Kind → Node → Columns → Type 0
  KindSound (primitive w) n cs = (length n.values ≡ n.rows) × (width cs ≡ 0)
  KindSound boolean n cs = (length n.bits ≡ n.rows) × (width cs ≡ 0) × SpareFits n.rows n.bits_spare
  KindSound strings n cs = Offsets n.offsets n.rows (length n.text) × (width cs ≡ 0)
  KindSound views n cs =
      (length n.views ≡ n.rows)
      × ((i : ℕ) → i < n.rows → ViewSound n.buffers (view_at n i))
      × (width cs ≡ 0)
  KindSound lists n cs = Offsets n.offsets n.rows (rows_of (first cs)) × (width cs ≡ 1)
  KindSound maps n cs =
      Offsets n.offsets n.rows (rows_of (first cs))
      × (width cs ≡ 1)
      × (kind (node (first cs)) ≡ structs)
      × (width (children (first cs)) ≡ 2)
      × (has_null (node (first cs)) ≡ false)
  KindSound structs n cs = RowsAre n.rows cs × (width cs ≤ 255)
  KindSound run_ended n cs =
      Climbs 0 (ends_of cs) n.rows
      × (rows_of (nth cs 1) ≡ rows_of (first cs))
      × (width cs ≡ 2)
      × (ends_format (node (first cs)).format ≡ true)
      × (n.mask ≡ none)
      × ((node (first cs)).mask ≡ none)
  KindSound (fixed_lists N) n cs = (rows_of (first cs) ≡ n.rows * N) × (width cs ≡ 1)
  KindSound unknown n cs = ⊥

  unfoldable mutual
    pub Sound : Column → Type 0
    Sound (column n cs) = MaskFills n × KindSound (kind n) n cs × EachSound cs

    pub EachSound : Columns → Type 0
    EachSound end = Unit {0}
    EachSound (c & cs) = Sound c × EachSound cs

-- Every buffer that a node lists is shelved, used or not, there being so many.
unfoldable mutual
  pub ListsShelved : (many : ℕ) → Column → Type 0
  ListsShelved many (column n cs) = AllByRecursion (λ b. b < many) n.buffers × EachListsShelved many cs

  pub EachListsShelved : (many : ℕ) → Columns → Type 0
  EachListsShelved many end = Unit {0}
  EachListsShelved many (c & cs) = ListsShelved many c × EachListsShelved many cs
