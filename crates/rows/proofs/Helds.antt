-- The rows of a held node: each part is there, and is what the node has.
use Rattle.std.proofs.Common.{◌≡◌, ℕ, zero, suc, ◌+◌, ◌-◌, ◌/◌, ◌<◌, ◌≤◌, Bool, false, List, [], length, get_or, Some, None, Option as Maybe, sym, ◌∙◌, subst, arith}
use mathlib.Core.Option.{Option, some, none}
use lib.ListN.{length-map}
use Rattle.std.proofs.lemmas.List.{get_or-map}
use Rattle.formats.specs.declared.format.Width.{Width}
use Rattle.formats.specs.declared.kind.Kind.{Kind}
use Rattle.formats.specs.declared.kind.Kind.TheVariants.{Primitive, Boolean, Text, View as Viewed, List as Listed, Map, Struct, RunEnds, FixedList}
use Rattle.columns.specs.Column.{short, Node, kind}
use Rattle.columns.specs.Masks.{valid}
use Rattle.columns.specs.Says.{slice, offset_start, offset_length}
use Rattle.columns.specs.Column.{view_at}
use Rattle.columns.specs.Sound.{Offsets}
use Rattle.pools.specs.declared.records.Node.{Node as Entry}
use Rattle.pools.specs.Store.{Store, Segment, Lies, no_halves}
use Rattle.pools.specs.Held.{values_pool, view_from, MaskLies, BuffersLie, Held}
use Rattle.pools.specs.Bits.{bit_of, mask_bit, MaskThere}
use Rattle.rows.specs.Ranged.{row_range, RangeThere, text_part}
use Rattle.pools.proofs.Fronts.{segment_at}
use Rattle.pools.proofs.Reading.{byte_in, bit_read, valid_read}
use Rattle.rows.proofs.Ranging.{Ranged, range_read, text_told}

-- A bit of the mask.
mask_in : (bytes : List ℕ) (m : Maybe ℕ) (rows : ℕ) (o : Option (List Bool)) (spare : List Bool) → MaskLies bytes m rows o spare → (row : ℕ) → row < rows → MaskThere bytes m row
mask_in bytes None rows o spare h row l = tt
mask_in bytes (Some place) rows none spare h row l = absurd h
mask_in bytes (Some place) rows (some bits) spare h row l = byte_in place row rows (length bytes) h.lies.within l

pub held_mask_there : {P : Store} {r : Entry} {n : Node} {k s : ℕ} → Held P r n k s → (row : ℕ) → row < n.rows → MaskThere P.bytes r.mask row
held_mask_there {P} {r} {n} h row l = mask_in P.bytes r.mask n.rows n.mask n.mask_spare h.mask_lies row l

pub held_valid : {P : Store} {r : Entry} {n : Node} {k s : ℕ} → Held P r n k s → (row : ℕ) → row < n.rows → mask_bit P.bytes r.mask row ≡ valid n row
held_valid {P} {r} {n} h row l = valid_read P.bytes r.mask n.rows n.mask n.mask_spare h.mask_lies row l

-- The buffers of an entry whose kind is known.
pub held_buffers : {P : Store} {r : Entry} {n : Node} {k s : ℕ} (K : Kind) → r.kind ≡ K → Held P r n k s → BuffersLie P r K n
held_buffers {P} {r} {n} K e h = subst (λ k. BuffersLie P r k n) e h.buffers_lie

-- A value, of whatever width.
pub held_values : {P : Store} {r : Entry} {n : Node} {k s : ℕ} (w : Width) → r.kind ≡ Primitive w → Held P r n k s → Segment (values_pool P w) r.place n.rows n.values
held_values w e h = (held_buffers (Primitive w) e h).0

pub held_value_there : {P : Store} {r : Entry} {n : Node} {k s : ℕ} (w : Width) → r.kind ≡ Primitive w → Held P r n k s → (row : ℕ) → row < n.rows → r.place + row < length (values_pool P w)
held_value_there w e h row l = let v = (held_values w e h).within in omega arith

pub held_value : {P : Store} {r : Entry} {n : Node} {k s : ℕ} (w : Width) → r.kind ≡ Primitive w → Held P r n k s → (row : ℕ) → row < n.rows → get_or (values_pool P w) (r.place + row) 0 ≡ get_or n.values row 0
held_value w e h row l = segment_at (held_values w e h) row 0 l

-- A boolean.
pub held_bit_there : {P : Store} {r : Entry} {n : Node} {k s : ℕ} → r.kind ≡ Boolean → Held P r n k s → (row : ℕ) → row < n.rows → r.place + row / 8 < length P.bytes
held_bit_there {P} {r} {n} e h row l = byte_in r.place row n.rows (length P.bytes) (held_buffers Boolean e h).0.lies.within l

pub held_bit : {P : Store} {r : Entry} {n : Node} {k s : ℕ} → r.kind ≡ Boolean → Held P r n k s → (row : ℕ) → row < n.rows → bit_of P.bytes r.place row ≡ get_or n.bits row false
held_bit e h row l = bit_read (held_buffers Boolean e h).0 row l

-- A view.
pub held_view_there : {P : Store} {r : Entry} {n : Node} {k s : ℕ} → r.kind ≡ Viewed → Held P r n k s → (row : ℕ) → row < n.rows → r.place + row < length P.views
held_view_there {P} e h row l = let v = (held_buffers Viewed e h).0.within in omega (arith, length-map P.views view_from)

pub held_view : {P : Store} {r : Entry} {n : Node} {k s : ℕ} → r.kind ≡ Viewed → Held P r n k s → (row : ℕ) → row < n.rows → view_from (get_or P.views (r.place + row) no_halves) ≡ view_at n row
held_view {P} {r} e h row l =
    sym (get_or-map view_from P.views (r.place + row) no_halves (short 0 []) (held_view_there e h row l))
    ∙ segment_at (held_buffers Viewed e h).0 row (short 0 []) l

-- the number of a data buffer, by its position in the node's list
pub held_listed : {P : Store} {r : Entry} {n : Node} {k s : ℕ} → r.kind ≡ Viewed → Held P r n k s → (position : ℕ) → position < r.buffers.len → get_or P.lists (r.buffers.start + position) 0 ≡ get_or n.buffers position 0
held_listed e h position l = segment_at (held_buffers Viewed e h).1 position 0 l

-- A range.
offsets_in : {os : List ℕ} {place rows : ℕ} {vs : List ℕ} → Segment os place (rows + 1) vs → (row : ℕ) → row < rows → place + row + 1 < length os
offsets_in s row l = let w = s.within in omega arith

range_in : (P : Store) (r : Entry) (K : Kind) (n : Node) → BuffersLie P r K n → (row : ℕ) → row < n.rows → n.rows ≤ 1048576 → RangeThere P.offsets K r.place row
range_in P r (Primitive w) n h row l f = tt
range_in P r Boolean n h row l f = tt
range_in P r (Text wide) n h row l f = offsets_in h.0 row l
range_in P r Viewed n h row l f = tt
range_in P r (Listed wide) n h row l f = offsets_in h.0 row l
range_in P r Map n h row l f = offsets_in h.0 row l
range_in P r Struct n h row l f = tt
range_in P r RunEnds n h row l f = tt
range_in P r (FixedList size) n h row l f = omega arith

pub held_range_there : {P : Store} {r : Entry} {n : Node} {k s : ℕ} → Held P r n k s → (row : ℕ) → row < n.rows → RangeThere P.offsets r.kind r.place row
held_range_there {P} {r} {n} h row l = range_in P r r.kind n h.buffers_lie row l h.few_rows

pub held_range : {P : Store} {r : Entry} {n : Node} {k s : ℕ} → Held P r n k s → (row : ℕ) → row < n.rows → Ranged (row_range P.offsets r.kind r.place row) (kind n) n row
held_range {P} {r} {n} {k} {s} h row l = range_read P r n k s h row l

-- The bytes of a byte-string row.
offset_end : {os : List ℕ} {rows bound : ℕ} → Offsets os rows bound → (i d : ℕ) → i + d ≡ rows → get_or os i 0 ≤ bound
offset_end {os} {rows} {bound} o i zero e = subst (λ j. get_or os j 0 ≤ bound) (let z : rows ≡ i = omega arith in z) o.end_within
offset_end o i (suc d) e = let a = o.never_fall i (omega arith) in let b = offset_end o (i + 1) d (omega arith) in omega arith

pub held_text : {P : Store} {r : Entry} {n : Node} {k s : ℕ} (wide : Bool) → r.kind ≡ Text wide → Held P r n k s → Offsets n.offsets n.rows (length n.text) → (row : ℕ) → row < n.rows → Lies P.bytes (text_part P.offsets r row) (slice n.text (offset_start n row) (offset_length n row))
held_text {P} {r} {n} wide e h o row l =
    let b = held_buffers (Text wide) e h in
    text_told P.offsets r row P.bytes n b.0 b.1 l
    (let a = o.never_fall row l in let z = offset_end o (row + 1) (n.rows - (row + 1)) (omega arith) in omega arith)
