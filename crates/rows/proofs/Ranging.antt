-- The range that is read at a row is the stored node's.
use Rattle.std.proofs.Common.{◌≡◌, ℕ, ◌+◌, ◌-◌, ◌<◌, ◌≤◌, Bool, ◌⊎◌, List, [], length, get_or, sym, refl, ap, ◌∙◌, subst, inl, inr, ap₂, add_assoc, arith}
use Rattle.formats.specs.declared.kind.Kind.{Kind}
use Rattle.formats.specs.declared.kind.Kind.TheVariants.{Primitive, Boolean, Text, View, List as Listed, Map, Struct, RunEnds, FixedList}
use Rattle.formats.specs.Kinds.{layout}
use Rattle.columns.specs.Column.{Buffers, Node, kind}
use Rattle.columns.specs.Kinds as rules
use Rattle.columns.specs.Gathering.{ranges}
use Rattle.columns.specs.Says.{slice, offset_start, offset_length}
use Rattle.pools.specs.declared.records.Part.{Part}
use Rattle.pools.specs.declared.records.Node.{Node as Entry}
use Rattle.pools.specs.Store.{Store, Segment, Lies}
use Rattle.pools.specs.Held.{own_buffers, BuffersLie, Held}
use Rattle.rows.specs.Ranged.{between, row_range, text_part}
use Rattle.pools.proofs.Fronts.{segment_at, segment_part, segment_length}

-- a row's range, as a start and a length
abbrev pub Ranged : Part → rules.Kind → Node → ℕ → Type 0
Ranged p K n row = (p.start ≡ (ranges K n).start row) × (p.len ≡ (ranges K n).size row)

by_offsets : {os : List ℕ} {place rows : ℕ} {vs : List ℕ} → Segment os place (rows + 1) vs → (row : ℕ) → row < rows →
    (get_or os (place + row) 0 ≡ get_or vs row 0) × (get_or os (place + row + 1) 0 - get_or os (place + row) 0 ≡ get_or vs (row + 1) 0 - get_or vs row 0)
by_offsets {os} {place} {rows} {vs} s row h =
    let low = segment_at s row 0 (omega arith) in
    let high = ap (λ i. get_or os i 0) (add_assoc place row 1) ∙ segment_at s (row + 1) 0 (omega arith) in
    (low, ap₂ ◌-◌ high low)

no_offsets : (n : Node) {b : Buffers} → own_buffers n ≡ b → b.offsets ≡ [] → (i : ℕ) → 0 ≡ get_or n.offsets i 0
no_offsets n e z i = ap (λ (os : List ℕ). get_or os i 0) (sym (ap (λ (b : Buffers). b.offsets) e ∙ z))

none_there : (n : Node) {b : Buffers} → own_buffers n ≡ b → b.offsets ≡ [] → (row : ℕ) →
    (0 ≡ get_or n.offsets row 0) × (0 ≡ get_or n.offsets (row + 1) 0 - get_or n.offsets row 0)
none_there n e z row = (no_offsets n e z row, ap₂ ◌-◌ (no_offsets n e z (row + 1)) (no_offsets n e z row))

-- a kind whose ranges are read by offsets
abbrev pub ByOffsets : Kind → Type 0
ByOffsets k = ((wide : Bool) × (k ≡ Text wide)) ⊎ (((wide : Bool) × (k ≡ Listed wide)) ⊎ (k ≡ Map))

pub offsets_range : (os : List ℕ) (k : Kind) (place row : ℕ) → ByOffsets k → row_range os k place row ≡ between os (place + row)
offsets_range os k place row (inl t) = ap (λ j. row_range os j place row) t.1
offsets_range os k place row (inr (inl t)) = ap (λ j. row_range os j place row) t.1
offsets_range os k place row (inr (inr t)) = ap (λ j. row_range os j place row) t

range_of : (P : Store) (r : Entry) (k : Kind) (n : Node) → BuffersLie P r k n → (row : ℕ) → row < n.rows → Ranged (row_range P.offsets k r.place row) (layout k) n row
range_of P r (Primitive w) n h row l = none_there n h.1 refl row
range_of P r Boolean n h row l = none_there n h.1 refl row
range_of P r (Text wide) n h row l = by_offsets h.0 row l
range_of P r View n h row l = none_there n h.2 refl row
range_of P r (Listed wide) n h row l = by_offsets h.0 row l
range_of P r Map n h row l = by_offsets h.0 row l
range_of P r Struct n h row l = none_there n h refl row
range_of P r RunEnds n h row l = none_there n h refl row
range_of P r (FixedList size) n h row l = (refl, refl)

pub range_read : (P : Store) (r : Entry) (n : Node) (children nodes : ℕ) → Held P r n children nodes → (row : ℕ) → row < n.rows → Ranged (row_range P.offsets r.kind r.place row) (kind n) n row
range_read P r n children nodes h row l =
    subst (λ K. Ranged (row_range P.offsets r.kind r.place row) K n row) h.is_kind (range_of P r r.kind n h.buffers_lie row l)

pub range_told : (os : List ℕ) (r : Entry) (row : ℕ) (p : Part) → p ≡ row_range os r.kind r.place row →
    (P : Store) (n : Node) (children nodes : ℕ) → P.offsets ≡ os → Held P r n children nodes → row < n.rows → Ranged p (kind n) n row
range_told os r row p e P n children nodes o h l =
    subst (λ q. Ranged q (kind n) n row) (ap (λ (xs : List ℕ). row_range xs r.kind r.place row) o ∙ sym e) (range_read P r n children nodes h row l)

-- the bytes of a row are a part of the text
pub text_told : (os : List ℕ) (r : Entry) (row : ℕ) (bytes : List ℕ) (n : Node) → Segment os r.place (n.rows + 1) n.offsets → Lies bytes r.text n.text →
    row < n.rows → offset_start n row + offset_length n row ≤ length n.text → Lies bytes (text_part os r row) (slice n.text (offset_start n row) (offset_length n row))
text_told os r row bytes n o t l within =
    let e = by_offsets o row l in
    let part = segment_part t (offset_start n row) (offset_length n row) (omega (arith, segment_length t)) in
    subst (λ a. Segment bytes (r.text.start + a) (text_part os r row).len (slice n.text (offset_start n row) (offset_length n row))) (sym e.0)
    (subst (λ m. Segment bytes (r.text.start + offset_start n row) m (slice n.text (offset_start n row) (offset_length n row))) (sym e.1) part)
