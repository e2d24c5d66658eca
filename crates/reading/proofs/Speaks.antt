-- What a row of a stored node says, shape by shape, in terms of what is read.
use Rattle.std.proofs.Common.{◌≡◌, ℕ, zero, suc, ◌+◌, ◌-◌, ◌*◌, ◌<◌, ◌≤◌, Bool, true, false, cond, not, List, [], ◌∷◌, ◌++◌, map, length, get_or, Some, None, codes, Option as Maybe, sym, refl, ap, ◌∙◌, subst, ap₂, mul-le-mul_right, suc-mul, arith}
use mathlib.Core.Option.{Option, some, none}
use lib.ListN.{length-map}
use Rattle.std.specs.List.{AllByRecursion}
use Rattle.std.proofs.lemmas.List.{get_or-map}
use Rattle.formats.specs.declared.kind.Kind.{Kind}
use Rattle.formats.specs.declared.kind.Kind.TheVariants.{Primitive, Boolean, Text, View as Viewed, List as Listed, Map, Struct, RunEnds, FixedList}
use Rattle.formats.specs.Kinds.{layout}
use Rattle.formats.specs.Spelled.{bytes_of}
use Rattle.columns.specs.Column.{short, Node, Column, Columns, column, end, ◌&◌, node, children, width, first, rest, nth, kind, rows_of}
use Rattle.columns.specs.Kinds as rules
use Rattle.columns.specs.Kinds.{is_primitive}
use Rattle.columns.specs.Column.{view_at}
use Rattle.columns.specs.Limits.{depth, depth_below, node_count}
use Rattle.columns.specs.Says.{Said, null, number, bit, bytes, list, struct, saids, says, each_says, row_says, kid, span, slice, ends_of, entry, offset_start, offset_length, view_text}
use Rattle.columns.specs.Masks.{valid}
use Rattle.columns.specs.Sound.{Sound, EachSound, KindSound, ViewSound, Offsets, Climbs}
use Rattle.columns.specs.Text.{text, hex_number}
use Rattle.columns.proofs.Every.{entry_known}
use Rattle.columns.proofs.Formats.{ends_primitive}
use Rattle.columns.proofs.Rows.{offsets_within}
use Rattle.columns.proofs.Tree.{says_is, kid_is, kid_says, sound_kind, sound_child}
use Rattle.pools.specs.declared.records.Part.{Part}
use Rattle.pools.specs.declared.records.Node.{Node as Entry}
use Rattle.pools.specs.Parts.{Inside}
use Rattle.pools.specs.Store.{Store, Segment, node_entry, no_halves}
use Rattle.pools.specs.Held.{values_pool, views_pool, view_from, MaskLies, BuffersLie, Held}
use Rattle.pools.specs.Bits.{mask_bit, MaskThere}
use Rattle.rows.specs.Ranged.{row_range, RangeThere, Rises}
use Rattle.pools.specs.Stored.{Stored, EachStored}
use Rattle.rows.proofs.Entries.{climbs_rise}
use Rattle.pools.proofs.Fronts.{segment_at, segment_length}
use Rattle.rows.proofs.Ranging.{Ranged, range_read, text_told}
use Rattle.pools.proofs.Reading.{byte_in, bit_read, valid_read, stored_node, stored_children, first_stored}
use Rattle.reading.specs.declared.shape.Shape.{Shape}
use Rattle.reading.specs.declared.shape.Shape.TheVariants.{Leaf, Ranges, Fields, Runs}
use Rattle.reading.specs.Raw.{buffer_in, commas, bit_text, quoted, viewed, halves_at, leaf_text, LeafIn}
use Rattle.reading.specs.Readable.{Readable, RowReadable, RowsReadable, FieldsReadable, row_text, rows_text, fields_text, shape_of, ends_at, EndsIn}
use Rattle.reading.proofs.Texts.{texts_are}

-- A leaf.
bit_said : (b : Bool) → text (bit b) ≡ bit_text b
unfolding text
bit_said true = refl
bit_said false = refl

bytes_said : (bs : List ℕ) → text (bytes bs) ≡ quoted bs
unfolding text
bytes_said bs = refl

number_said : (w v : ℕ) → text (number w v) ≡ hex_number w v
unfolding text
number_said w v = refl

record LeafReads (P : Store) (r : Entry) (k : Kind) (n : Node) (ends : List ℕ) (kids : List (ℕ → Said)) (i : ℕ) : Type 0 where
  pub there : LeafIn P r k i
  pub says_text : text (row_says (buffer_in P) (layout k) n ends kids i) ≡ leaf_text P r k i

view_read : (P : Store) (r : Entry) (n : Node) (i : ℕ) → Segment (views_pool P) r.place n.rows n.views → i < n.rows → view_from (halves_at P (r.place + i)) ≡ view_at n i
view_read P r n i s l =
    let w = s.within in
    sym (get_or-map view_from P.views (r.place + i) no_halves (short 0 []) (let e = length-map P.views view_from in omega arith))
    ∙ segment_at s i (short 0 []) l

leaf_reads : (P : Store) (r : Entry) (k : Kind) (n : Node) (cs : Columns) (ends : List ℕ) (kids : List (ℕ → Said)) (i : ℕ) → shape_of k ≡ Leaf → BuffersLie P r k n →
    KindSound (buffer_in P) (layout k) n cs → AllByRecursion (Inside P.bytes) P.buffers → i < n.rows → LeafReads P r k n ends kids i
unfolding viewed
leaf_reads P r (Primitive w) n cs ends kids i e b s a l =
    record {
      there = (let x = b.0.within in omega arith);
      says_text = number_said (bytes_of w) (get_or n.values i 0) ∙ ap (hex_number (bytes_of w)) (sym (segment_at b.0 i 0 l));
    }
leaf_reads P r Boolean n cs ends kids i e b s a l =
    record {
      there = byte_in r.place i n.rows (length P.bytes) b.0.lies.within l;
      says_text = bit_said (get_or n.bits i false) ∙ ap bit_text (sym (bit_read b.0 i l));
    }
leaf_reads P r (Text wide) n cs ends kids i e b s a l =
    let w = offsets_within n.offsets n.rows (length n.text) s.0 i l in
    let t = text_told P.offsets r i P.bytes n b.0 b.1 l w in
    record {
      there = record { there = (let x = b.0.within in omega arith); inside = t.within };
      says_text = bytes_said (slice n.text (offset_start n i) (offset_length n i)) ∙ ap quoted (sym t.is);
    }
leaf_reads P r Viewed n cs ends kids i e b s a l =
    let v = view_read P r n i b.0 l in
    record {
      there = record {
        there = (let x = b.0.within in let m = length-map P.views view_from in omega arith);
        view = record {
          listed = b.1.within;
          sound = subst (λ ns. ViewSound (buffer_in P) ns (view_from (halves_at P (r.place + i)))) (sym b.1.is)
              (subst (ViewSound (buffer_in P) n.buffers) (sym v) (s.1 i l));
          inside = a;
        };
      };
      says_text =
          bytes_said (view_text (buffer_in P) n.buffers (view_at n i))
          ∙ ap (λ w. quoted (view_text (buffer_in P) n.buffers w)) (sym v)
          ∙ ap (λ ns. quoted (view_text (buffer_in P) ns (view_from (halves_at P (r.place + i))))) (sym b.1.is);
    }
leaf_reads P r (Listed wide) n cs ends kids i e b s a l = absurd (let z : ◌≡◌ {A = ℕ} 0 1 = cc in omega arith)
leaf_reads P r Map n cs ends kids i e b s a l = absurd (let z : ◌≡◌ {A = ℕ} 0 1 = cc in omega arith)
leaf_reads P r Struct n cs ends kids i e b s a l = absurd (let z : ◌≡◌ {A = ℕ} 0 1 = cc in omega arith)
leaf_reads P r RunEnds n cs ends kids i e b s a l = absurd (let z : ◌≡◌ {A = ℕ} 0 1 = cc in omega arith)
leaf_reads P r (FixedList size) n cs ends kids i e b s a l = absurd (let z : ◌≡◌ {A = ℕ} 0 1 = cc in omega arith)

-- A list's row is a range of its child's rows.
list_said : (xs : List Said) → text (list (saids xs)) ≡ codes "[" ++ commas (map text xs) ++ codes "]"
unfolding text
list_said xs = ap (λ (t : List ℕ). codes "[" ++ t ++ codes "]") (texts_are xs)

struct_said : (xs : List Said) → text (struct (saids xs)) ≡ codes "{" ++ commas (map text xs) ++ codes "}"
unfolding text
struct_said xs = ap (λ (t : List ℕ). codes "{" ++ t ++ codes "}") (texts_are xs)

record RangesRead (P : Store) (r : Entry) (k : Kind) (n : Node) (cs : Columns) (p : Part) (i : ℕ) : Type 0 where
  pub there : RangeThere P.offsets k r.place i
  pub one_child : width cs ≡ 1
  pub within : p.start + p.len ≤ rows_of (first cs)
  pub says_text : text (row_says (buffer_in P) (layout k) n (ends_of cs) (each_says (buffer_in P) cs) i) ≡ codes "[" ++ rows_text P (first cs) p ++ codes "]"

ranged_text : (P : Store) (cs : Columns) (p : Part) (a m : ℕ) → p.start ≡ a → p.len ≡ m →
    text (list (saids (map (kid (each_says (buffer_in P) cs) 0) (span a m)))) ≡ codes "[" ++ rows_text P (first cs) p ++ codes "]"
unfolding rows_text
ranged_text P cs p a m x y =
    list_said (map (kid (each_says (buffer_in P) cs) 0) (span a m))
    ∙ ap (λ f. codes "[" ++ commas (map text (map f (span a m))) ++ codes "]") (kid_says (buffer_in P) cs 0)
    ∙ ap₂ (λ u v. codes "[" ++ commas (map text (map (says (buffer_in P) (first cs)) (span u v))) ++ codes "]") (sym x) (sym y)

within_offsets : (n : Node) (p : Part) (i bound : ℕ) → Offsets n.offsets n.rows bound → i < n.rows → p.start ≡ offset_start n i → p.len ≡ offset_length n i → p.start + p.len ≤ bound
within_offsets n p i bound o l x y = let w = offsets_within n.offsets n.rows bound o i l in omega arith

within_fixed : (N i rows bound : ℕ) → bound ≡ rows * N → i < rows → i * N + N ≤ bound
within_fixed N i rows bound e h = let m = mul-le-mul_right {m = suc i} {n = rows} N h in let d = suc-mul i N in omega arith

ranges_read : (P : Store) (r : Entry) (k : Kind) (n : Node) (cs : Columns) (p : Part) (i : ℕ) → shape_of k ≡ Ranges → BuffersLie P r k n →
    KindSound (buffer_in P) (layout k) n cs → n.rows ≤ 1048576 → i < n.rows → Ranged p (layout k) n i → RangesRead P r k n cs p i
ranges_read P r (Primitive w) n cs p i e b s a l g = absurd (let z : ◌≡◌ {A = ℕ} 0 1 = cc in omega arith)
ranges_read P r Boolean n cs p i e b s a l g = absurd (let z : ◌≡◌ {A = ℕ} 0 1 = cc in omega arith)
ranges_read P r (Text wide) n cs p i e b s a l g = absurd (let z : ◌≡◌ {A = ℕ} 0 1 = cc in omega arith)
ranges_read P r Viewed n cs p i e b s a l g = absurd (let z : ◌≡◌ {A = ℕ} 0 1 = cc in omega arith)
ranges_read P r (Listed wide) n cs p i e b s a l g =
    record {
      there = (let x = b.0.within in omega arith);
      one_child = s.1;
      within = within_offsets n p i (rows_of (first cs)) s.0 l g.0 g.1;
      says_text = ranged_text P cs p (offset_start n i) (offset_length n i) g.0 g.1;
    }
ranges_read P r Map n cs p i e b s a l g =
    record {
      there = (let x = b.0.within in omega arith);
      one_child = s.1;
      within = within_offsets n p i (rows_of (first cs)) s.0 l g.0 g.1;
      says_text = ranged_text P cs p (offset_start n i) (offset_length n i) g.0 g.1;
    }
ranges_read P r Struct n cs p i e b s a l g = absurd (let z : ◌≡◌ {A = ℕ} 0 1 = cc in omega arith)
ranges_read P r RunEnds n cs p i e b s a l g = absurd (let z : ◌≡◌ {A = ℕ} 0 1 = cc in omega arith)
ranges_read P r (FixedList size) n cs p i e b s a l g =
    record {
      there = omega arith;
      one_child = s.1;
      within = (let w = within_fixed size i n.rows (rows_of (first cs)) s.0 l in let x = g.0 in let y = g.1 in omega arith);
      says_text = ranged_text P cs p (i * size) size g.0 g.1;
    }

-- Structs and run ends by their kind.
is_struct : (k : Kind) → shape_of k ≡ Fields → k ≡ Struct
is_struct (Primitive w) e = cc
is_struct Boolean e = cc
is_struct (Text wide) e = cc
is_struct Viewed e = cc
is_struct (Listed wide) e = cc
is_struct Map e = cc
is_struct Struct e = refl
is_struct RunEnds e = cc
is_struct (FixedList size) e = cc

is_runs : (k : Kind) → shape_of k ≡ Runs → k ≡ RunEnds
is_runs (Primitive w) e = cc
is_runs Boolean e = cc
is_runs (Text wide) e = cc
is_runs Viewed e = cc
is_runs (Listed wide) e = cc
is_runs Map e = cc
is_runs Struct e = cc
is_runs RunEnds e = refl
is_runs (FixedList size) e = cc

record EndsRead (P : Store) (r : Entry) (k : Kind) (n : Node) : Type 0 where
  pub there : EndsIn P r k
  pub are : ends_at P r k ≡ n.values
  pub count : length n.values ≡ n.rows

ends_read : (P : Store) (r : Entry) (k : Kind) (n : Node) (top : ℕ) → is_primitive (layout k) ≡ true → BuffersLie P r k n → r.rows ≡ n.rows → Climbs 0 n.values top → EndsRead P r k n
ends_read P r (Primitive w) n top e b h c =
    let s : Segment (values_pool P w) r.place r.rows n.values = subst (λ m. Segment (values_pool P w) r.place m n.values) (sym h) b.0 in
    record { there = (s.within, subst Rises (sym s.is) (climbs_rise 0 n.values top c)); are = s.is; count = segment_length b.0 }
ends_read P r Boolean n top e b h c = absurd (let z : ◌≡◌ {A = ℕ} 0 1 = cc in omega arith)
ends_read P r (Text wide) n top e b h c = absurd (let z : ◌≡◌ {A = ℕ} 0 1 = cc in omega arith)
ends_read P r Viewed n top e b h c = absurd (let z : ◌≡◌ {A = ℕ} 0 1 = cc in omega arith)
ends_read P r (Listed wide) n top e b h c = absurd (let z : ◌≡◌ {A = ℕ} 0 1 = cc in omega arith)
ends_read P r Map n top e b h c = absurd (let z : ◌≡◌ {A = ℕ} 0 1 = cc in omega arith)
ends_read P r Struct n top e b h c = absurd (let z : ◌≡◌ {A = ℕ} 0 1 = cc in omega arith)
ends_read P r RunEnds n top e b h c = absurd (let z : ◌≡◌ {A = ℕ} 0 1 = cc in omega arith)
ends_read P r (FixedList size) n top e b h c = absurd (let z : ◌≡◌ {A = ℕ} 0 1 = cc in omega arith)

-- The node at a place.
pub held : {P : Store} {place levels : ℕ} (c : Column) → Readable P place c levels → Held P (node_entry P place) (node c) (width (children c)) (node_count c)
held {P} {place} c q = (stored_node P place c q.stored).1

pub known : {P : Store} {place levels : ℕ} (c : Column) → Readable P place c levels → place < length P.nodes
known {P} {place} c q = (stored_node P place c q.stored).0

depth_is : (c : Column) → depth c ≡ suc (depth_below (children c))
unfolding depth
depth_is (column n cs) = refl

pub deep : {P : Store} {place levels : ℕ} (c : Column) → Readable P place c levels → 0 < levels
deep c q = let e = depth_is c in let s = q.shallow in omega arith

each_sound : (D : ℕ → List ℕ) (c : Column) → Sound D c → EachSound D (children c)
unfolding Sound
each_sound D (column n cs) s = s.2

kind_there : {P : Store} {place levels : ℕ} (c : Column) → Readable P place c levels → KindSound (buffer_in P) (layout (node_entry P place).kind) (node c) (children c)
kind_there {P} {place} c q = subst (λ k. KindSound (buffer_in P) k (node c) (children c)) (sym (held c q).is_kind) (sound_kind (buffer_in P) c q.sound)

mask_read : (bs : List ℕ) (m : Maybe ℕ) (rows : ℕ) (o : Option (List Bool)) (spare : List Bool) (row : ℕ) → MaskLies bs m rows o spare → row < rows → MaskThere bs m row
mask_read bs None rows o spare row h l = tt
mask_read bs (Some place) rows none spare row h l = absurd h
mask_read bs (Some place) rows (some bits) spare row h l = byte_in place row rows (length bs) h.lies.within l

pub mask_there : {P : Store} {place row levels : ℕ} (c : Column) → RowReadable P place c row levels → MaskThere P.bytes (node_entry P place).mask row
mask_there {P} {place} {row} c q = mask_read P.bytes (node_entry P place).mask (rows_of c) (node c).mask (node c).mask_spare row (held c q.column).mask_lies q.row_in

valid_is : {P : Store} {place row levels : ℕ} (c : Column) → RowReadable P place c row levels → mask_bit P.bytes (node_entry P place).mask row ≡ valid (node c) row
valid_is {P} {place} {row} c q = valid_read P.bytes (node_entry P place).mask (rows_of c) (node c).mask (node c).mask_spare (held c q.column).mask_lies row q.row_in

null_said : text null ≡ codes "-"
unfolding text
null_said = refl

pub null_text : {P : Store} {place row levels : ℕ} (c : Column) → RowReadable P place c row levels → mask_bit P.bytes (node_entry P place).mask row ≡ false → row_text P c row ≡ codes "-"
unfolding row_text
null_text {P} {place} {row} c q e =
    let D = buffer_in P in
    ap text (says_is D c row ∙ ap (λ (b : Bool). cond b (row_says D (kind (node c)) (node c) (ends_of (children c)) (each_says D (children c)) row) null) (sym (valid_is c q) ∙ e))
    ∙ null_said

valid_text : {P : Store} {place row levels : ℕ} (c : Column) → RowReadable P place c row levels → mask_bit P.bytes (node_entry P place).mask row ≡ true →
    row_text P c row ≡ text (row_says (buffer_in P) (layout (node_entry P place).kind) (node c) (ends_of (children c)) (each_says (buffer_in P) (children c)) row)
unfolding row_text
valid_text {P} {place} {row} c q e =
    let D = buffer_in P in
    ap text (says_is D c row ∙ ap (λ (b : Bool). cond b (row_says D (kind (node c)) (node c) (ends_of (children c)) (each_says D (children c)) row) null) (sym (valid_is c q) ∙ e))
    ∙ ap (λ k. text (row_says D k (node c) (ends_of (children c)) (each_says D (children c)) row)) (sym (held c q.column).is_kind)

-- The shapes.
the_leaf : {P : Store} {place row levels : ℕ} (c : Column) → RowReadable P place c row levels → shape_of (node_entry P place).kind ≡ Leaf →
    LeafReads P (node_entry P place) (node_entry P place).kind (node c) (ends_of (children c)) (each_says (buffer_in P) (children c)) row
the_leaf {P} {place} {row} c q e =
    leaf_reads P (node_entry P place) (node_entry P place).kind (node c) (children c) (ends_of (children c)) (each_says (buffer_in P) (children c)) row e
    (held c q.column).buffers_lie (kind_there c q.column) q.column.inside q.row_in

pub leaf_there : {P : Store} {place row levels : ℕ} (c : Column) → RowReadable P place c row levels → shape_of (node_entry P place).kind ≡ Leaf → LeafIn P (node_entry P place) (node_entry P place).kind row
leaf_there c q e = (the_leaf c q e).there

pub leaf_row : {P : Store} {place row levels : ℕ} (c : Column) → RowReadable P place c row levels → mask_bit P.bytes (node_entry P place).mask row ≡ true → shape_of (node_entry P place).kind ≡ Leaf →
    row_text P c row ≡ leaf_text P (node_entry P place) (node_entry P place).kind row
leaf_row c q v e = valid_text c q v ∙ (the_leaf c q e).says_text

unfoldable pub range_at : (P : Store) (place row : ℕ) → Part
range_at P place row = row_range P.offsets (node_entry P place).kind (node_entry P place).place row

the_range : {P : Store} {place row levels : ℕ} (c : Column) → RowReadable P place c row levels → shape_of (node_entry P place).kind ≡ Ranges →
    RangesRead P (node_entry P place) (node_entry P place).kind (node c) (children c) (range_at P place row) row
unfolding range_at
the_range {P} {place} {row} c q e =
    let h = held c q.column in
    ranges_read P (node_entry P place) (node_entry P place).kind (node c) (children c) _ row e h.buffers_lie (kind_there c q.column) h.few_rows q.row_in
    (subst (λ k. Ranged (row_range P.offsets (node_entry P place).kind (node_entry P place).place row) k (node c) row) (sym h.is_kind)
    (range_read P (node_entry P place) (node c) (width (children c)) (node_count c) h row q.row_in))

pub range_there : {P : Store} {place row levels : ℕ} (c : Column) → RowReadable P place c row levels → shape_of (node_entry P place).kind ≡ Ranges → RangeThere P.offsets (node_entry P place).kind (node_entry P place).place row
range_there c q e = (the_range c q e).there

below : (cs : Columns) (j : ℕ) → j < width cs → depth (nth cs j) ≤ depth_below cs
unfolding depth
below end j l = absurd (omega arith)
below (c & cs) zero l = omega arith
below (c & cs) (suc j) l = let z = below cs j (omega arith) in omega arith

child_readable : {P : Store} {place levels : ℕ} (c : Column) (j at : ℕ) → Readable P place c levels → j < width (children c) → Stored P at (nth (children c) j) → Readable P at (nth (children c) j) (levels - 1)
child_readable {P} {place} {levels} c j at q l s =
    record {
      stored = s;
      sound = sound_child (buffer_in P) c j l q.sound;
      shallow = (let a = depth_is c in let b = below (children c) j l in let d = q.shallow in omega arith);
      inside = q.inside;
    }

pub rows_given : {P : Store} {place row levels : ℕ} (c : Column) → RowReadable P place c row levels → shape_of (node_entry P place).kind ≡ Ranges →
    RowsReadable P (place + 1) (first (children c)) (range_at P place row) (levels - 1)
rows_given {P} {place} {row} c q e =
    let g = the_range c q e in
    let w : 0 < width (children c) = (let z = g.one_child in omega arith) in
    record {
      column = child_readable c 0 (place + 1) q.column w (first_stored P (place + 1) (children c) w (stored_children P place c q.column.stored));
      rows_in = g.within;
    }

pub ranges_row : {P : Store} {place row levels : ℕ} (c : Column) → RowReadable P place c row levels → mask_bit P.bytes (node_entry P place).mask row ≡ true → shape_of (node_entry P place).kind ≡ Ranges →
    row_text P c row ≡ codes "[" ++ rows_text P (first (children c)) (range_at P place row) ++ codes "]"
ranges_row c q v e = valid_text c q v ∙ (the_range c q e).says_text

pub fields_given : {P : Store} {place row levels : ℕ} (c : Column) → RowReadable P place c row levels → shape_of (node_entry P place).kind ≡ Fields →
    FieldsReadable P (place + 1) (children c) (node_entry P place).children row (levels - 1)
fields_given {P} {place} {row} c q e =
    let s : KindSound (buffer_in P) rules.structs (node c) (children c) =
    subst (λ k. KindSound (buffer_in P) (layout k) (node c) (children c)) (is_struct (node_entry P place).kind e) (kind_there c q.column) in
    record {
      count_is = sym (held c q.column).is_children;
      stored = stored_children P place c q.column.stored;
      sound = each_sound (buffer_in P) c q.column.sound;
      shallow = (let a = depth_is c in let d = q.column.shallow in omega arith);
      inside = q.column.inside;
      rows = rows_of c;
      alike = s.0;
      row_in = q.row_in;
    }

pub fields_row : {P : Store} {place row levels : ℕ} (c : Column) → RowReadable P place c row levels → mask_bit P.bytes (node_entry P place).mask row ≡ true → shape_of (node_entry P place).kind ≡ Fields →
    row_text P c row ≡ codes "{" ++ fields_text P (children c) row ++ codes "}"
unfolding fields_text
fields_row {P} {place} {row} c q v e =
    valid_text c q v
    ∙ ap (λ k. text (row_says (buffer_in P) (layout k) (node c) (ends_of (children c)) (each_says (buffer_in P) (children c)) row)) (is_struct (node_entry P place).kind e)
    ∙ struct_said (map (λ f. f row) (each_says (buffer_in P) (children c)))

-- Run ends: the ends are the first child, the values the second.
runs_sound : {P : Store} {place row levels : ℕ} (c : Column) → RowReadable P place c row levels → shape_of (node_entry P place).kind ≡ Runs → KindSound (buffer_in P) rules.run_ended (node c) (children c)
runs_sound {P} {place} c q e = subst (λ k. KindSound (buffer_in P) (layout k) (node c) (children c)) (is_runs (node_entry P place).kind e) (kind_there c q.column)

pub ends_stored : {P : Store} {place row levels : ℕ} (c : Column) → RowReadable P place c row levels → shape_of (node_entry P place).kind ≡ Runs → Stored P (place + 1) (first (children c))
ends_stored {P} {place} c q e =
    first_stored P (place + 1) (children c) (let z = (runs_sound c q e).2 in omega arith) (stored_children P place c q.column.stored)

the_ends : {P : Store} {place row levels : ℕ} (c : Column) → RowReadable P place c row levels → shape_of (node_entry P place).kind ≡ Runs →
    EndsRead P (node_entry P (place + 1)) (node_entry P (place + 1)).kind (node (first (children c)))
the_ends {P} {place} c q e =
    let s = runs_sound c q e in
    let h = (stored_node P (place + 1) (first (children c)) (ends_stored c q e)).1 in
    ends_read P (node_entry P (place + 1)) (node_entry P (place + 1)).kind (node (first (children c))) (rows_of c)
    (ap is_primitive h.is_kind ∙ ends_primitive (node (first (children c))).format s.3) h.buffers_lie h.is_rows s.0

pub ends_there : {P : Store} {place row levels : ℕ} (c : Column) → RowReadable P place c row levels → shape_of (node_entry P place).kind ≡ Runs →
    EndsIn P (node_entry P (place + 1)) (node_entry P (place + 1)).kind
ends_there c q e = (the_ends c q e).there

second : (cs : Columns) → first (rest cs) ≡ nth cs 1
second end = refl
second (c & cs) = refl

pub two_children : {P : Store} {place row levels : ℕ} (c : Column) → RowReadable P place c row levels → shape_of (node_entry P place).kind ≡ Runs → width (children c) ≡ 2
two_children c q e = (runs_sound c q e).2

pub run_given : {P : Store} {place row levels : ℕ} (c : Column) (at : ℕ) → RowReadable P place c row levels → shape_of (node_entry P place).kind ≡ Runs → EachStored P at (rest (children c)) →
    RowReadable P at (nth (children c) 1) (entry (ends_at P (node_entry P (place + 1)) (node_entry P (place + 1)).kind) row) (levels - 1)
run_given {P} {place} {row} c at q e s =
    let k = runs_sound c q e in let d = the_ends c q e in
    let one_left : 0 < width (rest (children c)) = rest_width (children c) k.2 in
    record {
      column = child_readable c 1 at q.column (let z = k.2 in omega arith) (subst (Stored P at) (second (children c)) (first_stored P at (rest (children c)) one_left s));
      row_in =
          subst (λ es. entry es row < rows_of (nth (children c) 1)) (sym d.are)
          (let a = entry_known 0 (ends_of (children c)) (rows_of c) row k.0 (omega arith) q.row_in in let b = k.1 in let f = d.count in omega arith);
    }
  where
    rest_width : (cs : Columns) → width cs ≡ 2 → 0 < width (rest cs)
    rest_width end z = absurd (omega arith)
    rest_width (d & ds) z = omega arith

pub runs_row : {P : Store} {place row levels : ℕ} (c : Column) → RowReadable P place c row levels → mask_bit P.bytes (node_entry P place).mask row ≡ true → shape_of (node_entry P place).kind ≡ Runs →
    row_text P c row ≡ row_text P (nth (children c) 1) (entry (ends_at P (node_entry P (place + 1)) (node_entry P (place + 1)).kind) row)
unfolding row_text
runs_row {P} {place} {row} c q v e =
    valid_text c q v
    ∙ ap (λ k. text (row_says (buffer_in P) (layout k) (node c) (ends_of (children c)) (each_says (buffer_in P) (children c)) row)) (is_runs (node_entry P place).kind e)
    ∙ ap text (kid_is (buffer_in P) (children c) 1 (entry (ends_of (children c)) row) ∙ ap (λ es. says (buffer_in P) (nth (children c) 1) (entry es row)) (sym (the_ends c q e).are))

-- What was read of the node at a place.
pub shape_at : (P : Store) (place : ℕ) {r : Entry} {s : Shape} → r ≡ node_entry P place → s ≡ shape_of r.kind → shape_of (node_entry P place).kind ≡ s
shape_at P place e h = ap (λ (x : Entry). shape_of x.kind) (sym e) ∙ sym h

turned : (b m v : Bool) → b ≡ not m → b ≡ not v → m ≡ v
turned b true true h t = refl
turned b true false h t = cc
turned b false true h t = cc
turned b false false h t = refl

pub valid_at : (P : Store) (place row : ℕ) {r : Entry} {b : Bool} (v : Bool) → r ≡ node_entry P place → b ≡ not (mask_bit P.bytes r.mask row) → b ≡ not v → mask_bit P.bytes (node_entry P place).mask row ≡ v
valid_at P place row {r} {b} v e h t = ap (λ (x : Entry). mask_bit P.bytes x.mask row) (sym e) ∙ turned b (mask_bit P.bytes r.mask row) v h t

pub part_at : (P : Store) (place row : ℕ) {r : Entry} {p : Part} → r ≡ node_entry P place → p ≡ row_range P.offsets r.kind r.place row → range_at P place row ≡ p
unfolding range_at
part_at P place row e h = sym (h ∙ ap (λ (x : Entry). row_range P.offsets x.kind x.place row) e)

-- The same of an entry r that was read at the place, whether the row is null by it, b, and the range p that was read there.
pub null_read : {P : Store} {place row levels : ℕ} {r : Entry} {b : Bool} (d : Column) → RowReadable P place d row levels → r ≡ node_entry P place → b ≡ not (mask_bit P.bytes r.mask row) → b ≡ true → codes "-" ≡ row_text P d row
null_read {P} {place} {row} d q e v t = sym (null_text d q (valid_at P place row false e v t))

pub leaf_said : {P : Store} {place row levels : ℕ} {r : Entry} {b : Bool} (d : Column) → RowReadable P place d row levels → r ≡ node_entry P place → b ≡ not (mask_bit P.bytes r.mask row) → b ≡ false → Leaf ≡ shape_of r.kind →
    leaf_text P r r.kind row ≡ row_text P d row
leaf_said {P} {place} {row} d q e v t s =
    ap (λ (x : Entry). leaf_text P x x.kind row) e ∙ sym (leaf_row d q (valid_at P place row true e v t) (shape_at P place e s))

pub rows_there : {P : Store} {place row levels : ℕ} {r : Entry} {p : Part} (d : Column) → RowReadable P place d row levels → r ≡ node_entry P place → Ranges ≡ shape_of r.kind → p ≡ row_range P.offsets r.kind r.place row →
    RowsReadable P (place + 1) (first (children d)) p (levels - 1)
rows_there {P} {place} {row} {levels} d q e s h =
    subst (λ (x : Part). RowsReadable P (place + 1) (first (children d)) x (levels - 1)) (part_at P place row e h) (rows_given d q (shape_at P place e s))

pub ranges_said : {P : Store} {place row levels : ℕ} {r : Entry} {b : Bool} {p : Part} (d : Column) → RowReadable P place d row levels → r ≡ node_entry P place → b ≡ not (mask_bit P.bytes r.mask row) → b ≡ false → Ranges ≡ shape_of r.kind →
    p ≡ row_range P.offsets r.kind r.place row → 91 ∷ (rows_text P (first (children d)) p ++ 93 ∷ []) ≡ row_text P d row
ranges_said {P} {place} {row} d q e v t s h =
    ap (λ (x : Part). 91 ∷ (rows_text P (first (children d)) x ++ 93 ∷ [])) (sym (part_at P place row e h))
    ∙ sym (ranges_row d q (valid_at P place row true e v t) (shape_at P place e s))

pub fields_there : {P : Store} {place row levels : ℕ} {r : Entry} (d : Column) → RowReadable P place d row levels → r ≡ node_entry P place → Fields ≡ shape_of r.kind → FieldsReadable P (place + 1) (children d) r.children row (levels - 1)
fields_there {P} {place} {row} {levels} d q e s =
    subst (λ (x : Entry). FieldsReadable P (place + 1) (children d) x.children row (levels - 1)) (sym e) (fields_given d q (shape_at P place e s))

pub fields_said : {P : Store} {place row levels : ℕ} {r : Entry} {b : Bool} (d : Column) → RowReadable P place d row levels → r ≡ node_entry P place → b ≡ not (mask_bit P.bytes r.mask row) → b ≡ false → Fields ≡ shape_of r.kind →
    123 ∷ (fields_text P (children d) row ++ 125 ∷ []) ≡ row_text P d row
fields_said {P} {place} {row} d q e v t s = sym (fields_row d q (valid_at P place row true e v t) (shape_at P place e s))
