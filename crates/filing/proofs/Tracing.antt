-- What is told of drafts by their data buffers as they lie in the parcel.
use Rattle.std.proofs.Common.{◌≡◌, ℕ, ◌+◌, ◌*◌, true, ◌&&◌, eqb, List, [], ◌∷◌, ◌++◌, length, Some, None, Option, sym, refl, ap, ◌∙◌, ap₂, append_assoc, append-nil, length-append}
use Rattle.std.specs.List.{AllByRecursion}
use Rattle.std.proofs.lemmas.Bool.{and_parts, eqb-true}
use Rattle.formats.specs.declared.format.Width.TheVariants.{One, Two, Four, Eight}
use Rattle.formats.specs.declared.kind.Kind.{Kind}
use Rattle.formats.specs.declared.kind.Kind.TheVariants.{Primitive, Boolean, Text, View, Map, Struct, RunEnds, FixedList}
use Rattle.formats.specs.declared.kind.Kind.TheVariants.{List as ListOf}
use Rattle.formats.specs.Kinds.{layout, offset_width}
use Rattle.columns.specs.Format.{offset_bytes}
use Rattle.columns.specs.Kinds as rules_format
use Rattle.columns.specs.Column.{Node, bytes_for}
use Rattle.columns.specs.Reading.{reached}
use Rattle.columns.specs.Sent.{Data}
use Rattle.columns.specs.SoundTests.{body_size, fills, mask_fills, role_sound}
use Rattle.columns.specs.Heads as rules_heads
use Rattle.columns.specs.Sent as rules_sent
use Rattle.columns.proofs.Checked.{Passed, passed_left, passed_right, unless_none}
use Rattle.pools.specs.declared.records.Part.{Part}
use Rattle.parcels.specs.declared.draft.Draft.{Draft}
use Rattle.parcels.specs.Reads.{within, MaskWithin, mask_of, sent_of}
use Rattle.parcels.specs.Roles.{role_of}
use Rattle.parcels.specs.Lent.{place_of, data_from}
use Rattle.parcels.specs.Drafts.{Drafted, lent_read, given_in, lent_of, held_after, kind_in, head_in, node_in, kind_sound_by, sound_by, checks_in, checks_of, nodes_of, held_of}
use Rattle.parcels.specs.Drafts as drafts
use Rattle.parcels.proofs.Lents.{reads_flat, P}
use Rattle.filing.specs.News.{brought_by}
use Rattle.soundness.specs.Sizes.{MaskFilled, Filled, body_by}
use Rattle.filing.specs.Filed.{nodes_from, brought_all}
use Rattle.filing.proofs.Fitting.{part_length}

-- one draft
lent_is : (parcel : List ℕ) (bs : List (List ℕ)) (number : ℕ) (d : Draft) → Drafted parcel d
    → lent_read parcel bs number d ≡ reached (data_from parcel d.parts.lent.start (length bs) d.parts.lent.len) (P parcel (place_of parcel d.parts.lent.start d.parts.lent.len) (number + 1) (bs ++ brought_by parcel d))
lent_is parcel bs number d h = reads_flat parcel d.parts.lent.len 0 d.parts.lent.start (number + 1) bs h.lent

data_is : (parcel : List ℕ) (bs : List (List ℕ)) (number : ℕ) (d : Draft) → Drafted parcel d → lent_of parcel bs number d ≡ data_from parcel d.parts.lent.start (length bs) d.parts.lent.len
data_is parcel bs number d h = ap (given_in []) (lent_is parcel bs number d h)

held_is : (parcel : List ℕ) (bs : List (List ℕ)) (number : ℕ) (d : Draft) → Drafted parcel d → held_after parcel bs number d ≡ bs ++ brought_by parcel d
held_is parcel bs number d h = ap (drafts.buffers_in bs) (lent_is parcel bs number d h)

-- all drafts: the nodes, and the data buffers after them
pub nodes_are : (parcel : List ℕ) (bs : List (List ℕ)) (number : ℕ) (ds : List Draft) → AllByRecursion (Drafted parcel) ds → nodes_of parcel bs number ds ≡ nodes_from parcel (length bs) ds
unfolding nodes_of nodes_from
nodes_are parcel bs number [] a = refl
nodes_are parcel bs number (d ∷ ds) a =
    ap₂ (λ (x : Node × ℕ) (l : List (Node × ℕ)). x ∷ l)
    (ap (λ (es : List Data). (node_in parcel d es, d.head.children)) (data_is parcel bs number d a.0))
    (ap (λ (cs : List (List ℕ)). nodes_of parcel cs (number + 1) ds) (held_is parcel bs number d a.0)
    ∙ nodes_are parcel (bs ++ brought_by parcel d) (number + 1) ds a.1
    ∙ ap (λ (n : ℕ). nodes_from parcel n ds) (length-append bs (brought_by parcel d)))

pub held_are : (parcel : List ℕ) (bs : List (List ℕ)) (number : ℕ) (ds : List Draft) → AllByRecursion (Drafted parcel) ds → held_of parcel bs number ds ≡ bs ++ brought_all parcel ds
unfolding held_of brought_all
held_are parcel bs number [] a = sym (append-nil bs)
held_are parcel bs number (d ∷ ds) a =
    ap (λ (cs : List (List ℕ)). held_of parcel cs (number + 1) ds) (held_is parcel bs number d a.0)
    ∙ held_are parcel (bs ++ brought_by parcel d) (number + 1) ds a.1 ∙ append_assoc bs (brought_by parcel d) (brought_all parcel ds)

-- buffers that are filled
size_is : (k : Kind) (h : rules_heads.Head) → offset_width k ≡ offset_bytes h.format → body_size (layout k) h ≡ body_by (layout k) (offset_width k) h.rows
size_is (Primitive One) h o = refl
size_is (Primitive Two) h o = refl
size_is (Primitive Four) h o = refl
size_is (Primitive Eight) h o = refl
size_is Boolean h o = refl
size_is (Text wide) h o = ap (λ (w : ℕ). w * (h.rows + 1)) (sym o)
size_is View h o = refl
size_is (ListOf wide) h o = ap (λ (w : ℕ). w * (h.rows + 1)) (sym o)
size_is Map h o = ap (λ (w : ℕ). w * (h.rows + 1)) (sym o)
size_is Struct h o = refl
size_is RunEnds h o = refl
size_is (FixedList size) h o = refl

mask_filled : (parcel : List ℕ) (m : Option Part) (rows : ℕ) → MaskWithin parcel m → mask_fills rows (mask_of parcel m) ≡ true → MaskFilled rows m
mask_filled parcel None rows w e = tt
mask_filled parcel (Some p) rows w e = sym (part_length parcel p w) ∙ eqb-true (length (within parcel p)) (bytes_for rows) e

filled_one : (parcel : List ℕ) (d : Draft) (es : List Data) → Drafted parcel d → fills (kind_in parcel d) (head_in parcel d) (sent_of parcel d.parts es) ≡ true → Filled d
filled_one parcel d es h e =
    let p = and_parts (mask_fills d.head.rows (mask_of parcel d.parts.mask)) (eqb (length (within parcel d.parts.body)) (body_size (kind_in parcel d) (head_in parcel d))) e in
    record {
      mask = mask_filled parcel d.parts.mask d.head.rows h.parts.mask p.0;
      body =
          sym (part_length parcel d.parts.body h.parts.body) ∙ eqb-true (length (within parcel d.parts.body)) (body_size (kind_in parcel d) (head_in parcel d)) p.1
          ∙ ap (λ (K : rules_format.Kind). body_size K (head_in parcel d)) (sym h.layout) ∙ size_is d.kind (head_in parcel d) h.offsets;
    }

pub all_filled : (parcel : List ℕ) (before : ℕ) (bs : List (List ℕ)) (number : ℕ) (ds : List Draft) → AllByRecursion (Drafted parcel) ds → Passed (checks_of parcel before bs number ds) → AllByRecursion Filled ds
unfolding checks_of
all_filled parcel before bs number [] a p = tt
all_filled parcel before bs number (d ∷ ds) a p =
    let es : List Data = lent_of parcel bs number d in
    let held : List (List ℕ) = held_after parcel bs number d in
    let K : rules_format.Kind = kind_in parcel d in
    let h : rules_heads.Head = head_in parcel d in
    let s : rules_sent.Sent = sent_of parcel d.parts es in
    let n : Node = node_in parcel d es in
    let here = passed_left (checks_in parcel before number d es held) (checks_of parcel before held (number + 1) ds) p in
    let rest = passed_right (checks_in parcel before number d es held) (checks_of parcel before held (number + 1) ds) p in
    let sound : sound_by (role_of d.role) K h s n d.below held ≡ true = unless_none (sound_by (role_of d.role) K h s n d.below held) number here.1.0 in (
      filled_one parcel d es a.0 (and_parts (fills K h s) (role_sound (role_of d.role) n) (and_parts (fills K h s && role_sound (role_of d.role) n) (kind_sound_by held K n d.below) sound).0).0,
      all_filled parcel before held (number + 1) ds a.1 rest,
    )
