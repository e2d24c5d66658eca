-- What is added to a pool has room in it.
use Rattle.formats.specs.Kinds.{layout, offset_width}
use Rattle.soundness.specs.Sizes.{body_by}
use Rattle.std.proofs.Common.{◌≡◌, ℕ, ◌+◌, ◌*◌, ◌≤◌, true, List, ◌++◌, map, length, drop, Some, None, Option, sym, refl, ◌∙◌, subst, ap₂, arith, rules, length-append}
use lib.ListN.{length-map}
use Rattle.formats.specs.declared.format.Width.TheVariants.{One, Two, Four, Eight}
use Rattle.formats.specs.declared.kind.Kind.{Kind}
use Rattle.formats.specs.declared.kind.Kind.TheVariants.{Primitive, Boolean, Text, View, Map, Struct, RunEnds, FixedList}
use Rattle.formats.specs.declared.kind.Kind.TheVariants.{List as ListOf}
use Rattle.formats.specs.Spelled.{wide_bytes}
use Rattle.columns.specs.Says.{span}
use Rattle.columns.proofs.Gather.{length_span}
use Rattle.columns.proofs.Rows.{length_of_slice}
use Rattle.columns.specs.Sent.{number_of}
use Rattle.pools.specs.declared.records.Part.{Part}
use Rattle.pools.specs.declared.pool.Pool.{Pool}
use Rattle.pools.specs.Laid.{number_in, halves_in, entries_in}
use Rattle.pools.specs.Used.{Fit, Gains}
use Rattle.parcels.specs.declared.draft.Draft.{Draft}
use Rattle.parcels.specs.declared.draft.Parts.{Parts}
use Rattle.parcels.specs.Reads.{within, Within, MaskWithin, Inside}
use Rattle.parcels.specs.Lent.{readable, data_from, brought_from}
use Rattle.parcels.specs.Drafts.{Drafted}
use Rattle.filing.specs.Bodies.{BodyRoom}
use Rattle.filing.specs.Masks.{mask_len, mask_sent}
use Rattle.filing.specs.Plans.{Plan, plan_of, place_in}
use Rattle.filing.specs.News.{Room, node_news, plan_in, own_bytes, brought_by, brought_start}
use Rattle.pools.specs.declared.pools.Pools.{Pools}
use Rattle.pools.specs.declared.pools.Marks.{Marks}
use Rattle.pools.specs.declared.records.Node.{Node as Entry}
use Rattle.filing.proofs.Lents.{data_count, parts_length}

pub fit_less : {X : Type 0} {p : Pool X} (n m : ℕ) → m ≤ n → Fit p n → Fit p m
fit_less {X} {p} n m h f = let a = f.lent in let b = f.capped in record { lent = omega arith; capped = omega arith }

pub fit_next : {X : Type 0} {p : Pool X} (q : Pool X) {new : List X} (a b : ℕ) → length new ≡ a → Fit p (a + b) → Gains p new q → Fit q b
fit_next {X} {p} q {new} a b e f g =
    let m = g.mark in let l = g.len in let h = f.lent in let k = f.capped in record { lent = omega arith; capped = omega arith }

pub part_length : (parcel : List ℕ) (p : Part) → Within parcel p → length (within parcel p) ≡ p.len
part_length parcel p h = length_of_slice parcel p.start p.len h

pub mask_length : (parcel : List ℕ) (m : Option Part) → MaskWithin parcel m → length (mask_sent parcel m) ≡ mask_len m
mask_length parcel None h = refl
mask_length parcel (Some p) h = part_length parcel p h

pub count_length : {Y : Type 0} (f : ℕ → Y) (n : ℕ) → length (map f (span 0 n)) ≡ n
count_length f n = length-map (span 0 n) f ∙ length_span 0 n

pub entries_length : {X : Type 0} (told : List ℕ → X) (size n : ℕ) (bytes : List ℕ) → length (entries_in told size n bytes) ≡ n
entries_length told size n bytes = count_length (λ (i : ℕ). told (drop (size * i) bytes)) n

pub data_length : (parcel : List ℕ) (at next n : ℕ) → length (map number_of (data_from parcel at next n)) ≡ n
data_length parcel at next n = length-map (data_from parcel at next n) number_of ∙ data_count parcel at next n

none_readable : (parcel : List ℕ) (at : ℕ) → readable parcel at 0 ≡ true
unfolding readable
none_readable parcel at = refl

none_brought : (parcel : List ℕ) (at n : ℕ) → length (brought_from parcel at 0) ≤ n
unfolding brought_from
none_brought parcel at n = omega arith

-- the part that is taken byte by byte lies in the parcel
pub plain_within : (parcel : List ℕ) (k : Kind) (x : Parts) (n : ℕ) → Inside parcel x → Within parcel (plan_of k x n).plain
plain_within parcel (Primitive One) x n i = search rules
plain_within parcel (Primitive Two) x n i = search rules
plain_within parcel (Primitive Four) x n i = search rules
plain_within parcel (Primitive Eight) x n i = search rules
plain_within parcel Boolean x n i = search rules
plain_within parcel (Text wide) x n i = search rules
plain_within parcel View x n i = search rules
plain_within parcel (ListOf wide) x n i = search rules
plain_within parcel Map x n i = search rules
plain_within parcel Struct x n i = search rules
plain_within parcel RunEnds x n i = search rules
plain_within parcel (FixedList size) x n i = search rules

-- the data buffers of a plan lie in the parcel, and its views within a body of so many bytes
pub record PlanFits (parcel : List ℕ) (x : Parts) (size : ℕ) (p : Plan) : Type 0 where
  pub views : 16 * p.views ≤ size
  pub list : readable parcel p.list.start p.list.len ≡ true
  pub new : length (brought_from parcel p.list.start p.list.len) ≤ length (brought_from parcel x.lent.start x.lent.len)

plan_fits : (parcel : List ℕ) (k : Kind) (x : Parts) (n : ℕ) → Inside parcel x → readable parcel x.lent.start x.lent.len ≡ true → x.body.len ≡ body_by (layout k) (offset_width k) n → PlanFits parcel x x.body.len (plan_of k x n)
plan_fits parcel (Primitive One) x n i r h = search (rules, none_readable, none_brought)
plan_fits parcel (Primitive Two) x n i r h = search (rules, none_readable, none_brought)
plan_fits parcel (Primitive Four) x n i r h = search (rules, none_readable, none_brought)
plan_fits parcel (Primitive Eight) x n i r h = search (rules, none_readable, none_brought)
plan_fits parcel Boolean x n i r h = search (rules, none_readable, none_brought)
plan_fits parcel (Text wide) x n i r h = search (rules, none_readable, none_brought)
plan_fits parcel View x n i r h = search (rules, none_readable, none_brought)
plan_fits parcel (ListOf wide) x n i r h = search (rules, none_readable, none_brought)
plan_fits parcel Map x n i r h = search (rules, none_readable, none_brought)
plan_fits parcel Struct x n i r h = search (rules, none_readable, none_brought)
plan_fits parcel RunEnds x n i r h = search (rules, none_readable, none_brought)
plan_fits parcel (FixedList size) x n i r h = search (rules, none_readable, none_brought)

pub plan_within : (parcel : List ℕ) (d : Draft) → Drafted parcel d → d.parts.body.len ≡ body_by (layout d.kind) (offset_width d.kind) d.head.rows → PlanFits parcel d.parts (length (within parcel d.parts.body)) (plan_in d)
plan_within parcel d h b =
    subst (λ (n : ℕ). PlanFits parcel d.parts n (plan_in d)) (sym (part_length parcel d.parts.body h.parts.body))
    (plan_fits parcel d.kind d.parts d.head.rows h.parts h.lent b)

-- what is taken of a draft byte by byte
pub own_length : (parcel : List ℕ) (d : Draft) → Drafted parcel d → length (own_bytes parcel d) ≡ d.head.format.len + (mask_len d.parts.mask + (plan_in d).plain.len)
own_length parcel d h =
    length-append (within parcel d.head.format) (mask_sent parcel d.parts.mask ++ within parcel (plan_in d).plain)
    ∙ ap₂ (λ (a b : ℕ). a + b) (part_length parcel d.head.format h.head)
    (length-append (mask_sent parcel d.parts.mask) (within parcel (plan_in d).plain)
    ∙ ap₂ (λ (a b : ℕ). a + b) (mask_length parcel d.parts.mask h.parts.mask) (part_length parcel (plan_in d).plain (plain_within parcel d.kind d.parts d.head.rows h.parts)))

fit_count : {X : Type 0} {p : Pool X} (m n : ℕ) → m ≡ n → Fit p m → Fit p n
fit_count {X} {p} m n e f = subst (Fit p) e f

-- room for what a draft takes
module _ (p : Pools) (parcel : List ℕ) (d : Draft) (span : ℕ) (m : Marks) (r : Room p (node_news parcel d span m)) where
  pub body_room : BodyRoom p (plan_in d)
  body_room =
      let body : List ℕ = within parcel d.parts.body in
      record {
        shorts = fit_count _ _ (entries_length (number_in 2) 2 (plan_in d).shorts body) r.shorts;
        words = fit_count _ _ (entries_length (number_in 4) 4 (plan_in d).words body) r.words;
        longs = fit_count _ _ (entries_length (number_in 8) 8 (plan_in d).longs body) r.longs;
        offsets = fit_count _ _ (entries_length (number_in (wide_bytes (plan_in d).wide)) (wide_bytes (plan_in d).wide) (plan_in d).offsets body) r.offsets;
        views = fit_count _ _ (entries_length halves_in 16 (plan_in d).views body) r.views;
      }

  pub lists_room : Fit p.lists (plan_in d).list.len
  lists_room = fit_count _ _ (data_length parcel (plan_in d).list.start m.buffers (plan_in d).list.len) r.lists

  pub brought_room : Fit p.buffers (length (brought_by parcel d))
  brought_room = fit_count _ _ (parts_length (brought_start d m) (brought_by parcel d)) r.buffers

-- a place does not depend on how many bytes there are
pub place_same : (k : Kind) (plain bytes : ℕ) (m : Marks)
    → place_in k plain (record { columns = m.columns; nodes = m.nodes; bytes = bytes; shorts = m.shorts; words = m.words; longs = m.longs; offsets = m.offsets; views = m.views; lists = m.lists; buffers = m.buffers }) ≡ place_in k plain m
place_same (Primitive One) plain bytes m = refl
place_same (Primitive Two) plain bytes m = refl
place_same (Primitive Four) plain bytes m = refl
place_same (Primitive Eight) plain bytes m = refl
place_same Boolean plain bytes m = refl
place_same (Text wide) plain bytes m = refl
place_same View plain bytes m = refl
place_same (ListOf wide) plain bytes m = refl
place_same Map plain bytes m = refl
place_same Struct plain bytes m = refl
place_same RunEnds plain bytes m = refl
place_same (FixedList size) plain bytes m = refl

-- an entry by its parts
pub entry_is : (d : Draft) (span : ℕ) (m : Marks) {f f' t t' b b' : Part} {k k' : Option ℕ} {p p' : ℕ} → f ≡ f' → k ≡ k' → p ≡ p' → t ≡ t' → b ≡ b'
    → (let x : Entry = record { kind = d.kind; format = f; label = d.head.label; rows = d.head.rows; children = d.head.children; span = span; mask = k; place = p; text = t; buffers = b } in x)
    ≡ (let x : Entry = record { kind = d.kind; format = f'; label = d.head.label; rows = d.head.rows; children = d.head.children; span = span; mask = k'; place = p'; text = t'; buffers = b' } in x)
entry_is d span m ef ek ep et eb = cc
