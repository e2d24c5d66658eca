-- The entry that was added for a draft is the node that the parcel tells.
use Rattle.std.proofs.Common.{◌≡◌, ℕ, zero, suc, ◌+◌, ◌*◌, ◌≤◌, List, [], ◌∷◌, ◌++◌, map, length, take, drop, Some, None, Option, sym, refl, ap, ◌∙◌, subst, ap₂, append_assoc, add-zero, arith, length-append}
use Rattle.std.proofs.lemmas.List.{take_at, drop_at}
use Rattle.formats.specs.declared.format.Width.TheVariants.{One, Two, Four, Eight}
use Rattle.formats.specs.declared.kind.Kind.{Kind}
use Rattle.formats.specs.declared.kind.Kind.TheVariants.{Primitive, Boolean, Text, View, Map, Struct, RunEnds, FixedList}
use Rattle.formats.specs.declared.kind.Kind.TheVariants.{List as ListOf}
use Rattle.formats.specs.Spelled.{wide_bytes}
use Rattle.formats.specs.Kinds.{layout, offset_width}
use Rattle.columns.specs.Says.{span}
use Rattle.columns.specs.Sound.{little_endian}
use Rattle.columns.specs.Format.{offset_bytes}
use Rattle.columns.specs.Kinds as rules_format
use Rattle.columns.specs.Column.{bytes_for}
use Rattle.columns.specs.Column as theory
use Rattle.columns.specs.Bytes.{packed}
use Rattle.columns.specs.Widths.{Bytes}
use Rattle.columns.specs.Sent.{number_of}
use Rattle.columns.specs.Contents.{bits_in, spare_in, values_in, value_at, views_in, node_from}
use Rattle.columns.specs.Heads as rules_heads
use Rattle.columns.specs.Contents as rules_contents
use Rattle.columns.proofs.Bits.{bits_read_back}
use Rattle.columns.proofs.Reading.{bytes_slice}
use Rattle.pools.specs.declared.records.Part.{Part}
use Rattle.pools.specs.declared.records.Node.{Node as Entry}
use Rattle.pools.specs.declared.pool.Pool.{Pool}
use Rattle.pools.specs.declared.pools.Pools.{Pools}
use Rattle.pools.specs.declared.pools.Marks.{Marks}
use Rattle.pools.specs.Grown.{Grown}
use Rattle.pools.specs.Used.{used, Gains}
use Rattle.pools.specs.Kept.{Standing, Ready}
use Rattle.pools.specs.Marked.{marks_of}
use Rattle.pools.specs.Store.{Store, Segment, Lies, store}
use Rattle.pools.specs.Held.{view_from, views_pool, BitsLie, MaskLies, BuffersLie, Held}
use Rattle.pools.proofs.Fronts.{segment_added, segment_part}
use Rattle.pools.proofs.Adding.{views_added}
use Rattle.parcels.specs.declared.draft.Draft.{Draft}
use Rattle.parcels.specs.declared.draft.Parts.{Parts}
use Rattle.parcels.specs.Reads.{within, Within, MaskWithin, mask_of, sent_of}
use Rattle.parcels.specs.Lent.{data_from}
use Rattle.parcels.specs.Drafts.{Drafted, node_in, head_in}
use Rattle.pools.specs.Laid.{halves_in, entries_in}
use Rattle.filing.specs.Lent.{flat}
use Rattle.filing.specs.Masks.{mask_len, mask_sent, mask_at}
use Rattle.filing.specs.Plans.{Plan, plan_of, place_in}
use Rattle.filing.specs.News.{Gained, node_news, plan_in, brought_by, plain_start, entry_of}
use Rattle.soundness.specs.Sizes.{Filled, MaskFilled, body_by}
use Rattle.filing.proofs.Numbers.{views_told}
use Rattle.filing.proofs.Fitting.{part_length, mask_length, count_length, entries_length, data_length, plain_within, plan_within}

-- a part of what was added
pub segment_mid : {X : Type 0} {m m1 : ℕ} {xs xs1 : List X} (a b c : List X) → m ≤ length xs → Grown m xs (a ++ (b ++ c)) m1 xs1 → Segment (take m1 xs1) (m + length a) (length b) b
segment_mid {X} {m} {m1} {xs} {xs1} a b c h g =
    let all : length (a ++ (b ++ c)) ≡ length a + (length b + length c) = length-append a (b ++ c) ∙ ap (λ (n : ℕ). length a + n) (length-append b c) in
    subst (λ (v : List X). Segment (take m1 xs1) (m + length a) (length b) v)
    (ap (take (length b)) (drop_at a (b ++ c) (length a) refl) ∙ take_at b c (length b) refl)
    (segment_part (segment_added h g) (length a) (length b) (omega arith))

-- n values of one byte are the bytes
one_value : (b : ℕ) → b + 256 * 0 ≡ b
one_value b = omega arith

values_one : (n : ℕ) (bytes : List ℕ) (done : List ℕ) → length bytes ≡ n → map (value_at 1 (done ++ bytes)) (span (length done) n) ≡ bytes
values_one zero [] done e = refl
values_one zero (b ∷ bs) done e = absurd (omega arith)
values_one (suc n) [] done e = absurd (omega arith)
values_one (suc n) (b ∷ bs) done e =
    let here : value_at 1 (done ++ b ∷ bs) (length done) ≡ b =
    ap (λ (k : ℕ). little_endian (take 1 (drop k (done ++ b ∷ bs)))) (let z : 1 * length done ≡ length done = omega arith in z)
    ∙ ap (λ (l : List ℕ). little_endian (take 1 l)) (drop_at done (b ∷ bs) (length done) refl) ∙ one_value b in
    let next : map (value_at 1 (done ++ b ∷ bs)) (span (suc (length done)) n) ≡ bs =
    ap₂ (λ (l : List ℕ) (k : ℕ). map (value_at 1 l) (span k n)) (sym (append_assoc done (b ∷ []) bs)) (let z : suc (length done) ≡ length (done ++ b ∷ []) = omega (arith, length-append done (b ∷ [])) in z)
    ∙ values_one n bs (done ++ b ∷ []) (omega arith) in
    ap₂ (λ (x : ℕ) (l : List ℕ). x ∷ l) here next

-- a bit for each row
bits_lie : {bytes : List ℕ} (place len rows : ℕ) (body : List ℕ) → Segment bytes place len body → length body ≡ len → len ≡ bytes_for rows → Bytes body → BitsLie bytes place rows (bits_in rows body) (spare_in rows body)
bits_lie {bytes} place len rows body s e f b =
    record {
      fills = count_length (rules_contents.bit_at body) rows;
      lies =
          subst (λ (n : ℕ). Segment bytes place n (packed (bits_in rows body ++ spare_in rows body))) f
          (subst (λ (v : List ℕ). Segment bytes place len v) (sym (bits_read_back.spare_bits rows body (omega arith) b)) s);
    }

mask_lies : {bytes : List ℕ} (parcel : List ℕ) (m : Option Part) (place rows : ℕ) → MaskWithin parcel m → MaskFilled rows m → Bytes parcel → Segment bytes place (mask_len m) (mask_sent parcel m)
    → MaskLies bytes (mask_at m place) rows (rules_contents.mask_in rows (mask_of parcel m)) (rules_contents.mask_spare_in rows (mask_of parcel m))
mask_lies parcel None place rows w f b s = refl
mask_lies parcel (Some p) place rows w f b s = bits_lie place p.len rows (within parcel p) s (part_length parcel p w) f (bytes_slice parcel p.start p.len b)

-- where what a plan takes lies
record Lain (P : Store) (parcel : List ℕ) (x : Parts) (p : Plan) (start next : ℕ) (m : Marks) : Type 0 where
  pub plain : Segment P.bytes start p.plain.len (within parcel p.plain)
  pub shorts : Segment P.shorts m.shorts p.shorts (values_in 2 p.shorts (within parcel x.body))
  pub words : Segment P.words m.words p.words (values_in 4 p.words (within parcel x.body))
  pub longs : Segment P.longs m.longs p.longs (values_in 8 p.longs (within parcel x.body))
  pub offsets : Segment P.offsets m.offsets p.offsets (values_in (wide_bytes p.wide) p.offsets (within parcel x.body))
  pub views : Segment (views_pool P) m.views p.views (views_in p.views (within parcel x.body))
  pub lists : Segment P.lists m.lists p.list.len (map number_of (data_from parcel p.list.start next p.list.len))

buffers_lie : (P : Store) (parcel : List ℕ) (k : Kind) (x : Parts) (h : rules_heads.Head) (plain next : ℕ) (m : Marks) (r : Entry)
    → r.place ≡ place_in k plain m → r.text ≡ record { start = plain; len = (plan_of k x h.rows).plain.len } → r.buffers ≡ record { start = m.lists; len = (plan_of k x h.rows).list.len }
    → offset_width k ≡ offset_bytes h.format → Within parcel x.body → x.body.len ≡ body_by (layout k) (offset_width k) h.rows → Bytes parcel → Lain P parcel x (plan_of k x h.rows) plain next m
    → BuffersLie P r k (node_from (layout k) h (sent_of parcel x (data_from parcel x.lent.start next x.lent.len)))
buffers_lie P parcel (Primitive One) x h plain next m r a t b o w f c l =
    let rows : length (within parcel x.body) ≡ h.rows = part_length parcel x.body w ∙ (let e : x.body.len ≡ h.rows = omega arith in e) in (
      subst (λ (i : ℕ). Segment P.bytes i h.rows (values_in 1 h.rows (within parcel x.body))) (sym a)
          (subst (λ (v : List ℕ). Segment P.bytes plain h.rows v) (sym (values_one h.rows (within parcel x.body) [] rows))
          (subst (λ (n : ℕ). Segment P.bytes plain n (within parcel x.body)) (let e : x.body.len ≡ h.rows = omega arith in e) l.plain)),
      refl,
    )
buffers_lie P parcel (Primitive Two) x h plain next m r a t b o w f c l =
    (subst (λ (i : ℕ). Segment P.shorts i h.rows (values_in 2 h.rows (within parcel x.body))) (sym a) l.shorts, refl)
buffers_lie P parcel (Primitive Four) x h plain next m r a t b o w f c l =
    (subst (λ (i : ℕ). Segment P.words i h.rows (values_in 4 h.rows (within parcel x.body))) (sym a) l.words, refl)
buffers_lie P parcel (Primitive Eight) x h plain next m r a t b o w f c l =
    (subst (λ (i : ℕ). Segment P.longs i h.rows (values_in 8 h.rows (within parcel x.body))) (sym a) l.longs, refl)
buffers_lie P parcel Boolean x h plain next m r a t b o w f c l = (
  subst (λ (i : ℕ). BitsLie P.bytes i h.rows (bits_in h.rows (within parcel x.body)) (spare_in h.rows (within parcel x.body))) (sym a)
      (bits_lie plain x.body.len h.rows (within parcel x.body) l.plain (part_length parcel x.body w) f (bytes_slice parcel x.body.start x.body.len c)),
  refl,
)
buffers_lie P parcel (Text wide) x h plain next m r a t b o w f c l = (
  subst (λ (i : ℕ). Segment P.offsets i (h.rows + 1) (values_in (offset_bytes h.format) (h.rows + 1) (within parcel x.body))) (sym a)
      (subst (λ (n : ℕ). Segment P.offsets m.offsets (h.rows + 1) (values_in n (h.rows + 1) (within parcel x.body))) o l.offsets),
  subst (λ (p : Part). Lies P.bytes p (within parcel x.text)) (sym t) l.plain,
  refl,
)
buffers_lie P parcel View x h plain next m r a t b o w f c l = (
  subst (λ (i : ℕ). Segment (views_pool P) i h.rows (views_in h.rows (within parcel x.body))) (sym a) l.views,
  subst (λ (p : Part). Lies P.lists p (map number_of (data_from parcel x.lent.start next x.lent.len))) (sym b) l.lists,
  refl,
)
buffers_lie P parcel (ListOf wide) x h plain next m r a t b o w f c l = (
  subst (λ (i : ℕ). Segment P.offsets i (h.rows + 1) (values_in (offset_bytes h.format) (h.rows + 1) (within parcel x.body))) (sym a)
      (subst (λ (n : ℕ). Segment P.offsets m.offsets (h.rows + 1) (values_in n (h.rows + 1) (within parcel x.body))) o l.offsets),
  refl,
)
buffers_lie P parcel Map x h plain next m r a t b o w f c l = (
  subst (λ (i : ℕ). Segment P.offsets i (h.rows + 1) (values_in (offset_bytes h.format) (h.rows + 1) (within parcel x.body))) (sym a)
      (subst (λ (n : ℕ). Segment P.offsets m.offsets (h.rows + 1) (values_in n (h.rows + 1) (within parcel x.body))) o l.offsets),
  refl,
)
buffers_lie P parcel Struct x h plain next m r a t b o w f c l = refl
buffers_lie P parcel RunEnds x h plain next m r a t b o w f c l = refl
buffers_lie P parcel (FixedList size) x h plain next m r a t b o w f c l = refl

-- what a pool gained lies at its mark
gained_lies : {X : Type 0} (p q : Pool X) (new : List X) (n : ℕ) → Standing p → length new ≡ n → Gains p new q → Segment (used q) p.mark n new
gained_lies {X} p q new n s e g = subst (λ (k : ℕ). Segment (used q) p.mark k new) e (segment_added s.fits g)

pub node_held : (p q : Pools) (parcel : List ℕ) (d : Draft) (span : ℕ) → Ready p → Bytes parcel → Drafted parcel d → Filled d → Gained p (node_news parcel d span (marks_of p)) q
    → Held (store q) (entry_of d span (marks_of p)) (node_in parcel d (data_from parcel d.parts.lent.start p.buffers.mark d.parts.lent.len)) d.head.children span
node_held p q parcel d span ready small h f g =
    let body : List ℕ = within parcel d.parts.body in
    let fits = plan_within parcel d h f.body in
    let m : Marks = marks_of p in
    let F : List ℕ = within parcel d.head.format in
    let M : List ℕ = mask_sent parcel d.parts.mask in
    let L : List ℕ = within parcel (plan_in d).plain in
    let Z : List ℕ = flat (brought_by parcel d) in
    let fl : length F ≡ d.head.format.len = part_length parcel d.head.format h.head in
    let ml : length M ≡ mask_len d.parts.mask = mask_length parcel d.parts.mask h.parts.mask in
    let ll : length L ≡ (plan_in d).plain.len = part_length parcel (plan_in d).plain (plain_within parcel d.kind d.parts d.head.rows h.parts) in
    let all : (F ++ (M ++ L)) ++ Z ≡ F ++ (M ++ (L ++ Z)) = append_assoc F (M ++ L) Z ∙ ap (λ (l : List ℕ). F ++ l) (append_assoc M L Z) in
    let bytes : Gains p.bytes (F ++ (M ++ (L ++ Z))) q.bytes = subst (λ (new : List ℕ). Gains p.bytes new q.bytes) all g.bytes in
    let bytes_two : Gains p.bytes ((F ++ M) ++ (L ++ Z)) q.bytes = subst (λ (new : List ℕ). Gains p.bytes new q.bytes) (sym (append_assoc F M (L ++ Z))) bytes in
    let plain : Segment (used q.bytes) (plain_start d m) (plan_in d).plain.len L =
    subst (λ (i : ℕ). Segment (used q.bytes) i (plan_in d).plain.len L)
    (let e : p.bytes.mark + length (F ++ M) ≡ plain_start d m = omega (arith, length-append F M, fl, ml) in e)
    (subst (λ (n : ℕ). Segment (used q.bytes) (p.bytes.mark + length (F ++ M)) n L) ll (segment_mid (F ++ M) L Z ready.bytes.fits bytes_two)) in
    let masked : Segment (used q.bytes) (p.bytes.mark + d.head.format.len) (mask_len d.parts.mask) M =
    subst (λ (k : ℕ). Segment (used q.bytes) (p.bytes.mark + k) (mask_len d.parts.mask) M) fl
    (subst (λ (n : ℕ). Segment (used q.bytes) (p.bytes.mark + length F) n M) ml (segment_mid F M (L ++ Z) ready.bytes.fits bytes)) in
    let named : Segment (used q.bytes) p.bytes.mark d.head.format.len F =
    subst (λ (i : ℕ). Segment (used q.bytes) i d.head.format.len F) (add-zero p.bytes.mark)
    (subst (λ (n : ℕ). Segment (used q.bytes) (p.bytes.mark + 0) n F) fl (segment_mid [] F (M ++ (L ++ Z)) ready.bytes.fits bytes)) in
    let n_views : ℕ = (plan_in d).views in
    let lain : Lain (store q) parcel d.parts (plan_in d) (plain_start d m) p.buffers.mark m =
    record {
      plain = plain;
      shorts = gained_lies p.shorts q.shorts _ (plan_in d).shorts ready.shorts (count_length (value_at 2 body) (plan_in d).shorts) g.shorts;
      words = gained_lies p.words q.words _ (plan_in d).words ready.words (count_length (value_at 4 body) (plan_in d).words) g.words;
      longs = gained_lies p.longs q.longs _ (plan_in d).longs ready.longs (count_length (value_at 8 body) (plan_in d).longs) g.longs;
      offsets = gained_lies p.offsets q.offsets _ (plan_in d).offsets ready.offsets (count_length (value_at (wide_bytes (plan_in d).wide) body) (plan_in d).offsets) g.offsets;
      views =
          subst (λ (v : List theory.View). Segment (views_pool (store q)) p.views.mark n_views v)
          (views_told n_views body fits.views (bytes_slice parcel d.parts.body.start d.parts.body.len small))
          (subst (λ (k : ℕ). Segment (views_pool (store q)) p.views.mark k (map view_from (entries_in halves_in 16 n_views body))) (entries_length halves_in 16 n_views body)
          (views_added (entries_in halves_in 16 n_views body) ready.views.fits g.views));
      lists = gained_lies p.lists q.lists _ (plan_in d).list.len ready.lists (data_length parcel (plan_in d).list.start p.buffers.mark (plan_in d).list.len) g.lists;
    } in
    record {
      is_kind = h.layout;
      offset_size = h.offsets;
      format_lies = named;
      is_label = refl;
      is_rows = refl;
      few_rows = h.rows;
      is_children = refl;
      is_span = refl;
      mask_lies = mask_lies parcel d.parts.mask (p.bytes.mark + d.head.format.len) d.head.rows h.parts.mask f.mask small masked;
      buffers_lie =
          subst (λ (K : rules_format.Kind). BuffersLie (store q) (entry_of d span m) d.kind (node_from K (head_in parcel d) (sent_of parcel d.parts (data_from parcel d.parts.lent.start p.buffers.mark d.parts.lent.len)))) h.layout
          (buffers_lie (store q) parcel d.kind d.parts (head_in parcel d) (plain_start d m) p.buffers.mark m (entry_of d span m) refl refl refl h.offsets h.parts.body f.body small lain);
    }
