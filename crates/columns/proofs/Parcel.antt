-- A parcel that meets no denial decodes to a sound column.
use Rattle.std.proofs.Common.{◌≡◌, ℕ, zero, suc, ◌+◌, ◌-◌, ◌*◌, ◌^◌, ◌<◌, ◌≤◌, Bool, true, false, cond, not, ◌&&◌, eqb, ltb, leb, List, [], ◌∷◌, map, length, get_or, drop, codes, sym, refl, ap, ◌∙◌, subst, arith, length-drop, length-take}
use mathlib.Core.Option.{none}
use lib.ListN.{length-replicate}
use Rattle.std.specs.List.{flat_map, AllByRecursion}
use Rattle.std.proofs.lemmas.Bool.{and_parts, ltb-true, leb-true, eqb-true, not-true}
use Rattle.std.proofs.ByRecursion.{All-drop, All-weaker}
use Rattle.columns.specs.Kinds.{Kind, primitive, boolean, strings, views, lists, maps, structs, run_ended, fixed_lists, unknown, is_known, width_of}
use Rattle.columns.specs.Format.{kind_of, offset_bytes, ends_format, same_bytes, highest}
use Rattle.columns.specs.Column.{short, long, bytes_for, Node, Column, Columns, column, end, ◌&◌, node, children, first, nth, width, rows_of, kind}
use Rattle.columns.specs.Masks.{has_null}
use Rattle.columns.specs.Says.{span, slice}
use Rattle.columns.specs.Sound.{ListsShelved, EachListsShelved, Sound, EachSound, KindSound, Climbs}
use Rattle.columns.specs.Limits.{most_rows, most_nodes, most_levels, depth, depth_below, node_count, nodes_below, SignedFit, NodesLimited, EachLimited}
use Rattle.columns.specs.Widths.{Bytes, ViewFits, NodeFits, WithinWidths, EachWithin}
use Rattle.columns.specs.Checks.{Denial, denial, first_failing}
use Rattle.columns.specs.Reading.{Place, Outcome, denied, reached, Reading, ◌>>=◌, give, must, each_of}
use Rattle.columns.specs.Heads.{Head, head, Role, ends_for, map_entries, free, roles, mask_allowed, role_allowed, allowed}
use Rattle.columns.specs.Sent.{Data, brought, named, number_of, Sent, buffers_of}
use Rattle.columns.specs.Contents.{value_at, values_in, view_in, mask_in, contents, node_from}
use Rattle.columns.specs.SoundTests.{mask_fills, body_size, offsets_sound, climbs, role_sound, kind_sound, fills}
use Rattle.columns.specs.Parcel.{named_before, Found, columns_from, found_node, node_read, at_end, start_of, parcel_read}
use Rattle.columns.specs.Promises.{ParcelIsSound}
use Rattle.columns.proofs.Formats.{struct_kind}
use Rattle.columns.proofs.Reading.{little_within, bytes_slice, Yields, goes_on, weaker, both, Adds, adds_none, adds_on, OfBytes, Steps, HeadFits, plain_head, plain_buffers, must_yields, sent_mask, BroughtBelow, adds_longer, sent_below}
use Rattle.columns.proofs.Checked.{Passed, passed, passed_left, passed_right, unless_none, on_none}
use Rattle.columns.proofs.Alike.{kind_grows, sound_grows}
use Rattle.columns.proofs.Tested.{length_spanned, spare_fits, mask_filled, offsets_hold, offsets_fit, climbs_hold, rows_hold, views_hold}

-- What a child owes its parent.
abbrev RoleHolds : Role → Column → Type 0
RoleHolds (ends_for rows) c =
    Climbs 0 (node c).values rows × (ends_format (node c).format ≡ true) × ((node c).mask ≡ none) × (rows ≤ highest (width_of (kind (node c))))
RoleHolds map_entries c = (kind (node c) ≡ structs) × (width (children c) ≡ 2) × (has_null (node c) ≡ false)
RoleHolds free c = Unit {0}

abbrev KidsHold : (ℕ → List ℕ) → List Role → List Found → Type 0
KidsHold D [] [] = Unit {0}
KidsHold D [] (x ∷ xs) = ⊥
KidsHold D (r ∷ rs) [] = ⊥
KidsHold D (r ∷ rs) (x ∷ xs) = (Sound D x.found × NodesLimited x.found × RoleHolds r x.found) × KidsHold D rs xs

kids_width : (D : ℕ → List ℕ) (rs : List Role) (xs : List Found) → KidsHold D rs xs → width (columns_from xs) ≡ length rs
kids_width D [] [] h = refl
kids_width D [] (x ∷ xs) h = absurd h
kids_width D (r ∷ rs) [] h = absurd h
kids_width D (r ∷ rs) (x ∷ xs) h = ap suc (kids_width D rs xs h.1)

kids_sound : (D : ℕ → List ℕ) (rs : List Role) (xs : List Found) → KidsHold D rs xs → EachSound D (columns_from xs)
unfolding Sound
kids_sound D [] [] h = tt
kids_sound D [] (x ∷ xs) h = absurd h
kids_sound D (r ∷ rs) [] h = absurd h
kids_sound D (r ∷ rs) (x ∷ xs) h = (h.0.0, kids_sound D rs xs h.1)

kids_limited : (D : ℕ → List ℕ) (rs : List Role) (xs : List Found) → KidsHold D rs xs → EachLimited (columns_from xs)
unfolding NodesLimited
kids_limited D [] [] h = tt
kids_limited D [] (x ∷ xs) h = absurd h
kids_limited D (r ∷ rs) [] h = absurd h
kids_limited D (r ∷ rs) (x ∷ xs) h = (h.0.1, kids_limited D rs xs h.1)

first_holds : (D : ℕ → List ℕ) (r : Role) (rs : List Role) (xs : List Found) → KidsHold D (r ∷ rs) xs → RoleHolds r (first (columns_from xs))
first_holds D r rs [] h = absurd h
first_holds D r rs (x ∷ xs) h = h.0.2

-- a node has more nodes below it than children
wide : (cs : Columns) → width cs ≤ nodes_below cs
unfolding node_count
wide end = omega arith
wide (column n ds & cs) = let r = wide cs in omega arith

module _ (D : ℕ → List ℕ) (shelved : List (List ℕ)) where
  abbrev GoodOffsets : Head → Sent → (bound : ℕ) → Type 0
  GoodOffsets h s bound = offsets_sound (offset_bytes h.format) (values_in (offset_bytes h.format) (h.rows + 1) s.body) bound ≡ true

  many_offsets : (h : Head) (s : Sent) → length (values_in (offset_bytes h.format) (h.rows + 1) s.body) ≡ h.rows + 1
  many_offsets h s = length_spanned (value_at (offset_bytes h.format) s.body) (h.rows + 1)

  kind_holds : (K : Kind) (h : Head) (s : Sent) (kids : List Found) → is_known K ≡ true → mask_allowed K h ≡ true → (h.masked ≡ false → s.mask ≡ none) → nodes_below (columns_from kids) ≤ 255 →
      fills K h s ≡ true → kind_sound shelved K (node_from K h s) (columns_from kids) ≡ true → KidsHold D (roles K h) kids →
      KindSound (λ x. get_or shelved x []) K (node_from K h s) (columns_from kids)
  kind_holds (primitive w) h s kids k a m c f e H = (length_spanned (value_at w s.body) h.rows, kids_width D [] kids H)
  kind_holds boolean h s kids k a m c f e H = (
    length_spanned _ h.rows,
    kids_width D [] kids H,
    spare_fits h.rows s.body (eqb-true (length s.body) (bytes_for h.rows) (and_parts (mask_fills h.rows s.mask) (eqb (length s.body) (bytes_for h.rows)) f).1),
  )
  kind_holds strings h s kids k a m c f e H = (offsets_hold (offset_bytes h.format) _ h.rows (length s.text) (many_offsets h s) e, kids_width D [] kids H)
  kind_holds views h s kids k a m c f e H = (
    length_spanned _ h.rows,
    views_hold shelved _ h.rows s.body (eqb-true (length s.body) (16 * h.rows) (and_parts (mask_fills h.rows s.mask) (eqb (length s.body) (16 * h.rows)) f).1) e,
    kids_width D [] kids H,
  )
  kind_holds lists h s kids k a m c f e H = (offsets_hold (offset_bytes h.format) _ h.rows (rows_of (first (columns_from kids))) (many_offsets h s) e, kids_width D (free ∷ []) kids H)
  kind_holds maps h s kids k a m c f e H =
      let r = first_holds D map_entries [] kids H in
      (offsets_hold (offset_bytes h.format) _ h.rows (rows_of (first (columns_from kids))) (many_offsets h s) e, kids_width D (map_entries ∷ []) kids H, r.0, r.1, r.2)
  kind_holds structs h s kids k a m c f e H = (rows_hold h.rows (columns_from kids) e, (let w = wide (columns_from kids) in omega arith))
  kind_holds run_ended h s kids k a m c f e H =
      let r = first_holds D (ends_for h.rows) (free ∷ []) kids H in (
        r.0,
        eqb-true (rows_of (nth (columns_from kids) 1)) (rows_of (first (columns_from kids))) e,
        kids_width D (ends_for h.rows ∷ free ∷ []) kids H,
        r.1,
        ap (mask_in h.rows) (m (not-true h.masked a)),
        r.2,
      )
  kind_holds (fixed_lists N) h s kids k a m c f e H = (eqb-true (rows_of (first (columns_from kids))) (h.rows * N) e, kids_width D (free ∷ []) kids H)
  kind_holds unknown h s kids k a m c f e H = absurd (let z : ◌≡◌ {A = ℕ} 0 1 = cc in omega arith)

  signed_fit : (K : Kind) (h : Head) (s : Sent) (kids : List Found) → kind_sound shelved K (node_from K h s) (columns_from kids) ≡ true → KidsHold D (roles K h) kids →
      SignedFit K (node_from K h s) (columns_from kids)
  signed_fit (primitive w) h s kids e H = tt
  signed_fit boolean h s kids e H = tt
  signed_fit strings h s kids e H = offsets_fit (offset_bytes h.format) _ h.rows (length s.text) (many_offsets h s) e
  signed_fit views h s kids e H = tt
  signed_fit lists h s kids e H = offsets_fit (offset_bytes h.format) _ h.rows (rows_of (first (columns_from kids))) (many_offsets h s) e
  signed_fit maps h s kids e H = offsets_fit (offset_bytes h.format) _ h.rows (rows_of (first (columns_from kids))) (many_offsets h s) e
  signed_fit structs h s kids e H = tt
  signed_fit run_ended h s kids e H = (first_holds D (ends_for h.rows) (free ∷ []) kids H).3
  signed_fit (fixed_lists N) h s kids e H = tt
  signed_fit unknown h s kids e H = tt

struct_width : (D : ℕ → List ℕ) (K : Kind) (h : Head) (kids : List Found) → K ≡ structs → KidsHold D (roles K h) kids → width (columns_from kids) ≡ h.child_count
struct_width D K h kids e H = kids_width D (roles K h) kids H ∙ ap (λ J. length (roles J h)) e ∙ length-replicate h.child_count free

role_holds : (D : ℕ → List ℕ) (role : Role) (h : Head) (s : Sent) (kids : List Found) → role_allowed role h ≡ true → (h.masked ≡ false → s.mask ≡ none) →
    role_sound role (node_from (kind_of h.format) h s) ≡ true → KidsHold D (roles (kind_of h.format) h) kids →
    RoleHolds role (column (node_from (kind_of h.format) h s) (columns_from kids))
role_holds D (ends_for rows) h s kids a m e H =
    let p = and_parts (ends_format h.format) (not h.masked) a in
    let n : Node = node_from (kind_of h.format) h s in
    let t = and_parts (climbs 0 n.values rows) (leb rows (highest (width_of (kind n)))) e in
    (climbs_hold 0 n.values rows t.0, p.0, ap (mask_in h.rows) (m (not-true h.masked p.1)), leb-true rows (highest (width_of (kind n))) t.1)
role_holds D map_entries h s kids a m e H =
    let p = and_parts (same_bytes (codes "+s") h.format) (eqb h.child_count 2) a in
    let k : kind_of h.format ≡ structs = struct_kind h.format p.0 in
    (k, struct_width D (kind_of h.format) h kids k H ∙ eqb-true h.child_count 2 p.1, not-true (has_null (node_from (kind_of h.format) h s)) e)
role_holds D free h s kids a m e H = tt

-- The numbers of a node that is read from bytes.
every_of : {X : Type 0} (P : X → Type 0) (f : ℕ → X) (a n : ℕ) → ((i : ℕ) → P (f i)) → AllByRecursion P (map f (span a n))
every_of P f a zero h = tt
every_of P f a (suc n) h = (h a, every_of P f (suc a) n h)

value_below : (w : ℕ) (bytes : List ℕ) (i : ℕ) → Bytes bytes → value_at w bytes i < 256 ^ w
value_below w bytes i h = little_within w (slice bytes (w * i) w) (simp (length-take, length-drop) (omega arith)) (bytes_slice bytes (w * i) w h)

view_fits : (b : Bool) (len a c d : ℕ) (inline : List ℕ) → len < 2 ^ 32 → a < 2 ^ 32 → c < 2 ^ 32 → d < 2 ^ 32 → Bytes inline → ViewFits (cond b (long len a c d) (short len inline))
view_fits true len a c d inline l x y z h = (l, x, y, z)
view_fits false len a c d inline l x y z h = h

view_in_fits : (v : List ℕ) → Bytes v → ViewFits (view_in v)
view_in_fits v h =
    view_fits (ltb 12 (value_at 4 v 0)) (value_at 4 v 0) (value_at 4 v 1) (value_at 4 v 2) (value_at 4 v 3) (drop 4 v)
    (value_below 4 v 0 h) (value_below 4 v 1 h) (value_below 4 v 2 h) (value_below 4 v 3 h) (All-drop (λ b. b < 256) 4 v h)

module _ (h : Head) (s : Sent) (bytes : Bytes s.body × Bytes s.text) where
  values_fit : (K : Kind) → AllByRecursion (λ v. v < 256 ^ width_of K) (contents K h s).values
  values_fit (primitive w) = every_of (λ v. v < 256 ^ w) (value_at w s.body) 0 h.rows (λ i. value_below w s.body i bytes.0)
  values_fit boolean = tt
  values_fit strings = tt
  values_fit views = tt
  values_fit lists = tt
  values_fit maps = tt
  values_fit structs = tt
  values_fit run_ended = tt
  values_fit (fixed_lists N) = tt
  values_fit unknown = tt

  text_fits : (K : Kind) → Bytes (contents K h s).text
  text_fits (primitive w) = tt
  text_fits boolean = tt
  text_fits strings = bytes.1
  text_fits views = tt
  text_fits lists = tt
  text_fits maps = tt
  text_fits structs = tt
  text_fits run_ended = tt
  text_fits (fixed_lists N) = tt
  text_fits unknown = tt

  views_fit : (K : Kind) → AllByRecursion ViewFits (contents K h s).views
  views_fit (primitive w) = tt
  views_fit boolean = tt
  views_fit strings = tt
  views_fit views = every_of ViewFits (λ i. view_in (slice s.body (16 * i) 16)) 0 h.rows (λ i. view_in_fits (slice s.body (16 * i) 16) (bytes_slice s.body (16 * i) 16 bytes.0))
  views_fit lists = tt
  views_fit maps = tt
  views_fit structs = tt
  views_fit run_ended = tt
  views_fit (fixed_lists N) = tt
  views_fit unknown = tt

  node_fits : HeadFits h → NodeFits (node_from (kind_of h.format) h s)
  node_fits f = record {
    format_fits = (f.0, f.1);
    label_fits = f.2;
    values_fit = values_fit (kind_of h.format);
    text_fits = text_fits (kind_of h.format);
    views_fit = views_fit (kind_of h.format);
  }

-- What a node gives that is read with its children, at the place p and up to the place q.
record Good (before levels : ℕ) (role : Role) (p : Place) (f : Found) (q : Place) : Type 0 where
  adds : Adds p q
  counted : q.nodes ≡ p.nodes + node_count f.found
  few : q.nodes ≤ most_nodes
  shallow : depth f.found ≤ levels
  holds : Passed f.checks → Sound (λ b. get_or q.buffers b []) f.found × NodesLimited f.found × RoleHolds role f.found
  listed : before ≤ length p.buffers → Passed f.checks → ListsShelved (length q.buffers) f.found
  fits : Bytes p.ahead → OfBytes p q × WithinWidths f.found

record KidsGood (before levels : ℕ) (rs : List Role) (p : Place) (kids : List Found) (q : Place) : Type 0 where
  adds : Adds p q
  counted : q.nodes ≡ p.nodes + nodes_below (columns_from kids)
  few : p.nodes ≤ most_nodes → q.nodes ≤ most_nodes
  shallow : depth_below (columns_from kids) ≤ levels
  holds : Passed (flat_map (λ (x : Found). x.checks) kids) → KidsHold (λ b. get_or q.buffers b []) rs kids
  listed : before ≤ length p.buffers → Passed (flat_map (λ (x : Found). x.checks) kids) → EachListsShelved (length q.buffers) (columns_from kids)
  fits : Bytes p.ahead → OfBytes p q × EachWithin (columns_from kids)

adds_sound : (p q : Place) (c : Column) → Adds p q → Sound (λ b. get_or p.buffers b []) c → Sound (λ b. get_or q.buffers b []) c
adds_sound p q c x h = subst (λ (bs : List (List ℕ)). Sound (λ b. get_or bs b []) c) (sym x.buffers_are) (sound_grows p.buffers x.more c h)

mutual
  unfolding ListsShelved

  pub lists_grow : (m n : ℕ) → m ≤ n → (c : Column) → ListsShelved m c → ListsShelved n c
  lists_grow m n l (column x cs) h = (All-weaker (λ b. b < m) (λ b. b < n) (λ b z. omega arith) x.buffers h.0, each_lists_grow m n l cs h.1)

  each_lists_grow : (m n : ℕ) → m ≤ n → (cs : Columns) → EachListsShelved m cs → EachListsShelved n cs
  each_lists_grow m n l end h = tt
  each_lists_grow m n l (c & cs) h = (lists_grow m n l c h.0, each_lists_grow m n l cs h.1)

adds_kind : (p q : Place) (K : Kind) (n : Node) (cs : Columns) → Adds p q → KindSound (λ b. get_or p.buffers b []) K n cs → KindSound (λ b. get_or q.buffers b []) K n cs
adds_kind p q K n cs x h = subst (λ (bs : List (List ℕ)). KindSound (λ b. get_or bs b []) K n cs) (sym x.buffers_are) (kind_grows p.buffers x.more K n cs h)

kids_read : (before levels : ℕ) (f : Role → Reading Found) → ((r : Role) (p : Place) → Yields (f r p) (Good before levels r p)) → (rs : List Role) (p : Place) → Yields (each_of f rs p) (KidsGood before levels rs p)
unfolding node_count depth WithinWidths ListsShelved
kids_read before levels f h [] p = record {
  adds = adds_none p p refl;
  counted = omega arith;
  few = λ l. l;
  shallow = omega arith;
  holds = λ u. tt;
  listed = λ l u. tt;
  fits = λ b. ((b, λ z. z), tt);
}
kids_read before levels f h (r ∷ rs) p =
    goes_on (f r p) (λ a. each_of f rs >>= λ as'. give (a ∷ as')) (Good before levels r p) (KidsGood before levels (r ∷ rs) p) (h r p) (λ x p₁ g.
    goes_on (each_of f rs p₁) (λ as'. give (x ∷ as')) (KidsGood before levels rs p₁) (KidsGood before levels (r ∷ rs) p) (kids_read before levels f h rs p₁) (λ xs q gs. record {
      adds = adds_on p p₁ q g.adds gs.adds;
      counted = (let a = g.counted in let b = gs.counted in omega arith);
      few = λ l. gs.few g.few;
      shallow = (let a = g.shallow in let b = gs.shallow in omega arith);
      holds = λ pass.
          let mine = g.holds (passed_left x.checks (flat_map (λ (y : Found). y.checks) xs) pass) in
          ((adds_sound p₁ q x.found gs.adds mine.0, mine.1, mine.2), gs.holds (passed_right x.checks (flat_map (λ (y : Found). y.checks) xs) pass));
      listed = λ l pass.
          let longer = adds_longer p p₁ g.adds in (
            lists_grow (length p₁.buffers) (length q.buffers) (adds_longer p₁ q gs.adds) x.found (g.listed l (passed_left x.checks (flat_map (λ (y : Found). y.checks) xs) pass)),
            gs.listed (omega arith) (passed_right x.checks (flat_map (λ (y : Found). y.checks) xs) pass),
          );
      fits = λ b. let u = g.fits b in let v = gs.fits u.0.0 in ((v.0.0, λ z. v.0.1 (u.0.1 z)), (u.1, v.1));
    }))

abbrev allowed_parts : (levels : ℕ) → Role → Kind → Head → ℕ → Type 0
allowed_parts levels role K h nodes = (mask_allowed K h ≡ true) × (role_allowed role h ≡ true) × (0 < levels) × (h.rows ≤ most_rows) × (nodes ≤ most_nodes)

allowed_gives : (levels : ℕ) (role : Role) (K : Kind) (h : Head) (nodes : ℕ) → allowed levels role K h nodes ≡ true → allowed_parts levels role K h nodes
allowed_gives levels role K h nodes e =
    let a : Bool = eqb h.child_count (length (roles K h)) in
    let p₁ = and_parts (a && mask_allowed K h && role_allowed role h && leb h.rows most_rows && leb nodes most_nodes) (ltb 0 levels) e in
    let p₂ = and_parts (a && mask_allowed K h && role_allowed role h && leb h.rows most_rows) (leb nodes most_nodes) p₁.0 in
    let p₃ = and_parts (a && mask_allowed K h && role_allowed role h) (leb h.rows most_rows) p₂.0 in
    let p₄ = and_parts (a && mask_allowed K h) (role_allowed role h) p₃.0 in
    ((and_parts a (mask_allowed K h) p₄.0).1, p₄.1, ltb-true 0 levels p₁.1, leb-true h.rows most_rows p₃.1, leb-true nodes most_nodes p₂.1)

-- the whole of a node, its children read
node_holds : (before levels : ℕ) (role : Role) (h : Head) (s : Sent) (number : ℕ) (p q : Place) (kids : List Found) →
    is_known (kind_of h.format) ≡ true → mask_allowed (kind_of h.format) h ≡ true → role_allowed role h ≡ true → (h.masked ≡ false → s.mask ≡ none) → h.rows ≤ most_rows →
    nodes_below (columns_from kids) ≤ 255 → KidsGood before levels (roles (kind_of h.format) h) p kids q →
    Passed (found_node before role (kind_of h.format) h s number p.buffers kids).checks →
    Sound (λ b. get_or q.buffers b []) (column (node_from (kind_of h.format) h s) (columns_from kids)) × NodesLimited (column (node_from (kind_of h.format) h s) (columns_from kids))
    × RoleHolds role (column (node_from (kind_of h.format) h s) (columns_from kids))
unfolding Sound NodesLimited
node_holds before levels role h s number p q kids known ka ra m few count G pass =
    let K : Kind = kind_of h.format in
    let n : Node = node_from K h s in
    let D : ℕ → List ℕ = λ b. get_or q.buffers b [] in
    let H : KidsHold D (roles K h) kids = G.holds pass.1.1 in
    let t = and_parts (fills K h s && role_sound role n) (kind_sound p.buffers K n (columns_from kids)) (unless_none _ number pass.1.0) in
    let u = and_parts (fills K h s) (role_sound role n) t.0 in (
      (
        mask_filled h.rows s.mask (and_parts (mask_fills h.rows s.mask) (eqb (length s.body) (body_size K h)) u.0).0,
        adds_kind p q K n (columns_from kids) G.adds (kind_holds D p.buffers K h s kids known ka m count u.0 t.1 H),
        kids_sound D (roles K h) kids H,
      ),
      (few, signed_fit D p.buffers K h s kids t.1 H, kids_limited D (roles K h) kids H),
      role_holds D role h s kids ra m u.1 H,
    )

abbrev begun : Place → Place
begun p = record { passed = p.passed; ahead = p.ahead; nodes = suc p.nodes; buffers = p.buffers }

abbrev HeadRead : Place → Head → Place → Type 0
HeadRead p h q = Steps (Unit {0}) HeadFits p h q

abbrev MustRead : Bool → Place → Unit {0} → Place → Type 0
MustRead b p u q = Steps (Unit {0}) (λ a. Unit {0}) p u q × (b ≡ true)

abbrev SentRead : Head → Place → Sent → Place → Type 0
SentRead h p s q = Steps (Unit {0}) (λ s. Bytes s.body × Bytes s.text) p s q × (h.masked ≡ false → s.mask ≡ none) × AllByRecursion (BroughtBelow (length q.buffers)) s.sent

sent_yields : (h : Head) (p : Place) → Yields (buffers_of (kind_of h.format) h p) (SentRead h p)
sent_yields h p =
    let o : Outcome Sent = buffers_of (kind_of h.format) h p in
    let S : Sent → Place → Type 0 = Steps (Unit {0}) (λ s. Bytes s.body × Bytes s.text) p in
    let M : Sent → Place → Type 0 = λ s q. h.masked ≡ false → s.mask ≡ none in
    let B : Sent → Place → Type 0 = λ s q. AllByRecursion (BroughtBelow (length q.buffers)) s.sent in
    weaker o (λ s q. S s q × (M s q × B s q)) (SentRead h p) (λ s q g. (g.0, g.1.0, g.1.1))
    (both o S (λ s q. M s q × B s q) (plain_buffers (kind_of h.format) h p) (both o M B (sent_mask (kind_of h.format) h p) (sent_below (kind_of h.format) h p)))

-- what a node lists was brought, or named and shelved before
all_listed : (before many : ℕ) → before ≤ many → (ds : List Data) → AllByRecursion (BroughtBelow many) ds → first_failing (λ b. ltb b before) (named_before before ds) ≡ none → AllByRecursion (λ b. b < many) (map number_of ds)
all_listed before many l [] h e = tt
all_listed before many l (brought b ∷ ds) h e = (h.0, all_listed before many l ds h.1 e)
all_listed before many l (named b ∷ ds) h e =
    let t = on_none (ltb b before) (first_failing (λ b. ltb b before) (named_before before ds)) b e in
    ((let z = ltb-true b before t.0 in omega arith), all_listed before many l ds h.1 t.1)

listed_below : (before many : ℕ) → before ≤ many → (h : Head) (s : Sent) → AllByRecursion (BroughtBelow many) s.sent → first_failing (λ b. ltb b before) (named_before before s.sent) ≡ none →
    (K : Kind) → AllByRecursion (λ b. b < many) (contents K h s).buffers
listed_below before many l h s a e (primitive w) = tt
listed_below before many l h s a e boolean = tt
listed_below before many l h s a e strings = tt
listed_below before many l h s a e views = all_listed before many l s.sent a e
listed_below before many l h s a e lists = tt
listed_below before many l h s a e maps = tt
listed_below before many l h s a e structs = tt
listed_below before many l h s a e run_ended = tt
listed_below before many l h s a e (fixed_lists N) = tt
listed_below before many l h s a e unknown = tt

node_yields : (before levels : ℕ) (role : Role) (p : Place) → Yields (node_read before levels role p) (Good before levels role p)
unfolding node_read node_count depth WithinWidths ListsShelved
node_yields before zero role p =
    goes_on (head (begun p)) _ (HeadRead (begun p)) (Good before 0 role p) (plain_head (begun p)) (λ h p₁ a₁.
    goes_on (must (is_known (kind_of h.format)) 2 p₁) _ (MustRead (is_known (kind_of h.format)) p₁) (Good before 0 role p) (must_yields _ 2 p₁) (λ u p₂ a₂.
    goes_on (must (allowed 0 role (kind_of h.format) h p₂.nodes) 3 p₂) _ (MustRead (allowed 0 role (kind_of h.format) h p₂.nodes) p₂) (Good before 0 role p) (must_yields _ 3 p₂) (λ u p₃ a₃.
    absurd (let t = (allowed_gives 0 role (kind_of h.format) h p₂.nodes a₃.1).2 in omega arith))))
node_yields before (suc levels) role p =
    goes_on (head (begun p)) _ (HeadRead (begun p)) (Good before (suc levels) role p) (plain_head (begun p)) (λ h p₁ a₁.
    goes_on (must (is_known (kind_of h.format)) 2 p₁) _ (MustRead (is_known (kind_of h.format)) p₁) (Good before (suc levels) role p) (must_yields _ 2 p₁) (λ u p₂ a₂.
    goes_on (must (allowed (suc levels) role (kind_of h.format) h p₂.nodes) 3 p₂) _ (MustRead (allowed (suc levels) role (kind_of h.format) h p₂.nodes) p₂) (Good before (suc levels) role p) (must_yields _ 3 p₂) (λ u p₃ a₃.
    goes_on (buffers_of (kind_of h.format) h p₃) _ (SentRead h p₃) (Good before (suc levels) role p)
    (sent_yields h p₃) (λ s p₄ a₄.
    goes_on (each_of (node_read before levels) (roles (kind_of h.format) h) p₄) _ (KidsGood before levels (roles (kind_of h.format) h) p₄) (Good before (suc levels) role p)
    (kids_read before levels (node_read before levels) (node_yields before levels) (roles (kind_of h.format) h) p₄) (λ kids q g. whole h s p₁ p₂ p₃ p₄ kids q a₁ a₂ a₃ a₄ g)))))
  where
    whole : (h : Head) (s : Sent) (p₁ p₂ p₃ p₄ : Place) (kids : List Found) (q : Place) → HeadRead (begun p) h p₁ → MustRead (is_known (kind_of h.format)) p₁ tt p₂ →
        MustRead (allowed (suc levels) role (kind_of h.format) h p₂.nodes) p₂ tt p₃ → SentRead h p₃ s p₄ → KidsGood before levels (roles (kind_of h.format) h) p₄ kids q →
        Good before (suc levels) role p (found_node before role (kind_of h.format) h s (p₄.nodes - 1) p₄.buffers kids) q
    whole h s p₁ p₂ p₃ p₄ kids q a₁ a₂ a₃ a₄ g =
        let fine = allowed_gives (suc levels) role (kind_of h.format) h p₂.nodes a₃.1 in
        let same : p₄.nodes ≡ suc p.nodes = a₄.0.1 ∙ a₃.0.1 ∙ a₂.0.1 ∙ a₁.1 in
        let few : q.nodes ≤ most_nodes = g.few (let z = fine.4 in let e : p₄.nodes ≡ p₂.nodes = a₄.0.1 ∙ a₃.0.1 in omega arith) in
        let count = g.counted in
        record {
          adds = adds_on p p₄ q (adds_on p p₃ p₄ (adds_on p p₂ p₃ (adds_on p p₁ p₂ (record { more = a₁.0.more; buffers_are = a₁.0.buffers_are }) a₂.0.0) a₃.0.0) a₄.0.0) g.adds;
          counted = omega arith;
          few = few;
          shallow = (let z = g.shallow in omega arith);
          holds = node_holds before levels role h s (p₄.nodes - 1) p₄ q kids a₂.1 fine.0 fine.1 a₄.1 fine.3 (omega arith) g;
          listed = λ l pass.
              let a : Adds p p₄ = adds_on p p₃ p₄ (adds_on p p₂ p₃ (adds_on p p₁ p₂ (record { more = a₁.0.more; buffers_are = a₁.0.buffers_are }) a₂.0.0) a₃.0.0) a₄.0.0 in
              let m = adds_longer p p₄ a in (
                All-weaker (λ b. b < length p₄.buffers) (λ b. b < length q.buffers) (λ b z. (let y = adds_longer p₄ q g.adds in omega arith)) (contents (kind_of h.format) h s).buffers
                    (listed_below before (length p₄.buffers) (omega arith) h s a₄.2 pass.0 (kind_of h.format)),
                g.listed (omega arith) pass.1.1,
              );
          fits = λ b.
              let u₁ = a₁.2 tt b in
              let u₂ = a₂.0.2 tt u₁.0.0 in
              let u₃ = a₃.0.2 tt u₂.0.0 in
              let u₄ = a₄.0.2 tt u₃.0.0 in
              let v = g.fits u₄.0.0 in
              ((v.0.0, λ z. v.0.1 (u₄.0.1 (u₃.0.1 (u₂.0.1 (u₁.0.1 z))))), (node_fits h s u₄.1 u₁.1, v.1));
        }

end_or : (b : Bool) (p : Place) (d : Denial) (P : Place → Type 0) → P p → Yields {A = Unit {0}} (cond b (reached tt p) (denied d)) (λ u q. P q)
end_or true p d P h = h
end_or false p d P h = tt

use_yields : {A : Type 0} (o : Outcome A) (P : A → Place → Type 0) (a : A) (q : Place) → o ≡ reached a q → Yields o P → P a q
use_yields o P a q e y = subst (λ x. Yields x P) e y

pub parcel_is_sound : ParcelIsSound
parcel_is_sound shelved parcel f p e none_fails =
    let start : Place = start_of shelved parcel in
    let P : Found → Place → Type 0 = Good (length shelved) most_levels free start in
    let y : Yields (parcel_read shelved parcel) P =
    goes_on (node_read (length shelved) most_levels free start) _ P P (node_yields (length shelved) most_levels free start) (λ f q g.
    goes_on (at_end q) _ (λ u r. P f r) P (end_or (eqb (length q.ahead) 0) q (denial 1 q.passed) (P f) g) (λ u r g'. g')) in
    let g : P f p = use_yields (parcel_read shelved parcel) P f p e y in
    let h = g.holds (passed f.checks none_fails) in
    record {
      only_adds = (g.adds.more, g.adds.buffers_are);
      sound = h.0;
      lists_shelved = g.listed (omega arith) (passed f.checks none_fails);
      within_limits = record { nodes_limited = h.1; few_nodes = (let a = g.counted in let b = g.few in omega arith); few_levels = g.shallow };
      within_widths = λ b. (g.fits b).1;
      buffers_of_bytes = λ b z. (g.fits b).0.1 z;
    }
