-- A made column of which no check fails is within the limits: a pool would be full, or a run end too high.
use Rattle.std.proofs.Common.{◌≡◌, ℕ, suc, ◌+◌, ◌<◌, ◌≤◌, max, Bool, true, false, cond, eqb, leb, List, [], ◌∷◌, length, get_or, codes, sym, refl, ap, ◌∙◌, subst, ap₂, inl, inr, arith, lit≤}
use mathlib.Core.Option.{none}
use Rattle.std.proofs.lemmas.Bool.{and_parts, leb-true, eq-eqb, cond-true, cond-false, cases_Bool}
use Rattle.std.proofs.ByRecursion.{All-from_get_or}
use Rattle.columns.specs.Kinds.{Kind, primitive, boolean, strings, views, lists, maps, structs, run_ended, fixed_lists, unknown, width_of, is_primitive, is_run_ended}
use Rattle.columns.specs.Format.{one_of, offset_bytes, highest}
use Rattle.columns.specs.Column.{Node, Column, Columns, column, end, ◌&◌, node, children, first, nth, width, rows_of, kind, bytes_for}
use Rattle.columns.specs.Types.{ColumnType, typed, Fields, no_fields, field, type_of, fields, SameType}
use Rattle.columns.specs.Sound.{Sound, EachSound, KindSound, RowsAre, Offsets}
use Rattle.columns.specs.Limits.{depth, depth_below, node_count, nodes_below, OffsetsFit, SignedFit, NodesLimited, EachLimited}
use Rattle.columns.specs.Pools.{Entries, of_pool, pools, plus, fits, full_pool, making_needs, slip_needs, gathered_for, of_width, mask_bytes, ends_over, making_checks, children_checks, column_needs}
use Rattle.columns.proofs.Formats.{WidthKnown, width_known}
use Rattle.columns.proofs.Tree.{sound_kind}
use Rattle.columns.proofs.Checked.{Passed, passed_left, passed_right, none_fails, unless_none}
use Rattle.columns.proofs.Tested.{offsets_rise}

-- what the room check of a node gives
room : (lengths marks needs : Entries) → full_pool lengths marks needs ≡ none → (i : ℕ) → i < 11 → of_pool needs (get_or pools i 0) ≤ 1048576
room lengths marks needs e i l =
    let pool : ℕ = get_or pools i 0 in
    let t = and_parts (leb (of_pool marks pool + of_pool needs pool) (of_pool lengths pool)) (leb (of_pool marks pool + of_pool needs pool) 1048576) (none_fails (fits lengths marks needs) pools 0 e i l) in
    let h : of_pool marks pool + of_pool needs pool ≤ 1048576 = leb-true (of_pool marks pool + of_pool needs pool) 1048576 t.1 in
    omega arith

primitive_small : (lengths marks : Entries) (n : Node) (cs : Columns) → full_pool lengths marks (making_needs n cs) ≡ none → is_primitive (kind n) ≡ true → length n.values ≤ 1048576
primitive_small lengths marks n cs e p = go (kind n) refl p (width_known n.format)
  where
    here : (w : ℕ) → kind n ≡ primitive w → of_width w (kind n) n ≡ length n.values
    here w k = cond-true (eqb (width_of (kind n)) w) (length n.values) 0 (ap (λ K. eqb (width_of K) w) k ∙ eq-eqb w w refl)

    go : (K : Kind) → kind n ≡ K → is_primitive K ≡ true → WidthKnown K → length n.values ≤ 1048576
    go (primitive w) k t (inl q) =
        let r : mask_bytes n + bytes_for (length n.bits) + of_width 1 (kind n) n + length n.text ≤ 1048576 = room lengths marks (making_needs n cs) e 2 (omega arith) in
        let v : of_width 1 (kind n) n ≡ length n.values = here 1 (k ∙ ap primitive q) in
        omega arith
    go (primitive w) k t (inr (inl q)) = subst (λ m. m ≤ 1048576) (here 2 (k ∙ ap primitive q)) (room lengths marks (making_needs n cs) e 3 (omega arith))
    go (primitive w) k t (inr (inr (inl q))) = subst (λ m. m ≤ 1048576) (here 4 (k ∙ ap primitive q)) (room lengths marks (making_needs n cs) e 4 (omega arith))
    go (primitive w) k t (inr (inr (inr q))) = subst (λ m. m ≤ 1048576) (here 8 (k ∙ ap primitive q)) (room lengths marks (making_needs n cs) e 5 (omega arith))
    go boolean k t u = absurd (let z : ◌≡◌ {A = ℕ} 0 1 = cc in omega arith)
    go strings k t u = absurd (let z : ◌≡◌ {A = ℕ} 0 1 = cc in omega arith)
    go views k t u = absurd (let z : ◌≡◌ {A = ℕ} 0 1 = cc in omega arith)
    go lists k t u = absurd (let z : ◌≡◌ {A = ℕ} 0 1 = cc in omega arith)
    go maps k t u = absurd (let z : ◌≡◌ {A = ℕ} 0 1 = cc in omega arith)
    go structs k t u = absurd (let z : ◌≡◌ {A = ℕ} 0 1 = cc in omega arith)
    go run_ended k t u = absurd (let z : ◌≡◌ {A = ℕ} 0 1 = cc in omega arith)
    go (fixed_lists N) k t u = absurd (let z : ◌≡◌ {A = ℕ} 0 1 = cc in omega arith)
    go unknown k t u = absurd (let z : ◌≡◌ {A = ℕ} 0 1 = cc in omega arith)

values_length : (D : ℕ → List ℕ) (c : Column) → Sound D c → is_primitive (kind (node c)) ≡ true → length (node c).values ≡ rows_of c
values_length D c h p = go (kind (node c)) (sound_kind D c h) p
  where
    go : (K : Kind) → KindSound D K (node c) (children c) → is_primitive K ≡ true → length (node c).values ≡ rows_of c
    go (primitive w) h t = h.0
    go boolean h t = absurd (let z : ◌≡◌ {A = ℕ} 0 1 = cc in omega arith)
    go strings h t = absurd (let z : ◌≡◌ {A = ℕ} 0 1 = cc in omega arith)
    go views h t = absurd (let z : ◌≡◌ {A = ℕ} 0 1 = cc in omega arith)
    go lists h t = absurd (let z : ◌≡◌ {A = ℕ} 0 1 = cc in omega arith)
    go maps h t = absurd (let z : ◌≡◌ {A = ℕ} 0 1 = cc in omega arith)
    go structs h t = absurd (let z : ◌≡◌ {A = ℕ} 0 1 = cc in omega arith)
    go run_ended h t = absurd (let z : ◌≡◌ {A = ℕ} 0 1 = cc in omega arith)
    go (fixed_lists N) h t = absurd (let z : ◌≡◌ {A = ℕ} 0 1 = cc in omega arith)
    go unknown h t = absurd (let z : ◌≡◌ {A = ℕ} 0 1 = cc in omega arith)

-- the children of a node, before their own children are looked at
abbrev RowsSmall : Columns → Type 0
RowsSmall end = Unit {0}
RowsSmall (c & cs) = (rows_of c ≤ 1048576) × RowsSmall cs

alike_small : (r : ℕ) (cs : Columns) → r ≤ 1048576 → RowsAre r cs → RowsSmall cs
alike_small r end b h = tt
alike_small r (c & cs) b h = (subst (λ m. m ≤ 1048576) (sym h.0) b, alike_small r cs b h.1)

no_kids : (cs : Columns) → width cs ≡ 0 → RowsSmall cs
no_kids end w = tt
no_kids (c & cs) w = absurd (omega arith)

two_kids : (cs : Columns) → width cs ≡ 2 → rows_of (nth cs 1) ≡ rows_of (first cs) → rows_of (nth cs 1) ≤ 1048576 → RowsSmall cs
two_kids end w e b = tt
two_kids (c & end) w e b = absurd (omega arith)
two_kids (c & d & end) w e b = (subst (λ m. m ≤ 1048576) e b, (b, tt))
two_kids (c & d & f & cs) w e b = absurd (omega arith)

-- offsets that end within so little fit either width
small_fits : (b : Bool) → 1048576 ≤ highest (cond b 8 4)
small_fits true = lit≤ tt
small_fits false = lit≤ tt

offsets_small : (n : Node) (bound : ℕ) → Offsets n.offsets n.rows bound → bound ≤ 1048576 → OffsetsFit n
unfolding offset_bytes
offsets_small n bound o b =
    All-from_get_or (λ x. x ≤ highest (offset_bytes n.format)) n.offsets 0 (λ i l.
    let a = offsets_rise n.offsets n.rows bound o i l in
    let c = o.end_within in
    let d = small_fits (one_of (codes "U" ∷ codes "Z" ∷ codes "+L" ∷ []) n.format) in
    omega arith)

module _ (D : ℕ → List ℕ) (lengths : Entries) where
  -- the one child of a list: it needs the slip for its pairs, or it is primitive and needs its values
  gathered_small : (marks : Entries) (c : Column) → Sound D c → gathered_for c ≤ 1048576 → Passed (making_checks lengths marks c) → rows_of c ≤ 1048576
  unfolding making_checks
  gathered_small marks (column n cs) h g pass = elim (cases_Bool (is_primitive (kind n))) [
    | inl p ↦ subst (λ m. m ≤ 1048576) (values_length D (column n cs) h p) (primitive_small lengths marks n cs pass.1.1.0 p)
    | inr p ↦ subst (λ m. m ≤ 1048576) (cond-false (is_primitive (kind n)) 0 n.rows p) g
  ]

  one_small : (marks : Entries) (cs : Columns) → width cs ≡ 1 → EachSound D cs → gathered_for (first cs) ≤ 1048576 → Passed (children_checks lengths marks cs) → RowsSmall cs
  unfolding making_checks Sound
  one_small marks end w h g pass = tt
  one_small marks (c & end) w h g pass = (gathered_small marks c h.0 g (passed_left (making_checks lengths marks c) _ pass), tt)
  one_small marks (c & d & cs) w h g pass = absurd (omega arith)

  kids_small : (marks : Entries) (K : Kind) (n : Node) (cs : Columns) → n.rows ≤ 1048576 → KindSound D K n cs → EachSound D cs → slip_needs K cs ≤ 1048576 → Passed (children_checks lengths marks cs) → RowsSmall cs
  kids_small marks (primitive w) n cs b k h s pass = no_kids cs k.1
  kids_small marks boolean n cs b k h s pass = no_kids cs k.1
  kids_small marks strings n cs b k h s pass = no_kids cs k.1
  kids_small marks views n cs b k h s pass = no_kids cs k.2
  kids_small marks lists n cs b k h s pass = one_small marks cs k.1 h s pass
  kids_small marks maps n cs b k h s pass = one_small marks cs k.1 h s pass
  kids_small marks structs n cs b k h s pass = alike_small n.rows cs b k.0
  kids_small marks run_ended n cs b k h s pass = two_kids cs k.2 k.1 s
  kids_small marks (fixed_lists N) n cs b k h s pass = one_small marks cs k.1 h s pass
  kids_small marks unknown n cs b k h s pass = absurd k

  first_small : (cs : Columns) → width cs ≡ 1 → RowsSmall cs → rows_of (first cs) ≤ 1048576
  first_small end w h = absurd (omega arith)
  first_small (c & cs) w h = h.0

  signed_fit : (marks : Entries) (K : Kind) (n : Node) (cs : Columns) → KindSound D K n cs → RowsSmall cs → ends_over K n cs ≡ none → full_pool lengths marks (making_needs n cs) ≡ none → SignedFit K n cs
  signed_fit marks (primitive w) n cs k r o e = tt
  signed_fit marks boolean n cs k r o e = tt
  signed_fit marks strings n cs k r o e =
      offsets_small n (length n.text) k.0 (let t : mask_bytes n + bytes_for (length n.bits) + of_width 1 (kind n) n + length n.text ≤ 1048576 = room lengths marks (making_needs n cs) e 2 (omega arith) in omega arith)
  signed_fit marks views n cs k r o e = tt
  signed_fit marks lists n cs k r o e = offsets_small n (rows_of (first cs)) k.0 (first_small cs k.1 r)
  signed_fit marks maps n cs k r o e = offsets_small n (rows_of (first cs)) k.0 (first_small cs k.1 r)
  signed_fit marks structs n cs k r o e = tt
  signed_fit marks run_ended n cs k r o e = leb-true n.rows (highest (width_of (kind (node (first cs))))) (unless_none _ n.rows o)
  signed_fit marks (fixed_lists N) n cs k r o e = tt
  signed_fit marks unknown n cs k r o e = tt

  mutual
    unfolding making_checks Sound NodesLimited

    pub making_limited : (marks : Entries) (c : Column) → rows_of c ≤ 1048576 → Sound D c → Passed (making_checks lengths marks c) → NodesLimited c
    making_limited marks (column n cs) b h pass =
        let few : RowsSmall cs = kids_small (plus marks (making_needs n cs)) (kind n) n cs b h.1 h.2 (room lengths marks (making_needs n cs) pass.1.1.0 10 (omega arith)) pass.1.1.1 in
        (b, signed_fit marks (kind n) n cs h.1 few pass.1.0 pass.1.1.0, children_limited (plus marks (making_needs n cs)) cs few h.2 pass.1.1.1)

    children_limited : (marks : Entries) (cs : Columns) → RowsSmall cs → EachSound D cs → Passed (children_checks lengths marks cs) → EachLimited cs
    children_limited marks end b h pass = tt
    children_limited marks (c & cs) b h pass =
        (making_limited marks c b.0 h.0 (passed_left (making_checks lengths marks c) _ pass), children_limited (plus marks (column_needs c)) cs b.1 h.1 (passed_right (making_checks lengths marks c) _ pass))

-- Depth and number of nodes are told by the type.
mutual
  type_depth : ColumnType → ℕ
  type_depth (typed f fs) = suc (fields_depth fs)

  fields_depth : Fields → ℕ
  fields_depth no_fields = 0
  fields_depth (field label t fs) = max (type_depth t) (fields_depth fs)

mutual
  type_count : ColumnType → ℕ
  type_count (typed f fs) = suc (fields_count fs)

  fields_count : Fields → ℕ
  fields_count no_fields = 0
  fields_count (field label t fs) = type_count t + fields_count fs

mutual
  unfolding type_depth depth type_of

  depth_typed : (c : Column) → depth c ≡ type_depth (type_of c)
  depth_typed (column n cs) = ap suc (depths_typed (is_run_ended (kind n)) cs)

  depths_typed : (u : Bool) (cs : Columns) → depth_below cs ≡ fields_depth (fields u cs)
  depths_typed u end = refl
  depths_typed u (c & cs) = ap₂ max (depth_typed c) (depths_typed u cs)

mutual
  unfolding type_count node_count type_of

  count_typed : (c : Column) → node_count c ≡ type_count (type_of c)
  count_typed (column n cs) = ap suc (counts_typed (is_run_ended (kind n)) cs)

  counts_typed : (u : Bool) (cs : Columns) → nodes_below cs ≡ fields_count (fields u cs)
  counts_typed u end = refl
  counts_typed u (c & cs) = ap₂ ◌+◌ (count_typed c) (counts_typed u cs)

pub same_depth : (c d : Column) → SameType c d → depth c ≡ depth d
same_depth c d e = depth_typed c ∙ ap type_depth e ∙ sym (depth_typed d)

pub same_count : (c d : Column) → SameType c d → node_count c ≡ node_count d
same_count c d e = count_typed c ∙ ap type_count e ∙ sym (count_typed d)
