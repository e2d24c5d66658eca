-- A chain of interleaves lays out its columns as the direct interleave does.
use Rattle.std.proofs.Common.{◌≡◌, ℕ, zero, suc, ◌+◌, ◌*◌, ◌<◌, Bool, false, cond, List, [], ◌∷◌, map, length, get_or, sym, refl, ap, ◌∙◌, subst, ap₂, inl, arith}
use mathlib.Core.Path.{fun_ext}
use lib.ListN
use lib.ListN.{length-map}
use Rattle.std.proofs.lemmas.List.{get_or-map, take_all}
use Rattle.columns.specs.Kinds.{Kind, primitive, boolean, strings, views, lists, maps, structs, run_ended, fixed_lists, unknown, is_run_ended, is_list}
use Rattle.columns.specs.Format.{kind_of}
use Rattle.columns.specs.Column.{View, short, long, Node, Column, Columns, column, end, ◌&◌, node, children, nth, first, rest, width, nothing, kind, rows_of, at, view_at}
use Rattle.columns.specs.Says.{span, says, offset_length}
use Rattle.columns.specs.Gathering.{Pair, row_range, gathered, sizes, totals_from, ranges}
use Rattle.columns.specs.Claims.{In, claim, once, place, placed}
use Rattle.columns.specs.Runs.{kept, entries, run_ends_from}
use Rattle.columns.specs.Interleave.{source_ranges, interleaved, made_children, made_runs, made_node, made_buffers, child_pairs, claims, interleave}
use Rattle.columns.specs.Types.{SameType, type_of, fields}
use Rattle.columns.specs.Sound.{Sound, EachSound, KindSound}
use Rattle.columns.specs.Promises.{Accepted}
use Rattle.columns.specs.Laws.{by_number}
use Rattle.columns.specs.Chain.{NoRunEnds, NoneRunEnded, SameLayout, SameLayouts}
use Rattle.columns.proofs.Gather.{before, before_fixed, map_map, map_slice}
use Rattle.columns.proofs.Buffer.{in_joined, in_once, place_at}
use Rattle.columns.proofs.Tree.{same_format, at_nth, child_accepted, rest_kids}
use Rattle.columns.proofs.Rows.{source_kind, rows_follow}
use Rattle.columns.proofs.Made.{kids_inside, type_made, rows_made}
use Rattle.columns.proofs.Follow.{map_both, joined_both, map_joined, map_span, gathered_at, made_start, made_size}
use Rattle.columns.proofs.History.{History, Histories, filed, made, none, ◌also◌, column_of, columns_of, leads_to, source_leads, WentWell, AllWentWell, ChainsLayOutAsDirect}

abbrev pub Pick : Type 0
Pick = Column × ℕ

abbrev pub KidPick : Type 0
KidPick = Columns × ℕ

abbrev claimed : View → List ℕ
claimed (short len inline) = []
claimed (long len prefix buffer offset) = buffer ∷ []

abbrev put : List ℕ → View → View
put m (short len inline) = short len inline
put m (long len prefix buffer offset) = long len prefix (place buffer m) offset

claim_is : (bs : List ℕ) (v : View) → claim bs v ≡ claimed (by_number bs v)
claim_is bs (short len inline) = refl
claim_is bs (long len prefix position offset) = refl

placed_is : (m bs : List ℕ) (v : View) → placed m bs v ≡ put m (by_number bs v)
placed_is m bs (short len inline) = refl
placed_is m bs (long len prefix position offset) = refl

pub by_number_placed : (v : View) (bs cs : List ℕ) → ((x : ℕ) → In x (claim bs v) → In x cs) → by_number (once cs) (placed (once cs) bs v) ≡ by_number bs v
by_number_placed (short len inline) bs cs f = refl
by_number_placed (long len prefix position offset) bs cs f =
    ap (λ b. long len prefix b offset) (place_at (get_or bs position 0) (once cs) (in_once (get_or bs position 0) cs (f (get_or bs position 0) (inl refl))))

-- Each row's range is as long as that of the row it leads to, and its child rows lead to that row's child rows.
abbrev RangesLead : Kind → Node → (ℕ → Pick) → (ℕ → KidPick) → Type 0
RangesLead K n ρ σ = (r : ℕ) → r < n.rows →
    ((ranges K n).size r ≡ (ranges K (node (ρ r).0)).size (ρ r).1)
    × ((j : ℕ) → j < (ranges K n).size r → σ ((ranges K n).start r + j) ≡ (children (ρ r).0, (ranges K (node (ρ r).0)).start (ρ r).1 + j))

abbrev NodeLeads : Kind → Node → (ℕ → Pick) → (ℕ → KidPick) → Type 0
NodeLeads (primitive w) n ρ σ = Unit {0}
NodeLeads boolean n ρ σ = Unit {0}
NodeLeads strings n ρ σ = (r : ℕ) → r < n.rows → offset_length n r ≡ offset_length (node (ρ r).0) (ρ r).1
NodeLeads views n ρ σ = (r : ℕ) → r < n.rows → by_number n.buffers (view_at n r) ≡ by_number (node (ρ r).0).buffers (view_at (node (ρ r).0) (ρ r).1)
NodeLeads lists n ρ σ = RangesLead lists n ρ σ
NodeLeads maps n ρ σ = RangesLead maps n ρ σ
NodeLeads structs n ρ σ = (r : ℕ) → r < n.rows → σ r ≡ (children (ρ r).0, (ρ r).1)
NodeLeads run_ended n ρ σ = Unit {0}
NodeLeads (fixed_lists N) n ρ σ = RangesLead (fixed_lists N) n ρ σ
NodeLeads unknown n ρ σ = Unit {0}

-- Row r of the column leads to the filed row `ρ r`, and so on down.
mutual
  pub Leads : Column → (ℕ → Pick) → Type 0
  Leads (column n cs) ρ = (σ : ℕ → KidPick) × NodeLeads (kind n) n ρ σ × EachLeads cs σ

  pub EachLeads : Columns → (ℕ → KidPick) → Type 0
  EachLeads end σ = Unit {0}
  EachLeads (c & cs) σ = Leads c (λ r. (first (σ r).0, (σ r).1)) × EachLeads cs (λ r. (rest (σ r).0, (σ r).1))

abbrev Parts : Column → (ℕ → Pick) → Type 0
Parts c ρ = (σ : ℕ → KidPick) × NodeLeads (kind (node c)) (node c) ρ σ × EachLeads (children c) σ

parts : (c : Column) (ρ : ℕ → Pick) → Leads c ρ → Parts c ρ
unfolding Leads
parts (column n cs) ρ l = l

pub leads_nothing : (ρ : ℕ → Pick) → Leads nothing ρ
unfolding Leads kind_of
leads_nothing ρ = ((λ r. (end, r)), tt, tt)

lead_first : (ks : Columns) (σ : ℕ → KidPick) → EachLeads ks σ → Leads (first ks) (λ r. (first (σ r).0, (σ r).1))
unfolding Leads
lead_first end σ l = leads_nothing (λ r. (first (σ r).0, (σ r).1))
lead_first (c & cs) σ l = l.0

lead_rest : (ks : Columns) (σ : ℕ → KidPick) → EachLeads ks σ → EachLeads (rest ks) (λ r. (rest (σ r).0, (σ r).1))
unfolding Leads
lead_rest end σ l = tt
lead_rest (c & cs) σ l = l.1

-- A filed row leads to itself.
filed_node : (K : Kind) (c : Column) → NodeLeads K (node c) (λ r. (c, r)) (λ r. (children c, r))
filed_node (primitive w) c = tt
filed_node boolean c = tt
filed_node strings c = λ r l. refl
filed_node views c = λ r l. refl
filed_node lists c = λ r l. (refl, λ j b. refl)
filed_node maps c = λ r l. (refl, λ j b. refl)
filed_node structs c = λ r l. refl
filed_node run_ended c = tt
filed_node (fixed_lists N) c = λ r l. (refl, λ j b. refl)
filed_node unknown c = tt

mutual
  unfolding Leads

  pub filed_leads : (c : Column) → Leads c (λ r. (c, r))
  filed_leads (column n cs) = ((λ r. (cs, r)), filed_node (kind n) (column n cs), filed_each cs)

  filed_each : (cs : Columns) → EachLeads cs (λ r. (cs, r))
  filed_each end = tt
  filed_each (c & cs) = (filed_leads c, filed_each cs)

-- One node of the chain against one of the direct interleave.
module _ (M : List Column) (qs : List Pair) (F : List Column) (ds : List Pair) (ρ : ℕ → ℕ → Pick) (σ : ℕ → ℕ → KidPick)
    (rows_known : (k : ℕ) → k < length qs → (get_or qs k (0, 0)).1 < rows_of (at M (get_or qs k (0, 0)).0))
    (E : map (λ (p : Pair). (at F p.0, p.1)) ds ≡ map (λ (q : Pair). ρ q.0 q.1) qs) where
  same_length : length qs ≡ length ds
  same_length = sym (length-map qs (λ (q : Pair). ρ q.0 q.1)) ∙ sym (ap length E) ∙ length-map ds (λ (p : Pair). (at F p.0, p.1))

  leads_there : (k : ℕ) → k < length qs → ρ (get_or qs k (0, 0)).0 (get_or qs k (0, 0)).1 ≡ (at F (get_or ds k (0, 0)).0, (get_or ds k (0, 0)).1)
  leads_there k l =
      sym (get_or-map (λ (q : Pair). ρ q.0 q.1) qs k (0, 0) (nothing, 0) l)
      ∙ ap (λ xs. get_or xs k (nothing, 0)) (sym E)
      ∙ get_or-map (λ (p : Pair). (at F p.0, p.1)) ds k (0, 0) (nothing, 0) (omega (arith, same_length))

  abbrev NodesLead : Kind → Type 0
  NodesLead K = (k : ℕ) → k < length qs → NodeLeads K (node (at M (get_or qs k (0, 0)).0)) (ρ (get_or qs k (0, 0)).0) (σ (get_or qs k (0, 0)).0)

  same_sizes : (K : Kind) → ((k : ℕ) → k < length qs → let q : Pair = get_or qs k (0, 0) in
      (ranges K (node (at M q.0))).size q.1 ≡ (ranges K (node (ρ q.0 q.1).0)).size (ρ q.0 q.1).1) →
      sizes (source_ranges K M) qs ≡ sizes (source_ranges K F) ds
  same_sizes K h =
      map_both (λ (q : Pair). (source_ranges K M q.0).size q.1) (λ (p : Pair). (source_ranges K F p.0).size p.1) qs ds (0, 0) (0, 0) same_length
      (λ k l. h k l ∙ ap (λ (x : Pick). (ranges K (node x.0)).size x.1) (leads_there k l))

  same_claims : NodesLead views → claims M qs ≡ claims F ds
  same_claims n =
      joined_both (λ (q : Pair). claim (node (at M q.0)).buffers (view_at (node (at M q.0)) q.1)) (λ (p : Pair). claim (node (at F p.0)).buffers (view_at (node (at F p.0)) p.1)) qs ds (0, 0) (0, 0) same_length
      (λ k l. claim_is _ _ ∙ ap claimed (n k l (get_or qs k (0, 0)).1 (rows_known k l) ∙ ap (λ (x : Pick). by_number (node x.0).buffers (view_at (node x.0) x.1)) (leads_there k l)) ∙ sym (claim_is _ _))

  abbrev SameBuffers : Kind → Type 0
  SameBuffers K = ((made_buffers K M qs).offsets ≡ (made_buffers K F ds).offsets) × ((made_buffers K M qs).views ≡ (made_buffers K F ds).views) × ((made_buffers K M qs).buffers ≡ (made_buffers K F ds).buffers)

  same_buffers : (K : Kind) → NodesLead K → SameBuffers K
  same_buffers (primitive w) n = (refl, refl, refl)
  same_buffers boolean n = (refl, refl, refl)
  same_buffers strings n = (ap (totals_from 0) (same_sizes strings (λ k l. n k l (get_or qs k (0, 0)).1 (rows_known k l))), refl, refl)
  same_buffers views n = (
    refl,
    map_both (λ (q : Pair). placed (once (claims M qs)) (node (at M q.0)).buffers (view_at (node (at M q.0)) q.1))
        (λ (p : Pair). placed (once (claims F ds)) (node (at F p.0)).buffers (view_at (node (at F p.0)) p.1)) qs ds (0, 0) (0, 0) same_length
        (λ k l. placed_is _ _ _
        ∙ ap₂ put (ap once (same_claims n)) (n k l (get_or qs k (0, 0)).1 (rows_known k l) ∙ ap (λ (x : Pick). by_number (node x.0).buffers (view_at (node x.0) x.1)) (leads_there k l))
        ∙ sym (placed_is _ _ _)),
    ap once (same_claims n),
  )
  same_buffers lists n = (ap (totals_from 0) (same_sizes lists (λ k l. (n k l (get_or qs k (0, 0)).1 (rows_known k l)).0)), refl, refl)
  same_buffers maps n = (ap (totals_from 0) (same_sizes maps (λ k l. (n k l (get_or qs k (0, 0)).1 (rows_known k l)).0)), refl, refl)
  same_buffers structs n = (refl, refl, refl)
  same_buffers run_ended n = (refl, refl, refl)
  same_buffers (fixed_lists N) n = (refl, refl, refl)
  same_buffers unknown n = (refl, refl, refl)

  abbrev KidsPicked : Kind → Type 0
  KidsPicked K = map (λ (p : Pair). (get_or (map children F) p.0 end, p.1)) (child_pairs K F ds) ≡ map (λ (q : Pair). σ q.0 q.1) (child_pairs K M qs)

  -- gathering from gathered sources, followed back
  kids_gathered : (K : Kind) → ((k : ℕ) → k < length qs → RangesLead K (node (at M (get_or qs k (0, 0)).0)) (ρ (get_or qs k (0, 0)).0) (σ (get_or qs k (0, 0)).0)) →
      map (λ (p : Pair). (get_or (map children F) p.0 end, p.1)) (gathered (source_ranges K F) ds) ≡ map (λ (q : Pair). σ q.0 q.1) (gathered (source_ranges K M) qs)
  kids_gathered K n =
      map_joined (λ (p : Pair). (get_or (map children F) p.0 end, p.1)) (row_range (source_ranges K F)) ds
      ∙ sym (joined_both (λ (q : Pair). map (λ (q : Pair). σ q.0 q.1) (row_range (source_ranges K M) q)) (λ (p : Pair). map (λ (p : Pair). (get_or (map children F) p.0 end, p.1)) (row_range (source_ranges K F) p)) qs ds (0, 0) (0, 0) same_length row_at)
      ∙ sym (map_joined (λ (q : Pair). σ q.0 q.1) (row_range (source_ranges K M)) qs)
    where
      row_at : (k : ℕ) → k < length qs →
          map (λ (q : Pair). σ q.0 q.1) (row_range (source_ranges K M) (get_or qs k (0, 0))) ≡ map (λ (p : Pair). (get_or (map children F) p.0 end, p.1)) (row_range (source_ranges K F) (get_or ds k (0, 0)))
      row_at k l =
          let q : Pair = get_or qs k (0, 0) in let p : Pair = get_or ds k (0, 0) in
          let h : RangesLead K (node (at M q.0)) (ρ q.0) (σ q.0) = n k l in
          map_map (λ (q : Pair). σ q.0 q.1) (λ j. (q.0, j)) (span ((source_ranges K M q.0).start q.1) ((source_ranges K M q.0).size q.1))
          ∙ map_span (λ j. σ q.0 j) (λ j. (get_or (map children F) p.0 end, j)) ((source_ranges K M q.0).start q.1) ((source_ranges K F p.0).start p.1) ((source_ranges K M q.0).size q.1)
          (λ j b. (h q.1 (rows_known k l)).1 j b
          ∙ ap {B = KidPick} (λ (x : Pick). (children x.0, (ranges K (node x.0)).start x.1 + j)) (leads_there k l)
          ∙ ap {B = KidPick} (λ ks. (ks, (source_ranges K F p.0).start p.1 + j)) (sym (ListN.get_or-map children F p.0 nothing)))
          ∙ ap (λ m. map {B = KidPick} (λ j. (get_or (map children F) p.0 end, j)) (span ((source_ranges K F p.0).start p.1) m))
          ((h q.1 (rows_known k l)).0 ∙ ap (λ (x : Pick). (ranges K (node x.0)).size x.1) (leads_there k l))
          ∙ sym (map_map (λ (p : Pair). (get_or (map children F) p.0 end, p.1)) (λ j. (p.0, j)) (span ((source_ranges K F p.0).start p.1) ((source_ranges K F p.0).size p.1)))

  kids_picked : (K : Kind) → is_run_ended K ≡ false → NodesLead K → KidsPicked K
  kids_picked (primitive w) r n = refl
  kids_picked boolean r n = refl
  kids_picked strings r n = refl
  kids_picked views r n = refl
  kids_picked lists r n = kids_gathered lists n
  kids_picked maps r n = kids_gathered maps n
  kids_picked structs r n =
      sym (map_both (λ (q : Pair). σ q.0 q.1) (λ (p : Pair). (get_or (map children F) p.0 end, p.1)) qs ds (0, 0) (0, 0) same_length
      (λ k l. n k l (get_or qs k (0, 0)).1 (rows_known k l)
      ∙ ap {B = KidPick} (λ (x : Pick). (children x.0, x.1)) (leads_there k l)
      ∙ ap {B = KidPick} (λ ks. (ks, (get_or ds k (0, 0)).1)) (sym (ListN.get_or-map children F (get_or ds k (0, 0)).0 nothing))))
  kids_picked run_ended r n = cc
  kids_picked (fixed_lists N) r n = kids_gathered (fixed_lists N) n
  kids_picked unknown r n = refl

-- The whole trees.
pick_first : (kids : List Columns) (C : List Pair) (Q : List Pair) (σ : ℕ → ℕ → KidPick) → map (λ (p : Pair). (get_or kids p.0 end, p.1)) C ≡ map (λ (q : Pair). σ q.0 q.1) Q →
    map {B = Pick} (λ (p : Pair). (at (map first kids) p.0, p.1)) C ≡ map {B = Pick} (λ (q : Pair). (first (σ q.0 q.1).0, (σ q.0 q.1).1)) Q
pick_first kids C Q σ e =
    ap (λ (f : Pair → Pick). map f C) (fun_ext (λ (p : Pair). ap {B = Pick} (λ c. (c, p.1)) (at_nth (λ x. []) kids 0 p.0)))
    ∙ sym (map_map {Z = Pick} (λ (x : KidPick). (first x.0, x.1)) (λ (p : Pair). (get_or kids p.0 end, p.1)) C)
    ∙ ap (map {B = Pick} (λ (x : KidPick). (first x.0, x.1))) e
    ∙ map_map {Z = Pick} (λ (x : KidPick). (first x.0, x.1)) (λ (q : Pair). σ q.0 q.1) Q

pick_rest : (kids : List Columns) (C : List Pair) (Q : List Pair) (σ : ℕ → ℕ → KidPick) → map (λ (p : Pair). (get_or kids p.0 end, p.1)) C ≡ map (λ (q : Pair). σ q.0 q.1) Q →
    map {B = KidPick} (λ (p : Pair). (get_or (map rest kids) p.0 end, p.1)) C ≡ map {B = KidPick} (λ (q : Pair). (rest (σ q.0 q.1).0, (σ q.0 q.1).1)) Q
pick_rest kids C Q σ e =
    ap (λ (f : Pair → KidPick). map f C) (fun_ext (λ (p : Pair). ap {B = KidPick} (λ c. (c, p.1)) (ListN.get_or-map rest kids p.0 end)))
    ∙ sym (map_map {Z = KidPick} (λ (x : KidPick). (rest x.0, x.1)) (λ (p : Pair). (get_or kids p.0 end, p.1)) C)
    ∙ ap (map {B = KidPick} (λ (x : KidPick). (rest x.0, x.1))) e
    ∙ map_map {Z = KidPick} (λ (x : KidPick). (rest x.0, x.1)) (λ (q : Pair). σ q.0 q.1) Q

abbrev KidsAccepted : (ℕ → List ℕ) → Columns → List Columns → List Pair → Type 0
KidsAccepted D cs kids qs = (j : ℕ) → j < width cs → Accepted D (nth cs j) (map (λ ks. nth ks j) kids) qs

next_accepted : (D : ℕ → List ℕ) (c : Column) (cs : Columns) (kids : List Columns) (qs : List Pair) → KidsAccepted D (c & cs) kids qs → KidsAccepted D cs (map rest kids) qs
next_accepted D c cs kids qs A j l = subst (λ T. Accepted D (nth cs j) T qs) (sym (rest_kids kids j)) (A (suc j) (omega arith))

source_parts : (M : List Column) (ρ : ℕ → ℕ → Pick) → ((a : ℕ) → Leads (at M a) (ρ a)) → (a : ℕ) → Parts (at M a) (ρ a)
source_parts M ρ L a = parts (at M a) (ρ a) (L a)

-- the sources' nodes lead on, at the kind that they share
nodes_lead : (D : ℕ → List ℕ) (c : Column) (M : List Column) (qs : List Pair) (A : Accepted D c M qs) (ρ : ℕ → ℕ → Pick) (L : (a : ℕ) → Leads (at M a) (ρ a)) →
    (k : ℕ) → k < length qs → NodeLeads (kind (node c)) (node (at M (get_or qs k (0, 0)).0)) (ρ (get_or qs k (0, 0)).0) (source_parts M ρ L (get_or qs k (0, 0)).0).0
nodes_lead D c M qs A ρ L k l =
    let a : ℕ = (get_or qs k (0, 0)).0 in
    subst (λ K. NodeLeads K (node (at M a)) (ρ a) (source_parts M ρ L a).0) (source_kind D c M qs A a (A.source_known k l)) (source_parts M ρ L a).1

kids_lead : (M : List Column) (ρ : ℕ → ℕ → Pick) (L : (a : ℕ) → Leads (at M a) (ρ a)) (a : ℕ) → EachLeads (get_or (map children M) a end) (source_parts M ρ L a).0
kids_lead M ρ L a = subst (λ ks. EachLeads ks (source_parts M ρ L a).0) (sym (ListN.get_or-map children M a nothing)) (source_parts M ρ L a).2

first_leads : (kids : List Columns) (σ : ℕ → ℕ → KidPick) → ((a : ℕ) → EachLeads (get_or kids a end) (σ a)) → (a : ℕ) → Leads (at (map first kids) a) (λ r. (first (σ a r).0, (σ a r).1))
first_leads kids σ L a = subst (λ c. Leads c (λ r. (first (σ a r).0, (σ a r).1))) (sym (at_nth (λ x. []) kids 0 a)) (lead_first (get_or kids a end) (σ a) (L a))

rest_leads : (kids : List Columns) (σ : ℕ → ℕ → KidPick) → ((a : ℕ) → EachLeads (get_or kids a end) (σ a)) → (a : ℕ) → EachLeads (get_or (map rest kids) a end) (λ r. (rest (σ a r).0, (σ a r).1))
rest_leads kids σ L a = subst (λ ks. EachLeads ks (λ r. (rest (σ a r).0, (σ a r).1))) (sym (ListN.get_or-map rest kids a end)) (lead_rest (get_or kids a end) (σ a) (L a))

no_runs_laid_out : (t : Bool) (x y x' y' : Columns) → t ≡ false → SameLayouts y y' → SameLayouts (cond t x y) (cond t x' y')
no_runs_laid_out t x y x' y' e h = subst (λ b. SameLayouts (cond b x y) (cond b x' y')) (sym e) h

kids_ok : (D : ℕ → List ℕ) (b : Bool) (n : Node) (cs : Columns) (M : List Column) (qs : List Pair) → Accepted D (column n cs) M qs → KindSound D (kind n) n cs → is_run_ended (kind n) ≡ false →
    KidsAccepted D cs (map children M) (child_pairs (kind n) M qs)
kids_ok D b n cs M qs A s r j l = child_accepted D (column n cs) M qs (child_pairs (kind n) M qs) j A l (kids_inside D (column n cs) M qs A b (kind n) refl s r j l)

module _ (D : ℕ → List ℕ) where
  mutual
    unfolding interleaved Sound SameLayout NoRunEnds type_of

    pub chain : (b t : Bool) (c d : Column) (M : List Column) (qs : List Pair) (F : List Column) (ds : List Pair) (ρ : ℕ → ℕ → Pick) →
        Accepted D c M qs → Sound D c → NoRunEnds c → SameType c d → ((a : ℕ) → Leads (at M a) (ρ a)) →
        map (λ (p : Pair). (at F p.0, p.1)) ds ≡ map (λ (q : Pair). ρ q.0 q.1) qs →
        SameLayout (interleaved b c M qs) (interleaved t d F ds)
    chain b t (column n cs) (column m es) M qs F ds ρ A s nr same L E =
        let σ : ℕ → ℕ → KidPick = λ a. (source_parts M ρ L a).0 in
        let nl = nodes_lead D (column n cs) M qs A ρ L in
        let B = same_buffers M qs F ds ρ σ A.row_known E (kind n) nl in
        subst (λ K. ((made_buffers (kind n) M qs).offsets ≡ (made_buffers K F ds).offsets) × ((made_buffers (kind n) M qs).views ≡ (made_buffers K F ds).views)
        × ((made_buffers (kind n) M qs).buffers ≡ (made_buffers K F ds).buffers)
        × SameLayouts
        (cond (is_run_ended (kind n)) (made_runs cs (run_ends_from 0 (entries M qs)) (map children M) (kept (entries M qs))) (made_children (is_list (kind n)) cs (map children M) (child_pairs (kind n) M qs)))
        (cond (is_run_ended K) (made_runs es (run_ends_from 0 (entries F ds)) (map children F) (kept (entries F ds))) (made_children (is_list K) es (map children F) (child_pairs K F ds))))
        (ap kind_of (same_format (column n cs) (column m es) same)) (
          B.0,
          B.1,
          B.2,
          no_runs_laid_out (is_run_ended (kind n)) _ _ _ _ nr.0
              (chains (is_run_ended (kind n)) (is_run_ended (kind m)) (is_list (kind n)) (is_list (kind n)) cs es (map children M) (child_pairs (kind n) M qs) (map children F) (child_pairs (kind n) F ds) σ
              (kids_ok D b n cs M qs A s.1 nr.0) s.2 nr.1 (cc) (kids_lead M ρ L)
              (kids_picked M qs F ds ρ σ A.row_known E (kind n) nr.0 nl)),
        )

    chains : (u v b t : Bool) (cs es : Columns) (kids : List Columns) (qs : List Pair) (filed_kids : List Columns) (ds : List Pair) (σ : ℕ → ℕ → KidPick) →
        KidsAccepted D cs kids qs → EachSound D cs → NoneRunEnded cs → fields u cs ≡ fields v es → ((a : ℕ) → EachLeads (get_or kids a end) (σ a)) →
        map (λ (p : Pair). (get_or filed_kids p.0 end, p.1)) ds ≡ map (λ (q : Pair). σ q.0 q.1) qs →
        SameLayouts (made_children b cs kids qs) (made_children t es filed_kids ds)
    chains u v b t end end kids qs fk ds σ A s nr same L E = tt
    chains u v b t end (e & es) kids qs fk ds σ A s nr same L E = let z : ◌≡◌ {A = ℕ} 0 1 = cc in absurd (omega arith)
    chains u v b t (c & cs) end kids qs fk ds σ A s nr same L E = let z : ◌≡◌ {A = ℕ} 0 1 = cc in absurd (omega arith)
    chains u v b t (c & cs) (e & es) kids qs fk ds σ A s nr same L E = (
      chain b t c e (map first kids) qs (map first fk) ds (λ a r. (first (σ a r).0, (σ a r).1)) (A 0 (omega arith)) s.0 nr.0 (cc) (first_leads kids σ L) (pick_first fk ds qs σ E),
      chains u v b t cs es (map rest kids) qs (map rest fk) ds (λ a r. (rest (σ a r).0, (σ a r).1)) (next_accepted D c cs kids qs A) s.1 nr.1 (cc) (rest_leads kids σ L) (pick_rest fk ds qs σ E),
    )

-- A made row leads where its pair's row leads.
module _ (M : List Column) (qs : List Pair) (ρ : ℕ → ℕ → Pick) (σ : ℕ → ℕ → KidPick)
    (rows_known : (k : ℕ) → k < length qs → (get_or qs k (0, 0)).1 < rows_of (at M (get_or qs k (0, 0)).0)) where
  abbrev AllLead : Kind → Type 0
  AllLead K = (k : ℕ) → k < length qs → NodeLeads K (node (at M (get_or qs k (0, 0)).0)) (ρ (get_or qs k (0, 0)).0) (σ (get_or qs k (0, 0)).0)

  abbrev made_ρ : ℕ → Pick
  made_ρ k = ρ (get_or qs k (0, 0)).0 (get_or qs k (0, 0)).1

  abbrev made_σ : Kind → ℕ → KidPick
  made_σ K m = σ (get_or (child_pairs K M qs) m (0, 0)).0 (get_or (child_pairs K M qs) m (0, 0)).1

  -- over every list kind: its made starts are the totals, and its made sizes the sizes of the rows taken
  ranges_lead_made : (K : Kind) (start size : ℕ → ℕ) →
      ((k : ℕ) → k < length qs → start k ≡ before (sizes (source_ranges K M) qs) k) →
      ((k : ℕ) → k < length qs → size k ≡ (source_ranges K M (get_or qs k (0, 0)).0).size (get_or qs k (0, 0)).1) →
      ((k : ℕ) → k < length qs → RangesLead K (node (at M (get_or qs k (0, 0)).0)) (ρ (get_or qs k (0, 0)).0) (σ (get_or qs k (0, 0)).0)) →
      (k : ℕ) → k < length qs →
      (size k ≡ (ranges K (node (made_ρ k).0)).size (made_ρ k).1)
      × ((j : ℕ) → j < size k → σ (get_or (gathered (source_ranges K M) qs) (start k + j) (0, 0)).0 (get_or (gathered (source_ranges K M) qs) (start k + j) (0, 0)).1
      ≡ (children (made_ρ k).0, (ranges K (node (made_ρ k).0)).start (made_ρ k).1 + j))
  ranges_lead_made K start size st sz n k l = (
    sz k l ∙ (n k l (get_or qs k (0, 0)).1 (rows_known k l)).0,
    λ j b.
        let b' : j < (source_ranges K M (get_or qs k (0, 0)).0).size (get_or qs k (0, 0)).1 = subst (λ x. j < x) (sz k l) b in
        ap (λ (q : Pair). σ q.0 q.1) (ap (λ x. get_or (gathered (source_ranges K M) qs) (x + j) (0, 0)) (st k l) ∙ gathered_at (source_ranges K M) qs k j l b')
        ∙ (n k l (get_or qs k (0, 0)).1 (rows_known k l)).1 j b',
  )

  made_node_leads : (K : Kind) (b : Bool) (n : Node) → AllLead K → NodeLeads K (made_node b K n M qs) made_ρ (made_σ K)
  made_node_leads (primitive w) b n h = tt
  made_node_leads boolean b n h = tt
  made_node_leads strings b n h = λ k l. made_size (source_ranges strings M) qs k l ∙ h k l (get_or qs k (0, 0)).1 (rows_known k l)
  made_node_leads views b n h = λ k l.
      ap (by_number (once (claims M qs))) (get_or-map (λ (q : Pair). placed (once (claims M qs)) (node (at M q.0)).buffers (view_at (node (at M q.0)) q.1)) qs k (0, 0) (short 0 []) l)
      ∙ by_number_placed (view_at (node (at M (get_or qs k (0, 0)).0)) (get_or qs k (0, 0)).1) (node (at M (get_or qs k (0, 0)).0)).buffers (claims M qs)
      (λ x i. in_joined (λ (q : Pair). claim (node (at M q.0)).buffers (view_at (node (at M q.0)) q.1)) qs k (0, 0) x l i)
      ∙ h k l (get_or qs k (0, 0)).1 (rows_known k l)
  made_node_leads lists b n h = ranges_lead_made lists _ _ (made_start (source_ranges lists M) qs) (made_size (source_ranges lists M) qs) h
  made_node_leads maps b n h = ranges_lead_made maps _ _ (made_start (source_ranges maps M) qs) (made_size (source_ranges maps M) qs) h
  made_node_leads structs b n h = λ k l. h k l (get_or qs k (0, 0)).1 (rows_known k l)
  made_node_leads run_ended b n h = tt
  made_node_leads (fixed_lists N) b n h = ranges_lead_made (fixed_lists N) (λ k. k * N) (λ k. N) (λ k l. sym (before_fixed N qs k (omega arith))) (λ k l. refl) h
  made_node_leads unknown b n h = tt

no_runs_lead : (σ : ℕ → KidPick) (t : Bool) (x y : Columns) → t ≡ false → EachLeads y σ → EachLeads (cond t x y) σ
no_runs_lead σ t x y e h = subst (λ b. EachLeads (cond b x y) σ) (sym e) h

module _ (D : ℕ → List ℕ) where
  mutual
    unfolding interleaved Sound NoRunEnds Leads

    pub made_leads : (b : Bool) (c : Column) (M : List Column) (qs : List Pair) (ρ : ℕ → ℕ → Pick) → Accepted D c M qs → Sound D c → NoRunEnds c → ((a : ℕ) → Leads (at M a) (ρ a)) →
        Leads (interleaved b c M qs) (λ k. ρ (get_or qs k (0, 0)).0 (get_or qs k (0, 0)).1)
    made_leads b (column n cs) M qs ρ A s nr L =
        let σ : ℕ → ℕ → KidPick = λ a. (source_parts M ρ L a).0 in (
          made_σ M qs ρ σ A.row_known (kind n),
          made_node_leads M qs ρ σ A.row_known (kind n) b n (nodes_lead D (column n cs) M qs A ρ L),
          no_runs_lead (made_σ M qs ρ σ A.row_known (kind n)) (is_run_ended (kind n)) _ _ nr.0
              (made_kids_lead (is_list (kind n)) cs (map children M) (child_pairs (kind n) M qs) σ (kids_ok D b n cs M qs A s.1 nr.0) s.2 nr.1 (kids_lead M ρ L)),
        )

    made_kids_lead : (b : Bool) (cs : Columns) (kids : List Columns) (qs : List Pair) (σ : ℕ → ℕ → KidPick) → KidsAccepted D cs kids qs → EachSound D cs → NoneRunEnded cs →
        ((a : ℕ) → EachLeads (get_or kids a end) (σ a)) → EachLeads (made_children b cs kids qs) (λ m. σ (get_or qs m (0, 0)).0 (get_or qs m (0, 0)).1)
    made_kids_lead b end kids qs σ A s nr L = tt
    made_kids_lead b (c & cs) kids qs σ A s nr L = (
      made_leads b c (map first kids) qs (λ a r. (first (σ a r).0, (σ a r).1)) (A 0 (omega arith)) s.0 nr.0 (first_leads kids σ L),
      made_kids_lead b cs (map rest kids) qs (λ a r. (rest (σ a r).0, (σ a r).1)) (next_accepted D c cs kids qs A) s.1 nr.1 (rest_leads kids σ L),
    )

-- Whether a type has run ends is told by the type.
mutual
  unfolding NoRunEnds type_of

  pub no_runs_of_type : (c d : Column) → SameType c d → NoRunEnds c → NoRunEnds d
  no_runs_of_type (column n cs) (column m ds) e h = (
    subst (λ K. is_run_ended K ≡ false) (ap kind_of (same_format (column n cs) (column m ds) e)) h.0,
    no_runs_of_types (is_run_ended (kind n)) (is_run_ended (kind m)) cs ds (cc) h.1,
  )

  no_runs_of_types : (u v : Bool) (cs ds : Columns) → fields u cs ≡ fields v ds → NoneRunEnded cs → NoneRunEnded ds
  no_runs_of_types u v end end e h = tt
  no_runs_of_types u v end (d & ds) e h = let z : ◌≡◌ {A = ℕ} 0 1 = cc in absurd (omega arith)
  no_runs_of_types u v (c & cs) end e h = tt
  no_runs_of_types u v (c & cs) (d & ds) e h = (no_runs_of_type c d (cc) h.0, no_runs_of_types u v cs ds (cc) h.1)

module _ (D : ℕ → List ℕ) where
  pub source_no_runs : (S : List Column) (ps : List Pair) → 0 < length S → Accepted D (at S 0) S ps → NoRunEnds (interleave S ps) → (a : ℕ) → a < length S → NoRunEnds (at S a)
  source_no_runs S ps p A nr a l = no_runs_of_type (at S 0) (at S a) (A.same a l) (no_runs_of_type (interleave S ps) (at S 0) (type_made D false (at S 0) S ps (A.sound 0 p)) nr)

  mutual
    unfolding column_of leads_to WentWell

    history_leads : (h : History) → WentWell D h → NoRunEnds (column_of h) → Leads (column_of h) (leads_to h)
    history_leads (filed c) w nr = filed_leads c
    history_leads (made hs ps) w nr =
        made_leads D false (at (columns_of hs) 0) (columns_of hs) ps (source_leads hs) w.1 (w.1.sound 0 w.0)
        (source_no_runs (columns_of hs) ps w.0 w.1 nr 0 w.0)
        (histories_lead hs w.2 (source_no_runs (columns_of hs) ps w.0 w.1 nr))

    histories_lead : (hs : Histories) → AllWentWell D hs → ((a : ℕ) → a < length (columns_of hs) → NoRunEnds (at (columns_of hs) a)) → (a : ℕ) → Leads (at (columns_of hs) a) (source_leads hs a)
    histories_lead none w nr a = leads_nothing (source_leads none a)
    histories_lead (h also hs) w nr zero = history_leads h w.0 (nr 0 (omega arith))
    histories_lead (h also hs) w nr (suc a) = histories_lead hs w.1 (λ i l. nr (suc i) (omega arith)) a

  leads_by_pairs : (hs : Histories) (ps : List Pair) → map (leads_to (made hs ps)) (span 0 (length ps)) ≡ map (λ (q : Pair). source_leads hs q.0 q.1) ps
  unfolding leads_to
  leads_by_pairs hs ps =
      map_slice (leads_to (made hs ps)) (λ (q : Pair). source_leads hs q.0 q.1) ps (0, 0) 0 (length ps) (omega arith) (λ m l. refl)
      ∙ ap (map (λ (q : Pair). source_leads hs q.0 q.1)) (take_all (length ps) ps (omega arith))

pub chains_lay_out_as_direct : ChainsLayOutAsDirect
unfolding column_of WentWell
chains_lay_out_as_direct D hs ps F ds w nr same E =
    let S : List Column = columns_of hs in
    let own : Sound D (at S 0) = w.1.sound 0 w.0 in
    let ty : type_of (interleave S ps) ≡ type_of (at S 0) = type_made D false (at S 0) S ps own in
    chain D false false (at S 0) (at F 0) S ps F ds (source_leads hs) w.1 own
    (source_no_runs D S ps w.0 w.1 nr 0 w.0) (sym ty ∙ same)
    (histories_lead D hs w.2 (source_no_runs D S ps w.0 w.1 nr)) (E ∙ leads_by_pairs D hs ps)

mutual
  unfolding column_of leads_to WentWell

  pub rows_say_what_they_lead_to : (D : ℕ → List ℕ) (h : History) → WentWell D h → (k : ℕ) → k < rows_of (column_of h) → says D (column_of h) k ≡ says D (leads_to h k).0 (leads_to h k).1
  rows_say_what_they_lead_to D (filed c) w k l = refl
  rows_say_what_they_lead_to D (made hs ps) w k l =
      let b : k < length ps = subst (λ n. k < n) (rows_made false (at (columns_of hs) 0) (columns_of hs) ps) l in
      rows_follow D false (at (columns_of hs) 0) (columns_of hs) ps w.1 k b
      ∙ sources_say D hs w.2 (get_or ps k (0, 0)).0 (get_or ps k (0, 0)).1 (w.1.source_known k b) (w.1.row_known k b)

  sources_say : (D : ℕ → List ℕ) (hs : Histories) → AllWentWell D hs → (a r : ℕ) → a < length (columns_of hs) → r < rows_of (at (columns_of hs) a) →
      says D (at (columns_of hs) a) r ≡ says D (source_leads hs a r).0 (source_leads hs a r).1
  sources_say D none w a r l b = absurd (omega arith)
  sources_say D (h also hs) w zero r l b = rows_say_what_they_lead_to D h w.0 r b
  sources_say D (h also hs) w (suc a) r l b = sources_say D hs w.1 a r (omega arith) b
