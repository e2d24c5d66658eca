-- Laws of every made node, whatever its depth.
use Rattle.std.proofs.Common.{◌≡◌, ℕ, zero, suc, ◌<◌, Bool, true, false, cond, not, ◌↔◌, List, [], ◌∷◌, map, length, get_or, sym, refl, ap, ◌∙◌, subst, inl, inr, zero-add, arith}
use mathlib.Core.Option.{Option, some, none}
use lib.ListN.{length-map}
use Rattle.std.proofs.lemmas.List.{get_or-map, nil_from_length}
use Rattle.std.proofs.lemmas.Bool.{false≢true, or_left, or_right, or_cases, not_from_false}
use Rattle.columns.specs.Kinds.{Kind, primitive, boolean, strings, views, lists, maps, structs, run_ended, fixed_lists, unknown, is_run_ended, is_list, is_primitive, has_offsets}
use Rattle.columns.specs.Column.{Node, Column, Columns, column, end, ◌&◌, node, children, first, rest, width, kind, at, view_at}
use Rattle.columns.specs.Masks.{valid, mask_valid, some_null, has_null}
use Rattle.columns.specs.Says.{ends_of}
use Rattle.columns.specs.Gathering.{Pair, totals}
use Rattle.columns.specs.Claims.{In, once}
use Rattle.columns.specs.Runs.{kept, entries, run_ends_from}
use Rattle.columns.specs.Interleave.{interleaved, made_children, made_runs, made_node, made_buffers, child_pairs, claims, any_null, made_mask, needs_mask, rows_taken, source_ranges}
use Rattle.columns.specs.Sound.{Sound, EachSound, KindSound, Climbs}
use Rattle.columns.specs.Laws.{EmptyLaw, NoPairsMakeEmpty, OffsetLaw, OffsetsAreTotals, Law, AtEveryDepth, AtEveryChild, AtRunValues, MaskLaw, SourceNull, CopiedNull, MasksMadeWhereNeeded, RunLaw, RunStops, BufferLaw, ByFirstUse, uses, RunsStopWhereEntriesChange, BuffersListedByFirstUse}
use Rattle.columns.proofs.Buffer.{in_once, out_once, once_by_first_use, uses_are_claims}
use Rattle.columns.proofs.Run.{end_is_stop, stop_has_end}
use Rattle.columns.proofs.Rows.{made_climbs}

pub no_children : (D : ℕ → List ℕ) (K : Kind) (n : Node) (cs : Columns) → is_primitive K ≡ true → KindSound D K n cs → cs ≡ end
no_children D (primitive w) n end e h = refl
no_children D (primitive w) n (c & cs) e h = absurd (omega arith)
no_children D boolean n cs e h = cc
no_children D strings n cs e h = cc
no_children D views n cs e h = cc
no_children D lists n cs e h = cc
no_children D maps n cs e h = cc
no_children D structs n cs e h = cc
no_children D run_ended n cs e h = cc
no_children D (fixed_lists N) n cs e h = cc
no_children D unknown n cs e h = cc

both_ways : (t : Bool) (P Q : Columns → Type 0) (x y : Columns) → P x → Q y → cond t (P (cond t x y)) (Q (cond t x y))
both_ways true P Q x y p q = p
both_ways false P Q x y p q = q

module _ (D : ℕ → List ℕ) (L : Law) (law : (b : Bool) (c : Column) (S : List Column) (ps : List Pair) → Sound D c → L b (interleaved b c S ps) S ps) where
  mutual
    unfolding interleaved AtEveryDepth Sound

    pub everywhere : (b : Bool) (c : Column) (S : List Column) (ps : List Pair) → Sound D c → AtEveryDepth L b (interleaved b c S ps) c S ps
    everywhere b (column n cs) S ps s = (
      law b (column n cs) S ps s,
      both_ways (is_run_ended (kind n)) (λ ks. AtRunValues L ks cs (map children S) (kept (entries S ps)))
          (λ ks. AtEveryChild L (is_list (kind n)) ks cs (map children S) (child_pairs (kind n) S ps))
          (made_runs cs (run_ends_from 0 (entries S ps)) (map children S) (kept (entries S ps)))
          (made_children (is_list (kind n)) cs (map children S) (child_pairs (kind n) S ps))
          (runs cs (run_ends_from 0 (entries S ps)) (map children S) (kept (entries S ps)) s.2)
          (each (is_list (kind n)) cs (map children S) (child_pairs (kind n) S ps) s.2),
    )

    each : (t : Bool) (cs : Columns) (kids : List Columns) (qs : List Pair) → EachSound D cs → AtEveryChild L t (made_children t cs kids qs) cs kids qs
    each t end kids qs s = tt
    each t (c & cs) kids qs s = (everywhere t c (map first kids) qs s.0, each t cs (map rest kids) qs s.1)

    runs : (cs : Columns) (ends : List ℕ) (kids : List Columns) (qs : List Pair) → EachSound D cs → AtRunValues L (made_runs cs ends kids qs) cs kids qs
    runs end ends kids qs s = tt
    runs (c & cs) ends kids qs s = each false cs (map rest kids) qs s.1

pub ends_of_runs : (cs : Columns) (ends : List ℕ) (kids : List Columns) (qs : List Pair) → 0 < width cs → ends_of (made_runs cs ends kids qs) ≡ ends
unfolding interleaved
ends_of_runs end ends kids qs w = absurd (omega arith)
ends_of_runs (x & cs) ends kids qs w = refl

run_law : (D : ℕ → List ℕ) (b : Bool) (c : Column) (S : List Column) (ps : List Pair) → Sound D c → RunLaw b (interleaved b c S ps) S ps
unfolding interleaved Sound
run_law D b (column n cs) S ps s e =
    subst Says (sym ends_are) (subst (λ m. Climbs 0 ends m) same (made_climbs (entries S ps)), stops)
  where
    y : KindSound D run_ended n cs
    y = subst (λ K. KindSound D K n cs) e s.1

    ends : List ℕ
    ends = run_ends_from 0 (entries S ps)

    same : length (entries S ps) ≡ length ps
    same = length-map ps _

    Says : List ℕ → Type 0
    Says es = Climbs 0 es (length ps) × ((k : ℕ) → k < length ps → In (suc k) es ↔ RunStops (entries S ps) k)

    ends_are : ends_of (children (interleaved b (column n cs) S ps)) ≡ ends
    ends_are =
        ap (λ K. ends_of (cond (is_run_ended K) (made_runs cs ends (map children S) (kept (entries S ps))) (made_children (is_list K) cs (map children S) (child_pairs K S ps)))) e
        ∙ ends_of_runs cs ends (map children S) (kept (entries S ps)) (let w : width cs ≡ 2 = y.2 in omega arith)

    stops : (k : ℕ) → k < length ps → In (suc k) ends ↔ RunStops (entries S ps) k
    stops k l = (
      λ i. end_is_stop 0 (entries S ps) k (omega (arith, same)) (subst (λ m. In (suc m) ends) (sym (zero-add k)) i),
      λ t. subst (λ m. In (suc m) ends) (zero-add k) (stop_has_end 0 (entries S ps) k (omega (arith, same)) t),
    )

buffer_law : (D : ℕ → List ℕ) (b : Bool) (c : Column) (S : List Column) (ps : List Pair) → Sound D c → BufferLaw b (interleaved b c S ps) S ps
unfolding interleaved
buffer_law D b (column n cs) S ps s e = subst Says (sym e) (used, listed.0, listed.1)
  where
    Says : Kind → Type 0
    Says K =
        (uses (made_node b K n S ps) ≡ claims S ps)
        × ((x : ℕ) → In x (made_node b K n S ps).buffers ↔ In x (uses (made_node b K n S ps)))
        × ByFirstUse (uses (made_node b K n S ps)) (made_node b K n S ps).buffers

    Uses : List ℕ → Type 0
    Uses us = ((x : ℕ) → In x (once (claims S ps)) ↔ In x us) × ByFirstUse us (once (claims S ps))

    used : uses (made_node b views n S ps) ≡ claims S ps
    used = uses_are_claims (λ (p : Pair). (node (at S p.0)).buffers) (λ (p : Pair). view_at (node (at S p.0)) p.1) ps (0, 0)

    listed : Uses (uses (made_node b views n S ps))
    listed = subst Uses (sym used) ((λ x. (out_once x (claims S ps), in_once x (claims S ps))), once_by_first_use (claims S ps))

offset_law : (D : ℕ → List ℕ) (b : Bool) (c : Column) (S : List Column) (ps : List Pair) → Sound D c → OffsetLaw b (interleaved b c S ps) S ps
unfolding interleaved
offset_law D b (column n cs) S ps s e = go (kind n) e
  where
    go : (K : Kind) → has_offsets K ≡ true → (made_buffers K S ps).offsets ≡ totals (source_ranges K S) ps
    go (primitive w) e = absurd (false≢true e)
    go boolean e = absurd (false≢true e)
    go strings e = refl
    go views e = absurd (false≢true e)
    go lists e = refl
    go maps e = refl
    go structs e = absurd (false≢true e)
    go run_ended e = absurd (false≢true e)
    go (fixed_lists N) e = absurd (false≢true e)
    go unknown e = absurd (false≢true e)

empty_law : (D : ℕ → List ℕ) (b : Bool) (c : Column) (S : List Column) (ps : List Pair) → Sound D c → EmptyLaw b (interleaved b c S ps) S ps
unfolding interleaved
empty_law D b (column n cs) S [] s e = record {
  no_rows = refl;
  no_mask = refl;
  one_offset = go (kind n);
  no_values = values (kind n);
  no_bits = bits (kind n);
  no_text = text (kind n);
  no_views = its_views (kind n);
  no_buffers = buffers (kind n);
}
  where
    go : (K : Kind) → has_offsets K ≡ true → (made_buffers K S []).offsets ≡ 0 ∷ []
    go (primitive w) e = absurd (false≢true e)
    go boolean e = absurd (false≢true e)
    go strings e = refl
    go views e = absurd (false≢true e)
    go lists e = refl
    go maps e = refl
    go structs e = absurd (false≢true e)
    go run_ended e = absurd (false≢true e)
    go (fixed_lists N) e = absurd (false≢true e)
    go unknown e = absurd (false≢true e)

    values : (K : Kind) → (made_buffers K S []).values ≡ []
    values (primitive w) = refl
    values boolean = refl
    values strings = refl
    values views = refl
    values lists = refl
    values maps = refl
    values structs = refl
    values run_ended = refl
    values (fixed_lists N) = refl
    values unknown = refl

    bits : (K : Kind) → (made_buffers K S []).bits ≡ []
    bits (primitive w) = refl
    bits boolean = refl
    bits strings = refl
    bits views = refl
    bits lists = refl
    bits maps = refl
    bits structs = refl
    bits run_ended = refl
    bits (fixed_lists N) = refl
    bits unknown = refl

    text : (K : Kind) → (made_buffers K S []).text ≡ []
    text (primitive w) = refl
    text boolean = refl
    text strings = refl
    text views = refl
    text lists = refl
    text maps = refl
    text structs = refl
    text run_ended = refl
    text (fixed_lists N) = refl
    text unknown = refl

    its_views : (K : Kind) → (made_buffers K S []).views ≡ []
    its_views (primitive w) = refl
    its_views boolean = refl
    its_views strings = refl
    its_views views = refl
    its_views lists = refl
    its_views maps = refl
    its_views structs = refl
    its_views run_ended = refl
    its_views (fixed_lists N) = refl
    its_views unknown = refl

    buffers : (K : Kind) → (made_buffers K S []).buffers ≡ []
    buffers (primitive w) = refl
    buffers boolean = refl
    buffers strings = refl
    buffers views = refl
    buffers lists = refl
    buffers maps = refl
    buffers structs = refl
    buffers run_ended = refl
    buffers (fixed_lists N) = refl
    buffers unknown = refl
empty_law D b (column n cs) S (p ∷ ps) s e = absurd (omega arith)

-- Masks.
null_among : (bs : List Bool) → some_null bs ≡ true → (k : ℕ) × (k < length bs) × (get_or bs k true ≡ false)
null_among [] e = absurd (false≢true e)
null_among (false ∷ bs) e = (0, omega arith, refl)
null_among (true ∷ bs) e = let r = null_among bs e in (suc r.0, (let z = r.1 in omega arith), r.2)

among_null : (bs : List Bool) (k : ℕ) → get_or bs k true ≡ false → some_null bs ≡ true
among_null [] k e = sym e
among_null (b ∷ bs) zero e = or_left (not b) (some_null bs) (not_from_false b e)
among_null (b ∷ bs) (suc k) e = or_right (not b) (some_null bs) (among_null bs k e)

null_in_mask : (m : Option (List Bool)) → elim m as (λ _. Bool) [ none ↦ false | some bs ↦ some_null bs ] ≡ true → (i : ℕ) × (mask_valid m i ≡ false)
null_in_mask none e = absurd (false≢true e)
null_in_mask (some bs) e = let r = null_among bs e in (r.0, r.2)

mask_has_null : (m : Option (List Bool)) (i : ℕ) → mask_valid m i ≡ false → elim m as (λ _. Bool) [ none ↦ false | some bs ↦ some_null bs ] ≡ true
mask_has_null none i e = sym e
mask_has_null (some bs) i e = among_null bs i e

source_null : (S : List Column) → any_null S ≡ true → SourceNull S
source_null [] e = absurd (false≢true e)
source_null (c ∷ S) e = elim (or_cases (has_null (node c)) (any_null S) e)
    [ inl h ↦ (0, omega arith, null_in_mask (node c).mask h) | inr h ↦ (let r = source_null S h in (suc r.0, (let z = r.1 in omega arith), r.2)) ]

null_source : (S : List Column) (s i : ℕ) → valid (node (at S s)) i ≡ false → any_null S ≡ true
null_source [] s i e = sym e
null_source (c ∷ S) zero i e = or_left (has_null (node c)) (any_null S) (mask_has_null (node c).mask i e)
null_source (c ∷ S) (suc s) i e = or_right (has_null (node c)) (any_null S) (null_source S s i e)

masked_needed : (needed : Bool) (bs : List Bool) → 0 < length bs → (made_mask needed bs ≡ none → ⊥) ↔ (needed ≡ true)
masked_needed needed [] l = absurd (omega arith)
masked_needed true (b ∷ bs) l = ((λ f. refl), λ e z. (let y : ◌≡◌ {A = ℕ} 0 1 = cc in omega arith))
masked_needed false (b ∷ bs) l = ((λ f. absurd (f refl)), λ e z. false≢true e)

mask_law : (D : ℕ → List ℕ) (b : Bool) (c : Column) (S : List Column) (ps : List Pair) → Sound D c → MaskLaw b (interleaved b c S ps) S ps
unfolding interleaved
mask_law D b (column n cs) S ps s = (
  λ e. ap (made_mask (needs_mask b (kind n) S ps)) (nil_from_length (rows_taken S valid ps) (length-map ps _ ∙ e)),
  (λ l e. let m = masked_needed (needs_mask b (kind n) S ps) (rows_taken S valid ps) (full l) in
      let need : needs_mask b (kind n) S ps ≡ some_null (rows_taken S valid ps) = ap (λ t. cond t (some_null (rows_taken S valid ps)) (any_null S)) e in
      ((λ f. copied (null_among (rows_taken S valid ps) (sym need ∙ m.0 f))), λ r. m.1 (need ∙ among_null (rows_taken S valid ps) r.0 (there r.0 r.1 ∙ r.2)))),
  (λ l e. let m = masked_needed (needs_mask b (kind n) S ps) (rows_taken S valid ps) (full l) in
      let need : needs_mask b (kind n) S ps ≡ any_null S = ap (λ t. cond t (some_null (rows_taken S valid ps)) (any_null S)) e in
      ((λ f. source_null S (sym need ∙ m.0 f)), λ r. m.1 (need ∙ null_source S r.0 r.2.0 r.2.1))),
)
  where
    full : 0 < length ps → 0 < length (rows_taken S valid ps)
    full l = subst (λ m. 0 < m) (sym (length-map ps _)) l

    there : (k : ℕ) → k < length ps → get_or (rows_taken S valid ps) k true ≡ valid (node (at S (get_or ps k (0, 0)).0)) (get_or ps k (0, 0)).1
    there k l = get_or-map (λ (p : Pair). valid (node (at S p.0)) p.1) ps k (0, 0) true l

    copied : (k : ℕ) × (k < length (rows_taken S valid ps)) × (get_or (rows_taken S valid ps) k true ≡ false) → CopiedNull S ps
    copied r = let l : r.0 < length ps = subst (λ m. r.0 < m) (length-map ps _) r.1 in (r.0, l, sym (there r.0 l) ∙ r.2)

pub runs_stop_where_entries_change : RunsStopWhereEntriesChange
runs_stop_where_entries_change D S ps h A = everywhere D RunLaw (run_law D) false (at S 0) S ps (A.sound 0 h)

pub buffers_listed_by_first_use : BuffersListedByFirstUse
buffers_listed_by_first_use D S ps h A = everywhere D BufferLaw (buffer_law D) false (at S 0) S ps (A.sound 0 h)

pub offsets_are_totals : OffsetsAreTotals
offsets_are_totals D S ps h A = everywhere D OffsetLaw (offset_law D) false (at S 0) S ps (A.sound 0 h)

pub no_pairs_make_empty : NoPairsMakeEmpty
no_pairs_make_empty D S ps h A = everywhere D EmptyLaw (empty_law D) false (at S 0) S ps (A.sound 0 h)

pub masks_made_where_needed : MasksMadeWhereNeeded
masks_made_where_needed D S ps h A = everywhere D MaskLaw (mask_law D) false (at S 0) S ps (A.sound 0 h)
