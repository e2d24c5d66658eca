-- The numbers of a made column fit where its sources' do.
use Rattle.std.proofs.Common.{◌≡◌, ℕ, zero, suc, ◌^◌, ◌<◌, ◌≤◌, Bool, true, false, cond, eqb, List, [], ◌∷◌, map, length, get_or, sym, refl, ◌∙◌, subst, arith, length-append}
use lib.ListN.{length-map}
use Rattle.std.specs.List.{flat_map, AllByRecursion}
use Rattle.std.proofs.ByRecursion.{All-from_get_or, All-append, All-map, All-weaker}
use Rattle.columns.specs.Kinds.{width_of, Kind, primitive, boolean, strings, views, lists, maps, structs, run_ended, fixed_lists, unknown, is_list}
use Rattle.columns.specs.Format.{highest, ends_format}
use Rattle.columns.specs.Column.{View, short, long, Node, Column, Columns, column, end, ◌&◌, node, children, nth, first, rest, width, nothing, kind, at, view_at}
use Rattle.columns.specs.Says.{offset_start, offset_length, string_at}
use Rattle.columns.specs.Gathering.{Pair}
use Rattle.columns.specs.Claims.{claim, once, without, place, placed}
use Rattle.columns.specs.Runs.{kept, entries, run_ends_from}
use Rattle.columns.specs.Interleave.{interleaved, made_children, made_runs, made_node, made_buffers, child_pairs, claims, ends_column}
use Rattle.columns.specs.Sound.{Sound, EachSound, KindSound, Climbs}
use Rattle.columns.specs.Limits.{most_rows, SignedFit, NodesLimited, EachLimited}
use Rattle.columns.specs.Widths.{Bytes, ViewFits, NodeFits, WithinWidths, EachWithin}
use Rattle.columns.specs.Promises.{Accepted}
use Rattle.columns.proofs.Formats.{ends_below}
use Rattle.columns.proofs.Reading.{power_positive, bytes_slice}
use Rattle.columns.proofs.Tree.{at_children, child_accepted, rest_kids, at_nth}
use Rattle.columns.proofs.Rows.{source_kind, inside_runs, made_climbs}
use Rattle.columns.proofs.Made.{either_kids, first_runs, kids_inside}

all_at : {X : Type 0} (P : X → Type 0) (xs : List X) (i : ℕ) (d : X) → P d → AllByRecursion P xs → P (get_or xs i d)
all_at P [] i d h a = h
all_at P (x ∷ xs) zero d h a = a.0
all_at P (x ∷ xs) (suc i) d h a = all_at P xs i d h a.1

all_taken : {X Y : Type 0} (P : Y → Type 0) (f : X → Y) (xs : List X) (d : X) → ((k : ℕ) → k < length xs → P (f (get_or xs k d))) → AllByRecursion P (map f xs)
all_taken P f xs d h = All-map P f xs (All-from_get_or (λ x. P (f x)) xs d h)

pub all_joined : {X Y : Type 0} (P : Y → Type 0) (f : X → List Y) (xs : List X) (d : X) → ((k : ℕ) → k < length xs → AllByRecursion P (f (get_or xs k d))) → AllByRecursion P (flat_map f xs)
all_joined P f [] d h = tt
all_joined P f (x ∷ xs) d h = All-append P (f x) (flat_map f xs) (h 0 (omega arith)) (all_joined P f xs d (λ k l. h (suc k) (omega arith)))

-- A made list of buffers is no longer than the list of pairs.
place_most : (b : ℕ) (xs : List ℕ) → place b xs ≤ length xs
place_most b [] = omega arith
place_most b (x ∷ xs) = go (eqb b x) (place_most b xs)
  where
    go : (t : Bool) → place b xs ≤ length xs → cond t 0 (suc (place b xs)) ≤ suc (length xs)
    go true r = omega arith
    go false r = omega arith

without_most : (b : ℕ) (xs : List ℕ) → length (without b xs) ≤ length xs
without_most b [] = omega arith
without_most b (x ∷ xs) = go (eqb b x) (without_most b xs)
  where
    go : (t : Bool) → length (without b xs) ≤ length xs → length (cond t (without b xs) (x ∷ without b xs)) ≤ suc (length xs)
    go true r = omega arith
    go false r = omega arith

once_most : (xs : List ℕ) → length (once xs) ≤ length xs
once_most [] = omega arith
once_most (x ∷ xs) = let r = once_most xs in let w = without_most x (once xs) in omega arith

claim_most : (bs : List ℕ) (v : View) → length (claim bs v) ≤ 1
claim_most bs (short len inline) = omega arith
claim_most bs (long len prefix position offset) = omega arith

joined_most : {X Y : Type 0} (f : X → List Y) → ((x : X) → length (f x) ≤ 1) → (xs : List X) → length (flat_map f xs) ≤ length xs
joined_most f h [] = omega arith
joined_most f h (x ∷ xs) = let a = h x in let r = joined_most f h xs in let e = length-append (f x) (flat_map f xs) in omega arith

placed_fits : (made bs : List ℕ) (v : View) → length made ≤ most_rows → ViewFits v → ViewFits (placed made bs v)
placed_fits made bs (short len inline) l h = h
placed_fits made bs (long len prefix position offset) l h = (h.0, h.1, (let p = place_most (get_or bs position 0) made in omega arith), h.3)

-- Columns and their children.
pub within_nothing : WithinWidths nothing
unfolding WithinWidths
within_nothing = (record { format_fits = (tt, omega arith); label_fits = omega arith; values_fit = tt; text_fits = tt; views_fit = tt }, tt)

within_node : (c : Column) → WithinWidths c → NodeFits (node c)
unfolding WithinWidths
within_node (column n cs) h = h.0

within_kids : (c : Column) → WithinWidths c → EachWithin (children c)
unfolding WithinWidths
within_kids (column n cs) h = h.1

within_first : (ks : Columns) → EachWithin ks → WithinWidths (first ks)
unfolding WithinWidths
within_first end h = within_nothing
within_first (c & cs) h = h.0

within_rest : (ks : Columns) → EachWithin ks → EachWithin (rest ks)
unfolding WithinWidths
within_rest end h = tt
within_rest (c & cs) h = h.1

sources_first : (D : ℕ → List ℕ) (kids : List Columns) → ((s : ℕ) → EachWithin (get_or kids s end)) → (s : ℕ) → WithinWidths (at (map first kids) s)
sources_first D kids F s = subst WithinWidths (sym (at_nth D kids 0 s)) (within_first (get_or kids s end) (F s))

sources_rest : (kids : List Columns) → ((s : ℕ) → EachWithin (get_or kids s end)) → (s : ℕ) → EachWithin (get_or (map rest kids) s end)
sources_rest kids F s = subst EachWithin (sym (lib.ListN.get_or-map rest kids s end)) (within_rest (get_or kids s end) (F s))

-- One made node.
module _ (D : ℕ → List ℕ) (c : Column) (S : List Column) (ps : List Pair) (A : Accepted D c S ps) (F : (s : ℕ) → WithinWidths (at S s)) where
  source : (s : ℕ) → NodeFits (node (at S s))
  source s = within_node (at S s) (F s)

  made_values : (K : Kind) → kind (node c) ≡ K → AllByRecursion (λ v. v < 256 ^ width_of K) (made_buffers K S ps).values
  made_values (primitive w) e =
      all_taken (λ v. v < 256 ^ w) (λ (p : Pair). get_or (node (at S p.0)).values p.1 0) ps (0, 0) (λ k l.
      let p : Pair = get_or ps k (0, 0) in
      all_at (λ v. v < 256 ^ w) (node (at S p.0)).values p.1 0 (power_positive w)
      (subst (λ J. AllByRecursion (λ v. v < 256 ^ width_of J) (node (at S p.0)).values) (source_kind D c S ps A p.0 (A.source_known k l) ∙ e) (source p.0).values_fit))
  made_values boolean e = tt
  made_values strings e = tt
  made_values views e = tt
  made_values lists e = tt
  made_values maps e = tt
  made_values structs e = tt
  made_values run_ended e = tt
  made_values (fixed_lists N) e = tt
  made_values unknown e = tt

  made_text : (K : Kind) → Bytes (made_buffers K S ps).text
  made_text (primitive w) = tt
  made_text boolean = tt
  made_text strings =
      all_joined (λ b. b < 256) (λ (p : Pair). string_at (node (at S p.0)) p.1) ps (0, 0) (λ k l.
      let p : Pair = get_or ps k (0, 0) in bytes_slice (node (at S p.0)).text (offset_start (node (at S p.0)) p.1) (offset_length (node (at S p.0)) p.1) (source p.0).text_fits)
  made_text views = tt
  made_text lists = tt
  made_text maps = tt
  made_text structs = tt
  made_text run_ended = tt
  made_text (fixed_lists N) = tt
  made_text unknown = tt

  made_views : (K : Kind) → length ps ≤ most_rows → AllByRecursion ViewFits (made_buffers K S ps).views
  made_views (primitive w) l = tt
  made_views boolean l = tt
  made_views strings l = tt
  made_views views l =
      let few : length (once (claims S ps)) ≤ most_rows =
      (let a = once_most (claims S ps) in
      let b = joined_most (λ (p : Pair). claim (node (at S p.0)).buffers (view_at (node (at S p.0)) p.1)) (λ p. claim_most (node (at S p.0)).buffers (view_at (node (at S p.0)) p.1)) ps in omega arith) in
      all_taken ViewFits (λ (p : Pair). placed (once (claims S ps)) (node (at S p.0)).buffers (view_at (node (at S p.0)) p.1)) ps (0, 0) (λ k m.
      let p : Pair = get_or ps k (0, 0) in
      placed_fits (once (claims S ps)) (node (at S p.0)).buffers (view_at (node (at S p.0)) p.1) few
      (all_at ViewFits (node (at S p.0)).views p.1 (short 0 []) tt (source p.0).views_fit))
  made_views lists l = tt
  made_views maps l = tt
  made_views structs l = tt
  made_views run_ended l = tt
  made_views (fixed_lists N) l = tt
  made_views unknown l = tt

  made_fits : (b : Bool) → length ps ≤ most_rows → NodeFits (node c) → NodeFits (made_node b (kind (node c)) (node c) S ps)
  made_fits b l f = record {
    format_fits = f.format_fits;
    label_fits = f.label_fits;
    values_fit = made_values (kind (node c)) refl;
    text_fits = made_text (kind (node c));
    views_fit = made_views (kind (node c)) l;
  }

-- Run ends are at most the number of rows.
ends_most : (low : ℕ) (es : List ℕ) (top : ℕ) → Climbs low es top → (low ≤ top) × AllByRecursion (λ e. e ≤ top) es
ends_most low [] top h = (omega arith, tt)
ends_most low (e ∷ es) top h = let r = ends_most e es top h.1 in ((let a = r.0 in let b = h.0 in omega arith), (r.0, r.1))

ends_fit : (n : Node) (es : List ℕ) (top : ℕ) → Climbs 0 es top → top ≤ highest (width_of (kind n)) → ends_format n.format ≡ true → NodeFits n → NodeFits (node (ends_column n es))
ends_fit n es top c l e f = record {
  format_fits = f.format_fits;
  label_fits = f.label_fits;
  values_fit = All-weaker (λ x. x ≤ top) (λ x. x < 256 ^ width_of (kind n)) (λ x h. (let a = ends_below n.format e in omega arith)) es (ends_most 0 es top c).1;
  text_fits = tt;
  views_fit = tt;
}

abbrev KidsAccepted : (ℕ → List ℕ) → Columns → List Columns → List Pair → Type 0
KidsAccepted D cs kids qs = (j : ℕ) → j < width cs → Accepted D (nth cs j) (map (λ ks. nth ks j) kids) qs

module _ (D : ℕ → List ℕ) where
  mutual
    unfolding interleaved Sound NodesLimited WithinWidths

    pub made_within : (b : Bool) (c : Column) (S : List Column) (ps : List Pair) → Accepted D c S ps → Sound D c → WithinWidths c → ((s : ℕ) → WithinWidths (at S s)) →
        NodesLimited (interleaved b c S ps) → WithinWidths (interleaved b c S ps)
    made_within b (column n cs) S ps A s f F lim = (
      made_fits D (column n cs) S ps A F b lim.0 f.0,
      either_kids (λ K ks. SignedFit K (made_node b K n S ps) ks → EachLimited ks → EachWithin ks) (kind n)
          (made_runs cs (run_ends_from 0 (entries S ps)) (map children S) (kept (entries S ps)))
          (made_children (is_list (kind n)) cs (map children S) (child_pairs (kind n) S ps))
          (λ r sg l. each_within (is_list (kind n)) cs (map children S) (child_pairs (kind n) S ps)
          (λ j w. child_accepted D (column n cs) S ps (child_pairs (kind n) S ps) j A w (kids_inside D (column n cs) S ps A b (kind n) refl s.1 r j w)) s.2 f.1 kids l)
          (λ e sg l.
          let y : KindSound D run_ended n cs = subst (λ K. KindSound D K n cs) e s.1 in
          let ends : List ℕ = run_ends_from 0 (entries S ps) in
          let one : first (made_runs cs ends (map children S) (kept (entries S ps))) ≡ ends_column (node (first cs)) ends =
          first_runs cs ends (map children S) (kept (entries S ps)) (let w = y.2 in omega arith) in
          let top : length ps ≤ highest (width_of (kind (node (first cs)))) =
          subst (λ d. length ps ≤ highest (width_of (kind (node d)))) one (subst (λ K. SignedFit K (made_node b K n S ps) (made_runs cs ends (map children S) (kept (entries S ps)))) e sg) in
          runs_within cs ends (length ps) (map children S) (kept (entries S ps)) (subst (λ m. Climbs 0 ends m) (length-map ps _) (made_climbs (entries S ps))) top y.3
          (λ w. child_accepted D (column n cs) S ps (kept (entries S ps)) 1 A w (inside_runs D (column n cs) S ps A e)) y.2 s.2 f.1 kids l)
          lim.1 lim.2,
    )
      where
        kids : (s : ℕ) → EachWithin (get_or (map children S) s end)
        kids s = subst EachWithin (sym (at_children D S s)) (within_kids (at S s) (F s))

    each_within : (t : Bool) (cs : Columns) (kids : List Columns) (qs : List Pair) → KidsAccepted D cs kids qs → EachSound D cs → EachWithin cs → ((s : ℕ) → EachWithin (get_or kids s end)) →
        EachLimited (made_children t cs kids qs) → EachWithin (made_children t cs kids qs)
    each_within t end kids qs A s f F l = tt
    each_within t (c & cs) kids qs A s f F l = (
      made_within t c (map first kids) qs (A 0 (omega arith)) s.0 f.0 (sources_first D kids F) l.0,
      each_within t cs (map rest kids) qs (λ j w. subst (λ T. Accepted D (nth cs j) T qs) (sym (rest_kids kids j)) (A (suc j) (omega arith))) s.1 f.1 (sources_rest kids F) l.1,
    )

    runs_within : (cs : Columns) (ends : List ℕ) (top : ℕ) (kids : List Columns) (qs : List Pair) → Climbs 0 ends top → top ≤ highest (width_of (kind (node (first cs)))) → ends_format (node (first cs)).format ≡ true →
        (1 < width cs → Accepted D (nth cs 1) (map (λ ks. nth ks 1) kids) qs) → width cs ≡ 2 → EachSound D cs → EachWithin cs → ((s : ℕ) → EachWithin (get_or kids s end)) →
        EachLimited (made_runs cs ends kids qs) → EachWithin (made_runs cs ends kids qs)
    runs_within end ends top kids qs c t e A w s f F l = tt
    runs_within (x & cs) ends top kids qs c t e A w s f F l = (
      (ends_fit (node x) ends top c t e (within_node x f.0), tt),
      each_within false cs (map rest kids) qs
          (λ j m. subst (λ i. Accepted D (nth cs i) (map (λ ks. nth ks i) (map rest kids)) qs) (omega arith) (subst (λ T. Accepted D (nth cs 0) T qs) (sym (rest_kids kids 0)) (A (omega arith)))) s.1 f.1
          (sources_rest kids F) l.1,
    )
