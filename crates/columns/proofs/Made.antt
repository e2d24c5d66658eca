-- The made column is sound and has its sources' type.
use Rattle.std.proofs.Common.{◌≡◌, ℕ, zero, suc, ◌+◌, ◌<◌, ◌≤◌, Bool, true, false, cond, eqb, ◌⊎◌, List, [], ◌∷◌, map, length, get_or, sym, refl, ap, ◌∙◌, subst, subst₂, inl, inr, mul-le-mul_right, add-one, arith}
use mathlib.Core.Option.{Option, some, none}
use lib.ListN.{length-map}
use Rattle.std.proofs.lemmas.List.{get_or-map}
use Rattle.std.proofs.lemmas.Bool.{or_from, eqb-false, false≢true}
use Rattle.columns.specs.Kinds.{Kind, primitive, boolean, strings, views, lists, maps, structs, run_ended, fixed_lists, unknown, is_run_ended, is_list, is_primitive}
use Rattle.columns.specs.Format.{ends_format}
use Rattle.columns.specs.Column.{View, short, long, Node, Column, Columns, column, end, ◌&◌, node, children, nth, first, rest, width, kind, rows_of, at, view_at}
use Rattle.columns.specs.Masks.{valid, has_null}
use Rattle.columns.specs.Says.{slice, offset_length, string_at}
use Rattle.columns.specs.Gathering.{Pair, gathered, totals_from}
use Rattle.columns.specs.Claims.{In, claim, once, place, placed}
use Rattle.columns.specs.Runs.{kept, entries, run_ends_from}
use Rattle.columns.specs.Interleave.{interleaved, made_children, made_runs, made_node, made_mask, any_null, needs_mask, rows_taken, source_ranges, child_pairs, ends_column, claims}
use Rattle.columns.specs.Types.{type_of, fields, typed, field}
use Rattle.columns.specs.Sound.{Sound, little_endian, EachSound, KindSound, ViewSound, Offsets, Climbs, RowsAre, SpareFits}
use Rattle.columns.specs.Promises.{Accepted}
use Rattle.columns.proofs.Formats.{ends_primitive}
use Rattle.columns.proofs.Gather.{before, before_fixed, before_more, totals_at, length_totals, laid_length, gathered_length}
use Rattle.columns.proofs.Buffer.{in_joined, in_once, place_at}
use Rattle.columns.proofs.Tree.{Inside, at_child, length_kids, child_accepted, rest_kids, made_width, node_made}
use Rattle.columns.proofs.Every.{ends_kept}
use Rattle.columns.proofs.Rows.{offsets_within, length_of_slice, kind_sound, inside_struct, inside_list, inside_runs, made_climbs}
use Rattle.columns.proofs.Laws.{no_children, ends_of_runs}

-- The type.
type_of_ends : (D : ℕ → List ℕ) (c : Column) (es : List ℕ) → Sound D c → is_primitive (kind (node c)) ≡ true → type_of (ends_column (node c) es) ≡ type_of c
unfolding type_of Sound
type_of_ends D (column n cs) es s e = ap (λ ds. typed n.format (fields (is_run_ended (kind n)) ds)) (sym (no_children D (kind n) n cs e s.1))

label_made : (b : Bool) (c : Column) (S : List Column) (ps : List Pair) → (node (interleaved b c S ps)).label ≡ (node c).label
label_made b c S ps = ap (λ (n : Node). n.label) (node_made b c S ps)

pub kind_made : (b : Bool) (c : Column) (S : List Column) (ps : List Pair) → kind (node (interleaved b c S ps)) ≡ kind (node c)
kind_made b c S ps = ap kind (node_made b c S ps)

pub rows_made : (b : Bool) (c : Column) (S : List Column) (ps : List Pair) → rows_of (interleaved b c S ps) ≡ length ps
rows_made b c S ps = ap (λ (n : Node). n.rows) (node_made b c S ps)

pub either_kids : (P : Kind → Columns → Type 0) (K : Kind) (x y : Columns) → (is_run_ended K ≡ false → P K y) → (K ≡ run_ended → P K x) → P K (cond (is_run_ended K) x y)
either_kids P (primitive w) x y f g = f refl
either_kids P boolean x y f g = f refl
either_kids P strings x y f g = f refl
either_kids P views x y f g = f refl
either_kids P lists x y f g = f refl
either_kids P maps x y f g = f refl
either_kids P structs x y f g = f refl
either_kids P run_ended x y f g = g refl
either_kids P (fixed_lists N) x y f g = f refl
either_kids P unknown x y f g = f refl

mutual
  unfolding interleaved type_of Sound

  pub type_made : (D : ℕ → List ℕ) (b : Bool) (c : Column) (S : List Column) (ps : List Pair) → Sound D c → type_of (interleaved b c S ps) ≡ type_of c
  type_made D b (column n cs) S ps s =
      ap (typed n.format)
      (either_kids (λ K ks. fields (is_run_ended (kind n)) ks ≡ fields (is_run_ended (kind n)) cs) (kind n)
      (made_runs cs (run_ends_from 0 (entries S ps)) (map children S) (kept (entries S ps)))
      (made_children (is_list (kind n)) cs (map children S) (child_pairs (kind n) S ps))
      (λ e. types_made D (is_run_ended (kind n)) (is_list (kind n)) cs (map children S) (child_pairs (kind n) S ps) s.2)
      (λ e. types_runs D (is_run_ended (kind n)) cs (run_ends_from 0 (entries S ps)) (map children S) (kept (entries S ps)) s.2
      (let y : KindSound D run_ended n cs = subst (λ K. KindSound D K n cs) e s.1 in ends_primitive (node (first cs)).format y.3)))

  types_made : (D : ℕ → List ℕ) (u t : Bool) (cs : Columns) (kids : List Columns) (qs : List Pair) → EachSound D cs → fields u (made_children t cs kids qs) ≡ fields u cs
  types_made D u t end kids qs s = refl
  types_made D u t (c & cs) kids qs s =
      λ i. field (cond u 0 (label_made t c (map first kids) qs i)) (type_made D t c (map first kids) qs s.0 i) (types_made D u t cs (map rest kids) qs s.1 i)

  types_runs : (D : ℕ → List ℕ) (u : Bool) (cs : Columns) (ends : List ℕ) (kids : List Columns) (qs : List Pair) → EachSound D cs → is_primitive (kind (node (first cs))) ≡ true →
      fields u (made_runs cs ends kids qs) ≡ fields u cs
  types_runs D u end ends kids qs s e = refl
  types_runs D u (c & cs) ends kids qs s e =
      λ i. field (cond u 0 (node c).label) (type_of_ends D c ends s.0 e i) (types_made D u false cs (map rest kids) qs s.1 i)

-- Soundness.
totals_sound : (ls : List ℕ) → Offsets (totals_from 0 ls) (length ls) (before ls (length ls))
totals_sound ls = record {
  fill = length_totals 0 ls;
  never_fall = λ i h.
      let e0 = totals_at 0 ls i (omega arith) in let e1 = totals_at 0 ls (i + 1) (omega arith) in
      let m = before_more ls i h in
      let m1 : before ls (i + 1) ≡ before ls (suc i) = ap (before ls) (add-one i) in omega arith;
  end_within = let e = totals_at 0 ls (length ls) (omega arith) in omega arith;
}

totals_of : {X : Type 0} (size : X → ℕ) (ps : List X) (bound : ℕ) → before (map size ps) (length ps) ≡ bound → Offsets (totals_from 0 (map size ps)) (length ps) bound
totals_of size ps bound e =
    subst₂ (λ n b. Offsets (totals_from 0 (map size ps)) n b) (length-map ps size) (ap (before (map size ps)) (length-map ps size) ∙ e) (totals_sound (map size ps))

unspared : (rows : ℕ) → SpareFits rows []
unspared rows = omega arith

mask_fills : (needed : Bool) (bs : List Bool) (m : ℕ) → length bs ≡ m →
    elim (made_mask needed bs) as (λ _. Type 0) [ none ↦ length {A = Bool} [] ≡ 0 | some xs ↦ (length xs ≡ m) × SpareFits m [] ]
mask_fills needed [] m e = refl
mask_fills true (b ∷ bs) m e = (e, unspared m)
mask_fills false (b ∷ bs) m e = refl

pub place_within : (b : ℕ) (xs : List ℕ) → In b xs → place b xs < length xs
place_within b [] h = absurd h
place_within b (x ∷ xs) h = go (eqb b x) refl h (place_within b xs)
  where
    go : (t : Bool) → eqb b x ≡ t → (b ≡ x) ⊎ In b xs → (In b xs → place b xs < length xs) → cond t 0 (suc (place b xs)) < suc (length xs)
    go true e i more = omega arith
    go false e (inl p) more = absurd (eqb-false b x e p)
    go false e (inr i) more = let z = more i in omega arith

view_sound : (D : ℕ → List ℕ) (v : View) (bs cs : List ℕ) → ((x : ℕ) → In x (claim bs v) → In x cs) → ViewSound D bs v → ViewSound D (once cs) (placed (once cs) bs v)
view_sound D (short len inline) bs cs f h = h
view_sound D (long len prefix position offset) bs cs f h =
    let i : In (get_or bs position 0) (once cs) = in_once (get_or bs position 0) cs (f (get_or bs position 0) (inl refl)) in (
      h.0,
      place_within (get_or bs position 0) (once cs) i,
      subst (λ x. offset + len ≤ length (D x)) (sym (place_at (get_or bs position 0) (once cs) i)) h.2,
      subst (λ x. prefix ≡ little_endian (slice (D x) offset 4)) (sym (place_at (get_or bs position 0) (once cs) i)) h.3,
    )

ends_sound : (D : ℕ → List ℕ) (n : Node) (es : List ℕ) → is_primitive (kind n) ≡ true → Sound D (ends_column n es)
unfolding Sound
ends_sound D n es e = (refl, go (kind n) e, tt)
  where
    go : (K : Kind) → is_primitive K ≡ true → KindSound D K (node (ends_column n es)) end
    go (primitive w) e = (refl, refl)
    go boolean e = absurd (false≢true e)
    go strings e = absurd (false≢true e)
    go views e = absurd (false≢true e)
    go lists e = absurd (false≢true e)
    go maps e = absurd (false≢true e)
    go structs e = absurd (false≢true e)
    go run_ended e = absurd (false≢true e)
    go (fixed_lists N) e = absurd (false≢true e)
    go unknown e = absurd (false≢true e)

-- A made child is the interleave of the sources' children by the child's pairs.
pub nth_made : (t : Bool) (cs : Columns) (kids : List Columns) (qs : List Pair) (j : ℕ) → j < width cs →
    nth (made_children t cs kids qs) j ≡ interleaved t (nth cs j) (map (λ ks. nth ks j) kids) qs
unfolding interleaved
nth_made t end kids qs j w = absurd (omega arith)
nth_made t (c & cs) kids qs zero w = refl
nth_made t (c & cs) kids qs (suc j) w = nth_made t cs (map rest kids) qs j (omega arith) ∙ ap (λ T. interleaved t (nth cs j) T qs) (rest_kids kids j)

pub nth_runs : (cs : Columns) (ends : List ℕ) (kids : List Columns) (qs : List Pair) → 1 < width cs →
    nth (made_runs cs ends kids qs) 1 ≡ interleaved false (nth cs 1) (map (λ ks. nth ks 1) kids) qs
unfolding interleaved
nth_runs end ends kids qs w = absurd (omega arith)
nth_runs (c & cs) ends kids qs w = nth_made false cs (map rest kids) qs 0 (omega arith) ∙ ap (λ T. interleaved false (nth cs 0) T qs) (rest_kids kids 0)

pub first_runs : (cs : Columns) (ends : List ℕ) (kids : List Columns) (qs : List Pair) → 0 < width cs → first (made_runs cs ends kids qs) ≡ ends_column (node (first cs)) ends
unfolding interleaved
first_runs end ends kids qs w = absurd (omega arith)
first_runs (c & cs) ends kids qs w = refl

width_runs : (cs : Columns) (ends : List ℕ) (kids : List Columns) (qs : List Pair) → width (made_runs cs ends kids qs) ≡ width cs
unfolding interleaved
width_runs end ends kids qs = refl
width_runs (c & cs) ends kids qs = ap suc (made_width false cs (map rest kids) qs)

pub width_made : (b : Bool) (c : Column) (S : List Column) (ps : List Pair) → width (children (interleaved b c S ps)) ≡ width (children c)
unfolding interleaved
width_made b (column n cs) S ps =
    either_kids (λ K ks. width ks ≡ width cs) (kind n) (made_runs cs (run_ends_from 0 (entries S ps)) (map children S) (kept (entries S ps)))
    (made_children (is_list (kind n)) cs (map children S) (child_pairs (kind n) S ps))
    (λ e. made_width (is_list (kind n)) cs (map children S) (child_pairs (kind n) S ps))
    (λ e. width_runs cs (run_ends_from 0 (entries S ps)) (map children S) (kept (entries S ps)))

no_mask : (bs : List Bool) → made_mask false bs ≡ none
no_mask [] = refl
no_mask (b ∷ bs) = refl

any_null_no : (S : List Column) → ((s : ℕ) → s < length S → has_null (node (at S s)) ≡ false) → any_null S ≡ false
any_null_no [] h = refl
any_null_no (c ∷ S) h = or_from (has_null (node c)) (any_null S) (h 0 (omega arith)) (any_null_no S (λ s l. h (suc s) (omega arith)))

mask_none : (m : Option (List Bool)) → m ≡ none → elim m as (λ _. Bool) [ none ↦ false | some bs ↦ Rattle.columns.specs.Masks.some_null bs ] ≡ false
mask_none m e = rw e

rows_are : (t : Bool) (cs : Columns) (kids : List Columns) (qs : List Pair) → RowsAre (length qs) (made_children t cs kids qs)
unfolding interleaved
rows_are t end kids qs = tt
rows_are t (c & cs) kids qs = (rows_made t c (map first kids) qs, rows_are t cs (map rest kids) qs)

module _ (D : ℕ → List ℕ) (c : Column) (S : List Column) (ps : List Pair) (A : Accepted D c S ps) (b : Bool) where
  abbrev kids_made : Kind → Columns
  kids_made K = cond (is_run_ended K) (made_runs (children c) (run_ends_from 0 (entries S ps)) (map children S) (kept (entries S ps)))
      (made_children (is_list K) (children c) (map children S) (child_pairs K S ps))

  first_rows : (t : Bool) (qs : List Pair) → 0 < width (children c) → rows_of (first (made_children t (children c) (map children S) qs)) ≡ length qs
  first_rows t qs w = ap rows_of (nth_made t (children c) (map children S) qs 0 w) ∙ rows_made t (first (children c)) (map (λ ks. nth ks 0) (map children S)) qs

  pub inside_offsets : (K : Kind) → ((s : ℕ) → s < length S → Offsets (node (at S s)).offsets (node (at S s)).rows (rows_of (first (children (at S s))))) →
      Inside D S 0 (gathered (source_ranges lists S) ps)
  inside_offsets K o = inside_list D c S ps A (source_ranges lists S) (λ i l. offsets_within _ _ _ (o (get_or ps i (0, 0)).0 (A.source_known i l)) (get_or ps i (0, 0)).1 (A.row_known i l))

  pub inside_fixed : (N : ℕ) → kind (node c) ≡ fixed_lists N → Inside D S 0 (gathered (source_ranges (fixed_lists N) S) ps)
  inside_fixed N e = inside_list D c S ps A (source_ranges (fixed_lists N) S)
      (λ i l. let y = kind_sound D c S ps A (fixed_lists N) e (get_or ps i (0, 0)).0 (A.source_known i l) in
      let r = mul-le-mul_right N (A.row_known i l) in omega arith)

  kind_made_sound : (K : Kind) → kind (node c) ≡ K → KindSound D K (node c) (children c) → KindSound D K (made_node b K (node c) S ps) (kids_made K)
  kind_made_sound (primitive w) e h = (length-map ps _, made_width false (children c) (map children S) [] ∙ h.1)
  kind_made_sound boolean e h = (length-map ps _, made_width false (children c) (map children S) [] ∙ h.1, unspared (length ps))
  kind_made_sound strings e h = (
    totals_of (λ (q : Pair). offset_length (node (at S q.0)) q.1) ps _
        (sym (laid_length (λ (q : Pair). string_at (node (at S q.0)) q.1) (λ q. offset_length (node (at S q.0)) q.1) ps (0, 0)
        (λ i l. length_of_slice (node (at S (get_or ps i (0, 0)).0)).text _ _
        (offsets_within _ _ _ (kind_sound D c S ps A strings e (get_or ps i (0, 0)).0 (A.source_known i l)).0 (get_or ps i (0, 0)).1 (A.row_known i l))))),
    made_width false (children c) (map children S) [] ∙ h.1,
  )
  kind_made_sound views e h = (
    length-map ps _,
    (λ i l. subst (ViewSound D (once (claims S ps)))
        (sym (get_or-map (λ (q : Pair). placed (once (claims S ps)) (node (at S q.0)).buffers (view_at (node (at S q.0)) q.1)) ps i (0, 0) (short 0 []) l))
        (view_sound D (view_at (node (at S (get_or ps i (0, 0)).0)) (get_or ps i (0, 0)).1) (node (at S (get_or ps i (0, 0)).0)).buffers (claims S ps)
        (λ x k. in_joined (λ (q : Pair). claim (node (at S q.0)).buffers (view_at (node (at S q.0)) q.1)) ps i (0, 0) x l k)
        ((kind_sound D c S ps A views e (get_or ps i (0, 0)).0 (A.source_known i l)).1 (get_or ps i (0, 0)).1 (A.row_known i l)))),
    made_width false (children c) (map children S) [] ∙ h.2,
  )
  kind_made_sound lists e h = (
    totals_of (λ (q : Pair). offset_length (node (at S q.0)) q.1) ps _
        (sym (first_rows true (gathered (source_ranges lists S) ps) (let w = h.1 in omega arith) ∙ gathered_length (source_ranges lists S) ps)),
    made_width true (children c) (map children S) (gathered (source_ranges lists S) ps) ∙ h.1,
  )
  kind_made_sound maps e h = (
    totals_of (λ (q : Pair). offset_length (node (at S q.0)) q.1) ps _ (sym (first_rows false qs w ∙ gathered_length (source_ranges maps S) ps)),
    made_width false (children c) (map children S) qs ∙ h.1,
    ap (λ d. kind (node d)) child ∙ kind_made false (first (children c)) T qs ∙ h.2,
    ap (λ d. width (children d)) child ∙ width_made false (first (children c)) T qs ∙ h.3,
    ap (λ d. has_null (node d)) child ∙ ap has_null (node_made false (first (children c)) T qs)
        ∙ ap (λ x. has_null_of (made_mask x (rows_taken T valid qs))) none_null ∙ ap has_null_of (no_mask (rows_taken T valid qs)),
  )
    where
      qs : List Pair
      qs = gathered (source_ranges maps S) ps

      T : List Column
      T = map (λ ks. nth ks 0) (map children S)

      w : 0 < width (children c)
      w = let z = h.1 in omega arith

      child : first (made_children false (children c) (map children S) qs) ≡ interleaved false (first (children c)) T qs
      child = nth_made false (children c) (map children S) qs 0 w

      has_null_of : Option (List Bool) → Bool
      has_null_of m = elim m [ none ↦ false | some bs ↦ Rattle.columns.specs.Masks.some_null bs ]

      none_null : any_null T ≡ false
      none_null = any_null_no T (λ s l. ap (λ d. has_null (node d)) (at_child D S 0 s) ∙ (kind_sound D c S ps A maps e s (subst (λ n. s < n) (length_kids D S 0) l)).4)
  kind_made_sound structs e h = (rows_are false (children c) (map children S) ps, subst (λ w. w ≤ 255) (sym (made_width false (children c) (map children S) ps)) h.1)
  kind_made_sound run_ended e h = (
    subst₂ (λ es n. Climbs 0 es n) (sym (ends_of_runs (children c) ends (map children S) (kept es) (omega arith))) (length-map ps _) (made_climbs es),
    ap rows_of (nth_runs (children c) ends (map children S) (kept es) (omega arith)) ∙ rows_made false (nth (children c) 1) (map (λ ks. nth ks 1) (map children S)) (kept es)
        ∙ sym (ends_kept 0 es) ∙ sym (ap rows_of one),
    width_runs (children c) ends (map children S) (kept es) ∙ h.2,
    ap (λ d. ends_format (node d).format) one ∙ h.3,
    ap (λ x. made_mask x (rows_taken S valid ps)) (unmasked b (any_null_no S (λ s l. mask_none _ (kind_sound D c S ps A run_ended e s l).4))) ∙ no_mask (rows_taken S valid ps),
    ap (λ d. (node d).mask) one,
  )
    where
      unmasked : (t : Bool) → any_null S ≡ false → needs_mask t run_ended S ps ≡ false
      unmasked true z = z
      unmasked false z = z

      es : List Pair
      es = entries S ps

      ends : List ℕ
      ends = run_ends_from 0 es

      one : first (made_runs (children c) ends (map children S) (kept es)) ≡ ends_column (node (first (children c))) ends
      one = first_runs (children c) ends (map children S) (kept es) (let z = h.2 in omega arith)
  kind_made_sound (fixed_lists N) e h = (
    first_rows true (gathered (source_ranges (fixed_lists N) S) ps) (let w = h.1 in omega arith) ∙ gathered_length (source_ranges (fixed_lists N) S) ps
        ∙ before_fixed N ps (length ps) (omega arith),
    made_width true (children c) (map children S) (gathered (source_ranges (fixed_lists N) S) ps) ∙ h.1,
  )
  kind_made_sound unknown e h = h

  -- what the children's pairs must name, kind by kind
  pub kids_inside : (K : Kind) → kind (node c) ≡ K → KindSound D K (node c) (children c) → is_run_ended K ≡ false → (j : ℕ) → j < width (children c) → Inside D S j (child_pairs K S ps)
  kids_inside (primitive w) e h r j l = absurd (omega arith)
  kids_inside boolean e h r j l = absurd (omega arith)
  kids_inside strings e h r j l = absurd (omega arith)
  kids_inside views e h r j l = absurd (omega arith)
  kids_inside lists e h r j l = subst (λ i. Inside D S i (gathered (source_ranges lists S) ps)) (omega arith) (inside_offsets lists (λ s u. (kind_sound D c S ps A lists e s u).0))
  kids_inside maps e h r j l = subst (λ i. Inside D S i (gathered (source_ranges maps S) ps)) (let z = h.1 in omega arith) (inside_offsets maps (λ s u. (kind_sound D c S ps A maps e s u).0))
  kids_inside structs e h r j l = inside_struct D c S ps A j e l
  kids_inside run_ended e h r j l = absurd (false≢true (sym r))
  kids_inside (fixed_lists N) e h r j l = subst (λ i. Inside D S i (gathered (source_ranges (fixed_lists N) S) ps)) (omega arith) (inside_fixed N e)
  kids_inside unknown e h r j l = absurd h

mutual
  unfolding interleaved Sound

  pub made_sound : (D : ℕ → List ℕ) (b : Bool) (c : Column) (S : List Column) (ps : List Pair) → Accepted D c S ps → Sound D c → Sound D (interleaved b c S ps)
  made_sound D b (column n cs) S ps A s = (
    mask_fills (needs_mask b (kind n) S ps) (rows_taken S valid ps) (length ps) (length-map ps _),
    kind_made_sound D (column n cs) S ps A b (kind n) refl s.1,
    either_kids (λ K ks. EachSound D ks) (kind n) (made_runs cs (run_ends_from 0 (entries S ps)) (map children S) (kept (entries S ps)))
        (made_children (is_list (kind n)) cs (map children S) (child_pairs (kind n) S ps))
        (λ r. each_made_sound D (is_list (kind n)) cs (map children S) (child_pairs (kind n) S ps)
        (λ j l. child_accepted D (column n cs) S ps (child_pairs (kind n) S ps) j A l (kids_inside D (column n cs) S ps A b (kind n) refl s.1 r j l)) s.2)
        (λ e. let y : KindSound D run_ended n cs = subst (λ K. KindSound D K n cs) e s.1 in
        runs_made_sound D cs (run_ends_from 0 (entries S ps)) (map children S) (kept (entries S ps))
        (λ l. child_accepted D (column n cs) S ps (kept (entries S ps)) 1 A l (inside_runs D (column n cs) S ps A e)) (ends_primitive (node (first cs)).format y.3) y.2 s.2),
  )

  each_made_sound : (D : ℕ → List ℕ) (t : Bool) (cs : Columns) (kids : List Columns) (qs : List Pair) → ((j : ℕ) → j < width cs → Accepted D (nth cs j) (map (λ ks. nth ks j) kids) qs) →
      EachSound D cs → EachSound D (made_children t cs kids qs)
  each_made_sound D t end kids qs A s = tt
  each_made_sound D t (c & cs) kids qs A s = (
    made_sound D t c (map first kids) qs (A 0 (omega arith)) s.0,
    each_made_sound D t cs (map rest kids) qs (λ j l. subst (λ T. Accepted D (nth cs j) T qs) (sym (rest_kids kids j)) (A (suc j) (omega arith))) s.1,
  )

  runs_made_sound : (D : ℕ → List ℕ) (cs : Columns) (ends : List ℕ) (kids : List Columns) (qs : List Pair) → (1 < width cs → Accepted D (nth cs 1) (map (λ ks. nth ks 1) kids) qs) →
      is_primitive (kind (node (first cs))) ≡ true → width cs ≡ 2 → EachSound D cs → EachSound D (made_runs cs ends kids qs)
  runs_made_sound D end ends kids qs A e w s = tt
  runs_made_sound D (c & cs) ends kids qs A e w s = (
    ends_sound D (node c) ends e,
    each_made_sound D false cs (map rest kids) qs
        (λ j l. subst (λ i. Accepted D (nth cs i) (map (λ ks. nth ks i) (map rest kids)) qs) (omega arith)
        (subst (λ T. Accepted D (nth cs 0) T qs) (sym (rest_kids kids 0)) (A (omega arith)))) s.1,
  )
