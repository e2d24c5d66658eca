-- Row k of an interleaved column says what pair k's row says.
use Rattle.std.proofs.Common.{◌≡◌, ℕ, zero, suc, ◌+◌, ◌-◌, ◌*◌, ◌<◌, ◌≤◌, Bool, true, false, cond, List, [], ◌∷◌, map, length, get_or, sym, refl, ap, ◌∙◌, subst, ap₂, inl, mul-le-mul_right, zero-add, arith, length-drop, length-take}
use lib.ListN.{length-map}
use Rattle.std.specs.List.{flat_map}
use Rattle.std.proofs.lemmas.List.{get_or-map}
use Rattle.columns.specs.Kinds.{Kind, primitive, boolean, strings, views, lists, maps, structs, run_ended, fixed_lists, unknown, is_run_ended, is_list, is_primitive}
use Rattle.columns.specs.Format.{kind_of}
use Rattle.columns.specs.Column.{View, short, long, Node, Column, Columns, column, end, ◌&◌, node, children, nth, first, rest, width, kind, rows_of, at, view_at}
use Rattle.columns.specs.Masks.{valid}
use Rattle.columns.specs.Says.{Said, null, number, bit, bytes, list, struct, saids, span, slice, says, each_says, kid, row_says, ends_of, entry, offset_length, view_text, string_at}
use Rattle.columns.specs.Gathering.{Pair, Ranges, row_range, gathered, sizes}
use Rattle.columns.specs.Claims.{In, claim, once, placed}
use Rattle.columns.specs.Runs.{kept, entries, run_ends_from}
use Rattle.columns.specs.Interleave.{interleaved, made_children, made_runs, made_node, source_ranges, child_pairs, claims, interleave}
use Rattle.columns.specs.Sound.{KindSound, Offsets, Climbs, RowsAre}
use Rattle.columns.specs.Promises.{RowsFollowPairs, Accepted}
use Rattle.columns.proofs.Formats.{ends_primitive}
use Rattle.columns.proofs.Gather.{before, before_fixed, laid_at, total_start, total_size, range_length, gathered_row}
use Rattle.columns.proofs.Mask.{valid_made}
use Rattle.columns.proofs.Buffer.{in_joined, in_once, place_at}
use Rattle.columns.proofs.Run.{kept_entry, run_ends_climb}
use Rattle.columns.proofs.Tree.{same_format, same_width, says_is, kid_is, kid_says, sound_kind, sound_child, Inside, at_children, at_nth, child_accepted, rest_kids, rest_at, made_width, node_made}
use Rattle.columns.proofs.Every.{every_at, every_map, every_gathered, every_kept, entry_known, ends_kept}

-- Offsets that never fall: every range ends within.
offsets_up : (os : List ℕ) (rows bound : ℕ) → Offsets os rows bound → (n i : ℕ) → i + n ≡ rows → get_or os i 0 ≤ bound
offsets_up os rows bound o zero i e = let z = o.end_within in subst (λ r. get_or os r 0 ≤ bound) (omega arith) z
offsets_up os rows bound o (suc n) i e = let z = o.never_fall i (omega arith) in let y : get_or os (i + 1) 0 ≤ bound = offsets_up os rows bound o n (i + 1) (omega arith) in omega arith

pub offsets_within : (os : List ℕ) (rows bound : ℕ) → Offsets os rows bound → (i : ℕ) → i < rows → get_or os i 0 + (get_or os (i + 1) 0 - get_or os i 0) ≤ bound
offsets_within os rows bound o i h =
    let z = o.never_fall i h in let y : get_or os (i + 1) 0 ≤ bound = offsets_up os rows bound o (rows - (i + 1)) (i + 1) (omega arith) in omega arith

pub length_of_slice : {X : Type 0} (xs : List X) (a n : ℕ) → a + n ≤ length xs → length (slice xs a n) ≡ n
length_of_slice xs a n h = simp (length-take, length-drop) (omega arith)

same_kids : (D : ℕ → List ℕ) (cs ds : Columns) (k r : ℕ) → width cs ≡ width ds → ((j : ℕ) → j < width cs → says D (nth cs j) k ≡ says D (nth ds j) r) →
    map (λ f. f k) (each_says D cs) ≡ map (λ f. f r) (each_says D ds)
unfolding says
same_kids D end end k r w e = refl
same_kids D end (d & ds) k r w e = absurd (omega arith)
same_kids D (c & cs) end k r w e = absurd (omega arith)
same_kids D (c & cs) (d & ds) k r w e = ap₂ {C = List Said} (λ x xs. x ∷ xs) (e 0 (omega arith)) (same_kids D cs ds k r (omega arith) (λ j l. e (suc j) (omega arith)))

pub rows_nth : (r : ℕ) (cs : Columns) (j : ℕ) → j < width cs → RowsAre r cs → rows_of (nth cs j) ≡ r
rows_nth r end j l h = absurd (omega arith)
rows_nth r (c & cs) zero l h = h.0
rows_nth r (c & cs) (suc j) l h = rows_nth r cs j (omega arith) h.1

pub primitive_fills : (D : ℕ → List ℕ) (K : Kind) (n : Node) (cs : Columns) → is_primitive K ≡ true → KindSound D K n cs → length n.values ≡ n.rows
primitive_fills D (primitive w) n cs e h = h.0
primitive_fills D boolean n cs e h = cc
primitive_fills D strings n cs e h = cc
primitive_fills D views n cs e h = cc
primitive_fills D lists n cs e h = cc
primitive_fills D maps n cs e h = cc
primitive_fills D structs n cs e h = cc
primitive_fills D run_ended n cs e h = cc
primitive_fills D (fixed_lists N) n cs e h = cc
primitive_fills D unknown n cs e h = cc

pub made_climbs : (es : List Pair) → Climbs 0 (run_ends_from 0 es) (length es)
made_climbs [] = refl
made_climbs (x ∷ xs) = subst (λ n. Climbs 0 (run_ends_from 0 (x ∷ xs)) n) (zero-add (suc (length xs))) (run_ends_climb 0 0 x xs (omega arith))

module _ (D : ℕ → List ℕ) (c : Column) (S : List Column) (ps : List Pair) (A : Accepted D c S ps) where
  src : ℕ → ℕ
  src k = (get_or ps k (0, 0)).0

  row : ℕ → ℕ
  row k = (get_or ps k (0, 0)).1

  pub source_kind : (s : ℕ) → s < length S → kind (node (at S s)) ≡ kind (node c)
  source_kind s h = ap kind_of (sym (same_format c (at S s) (A.same s h)))

  pub kind_sound : (K : Kind) → kind (node c) ≡ K → (s : ℕ) → s < length S → KindSound D K (node (at S s)) (children (at S s))
  kind_sound K e s h = subst (λ K. KindSound D K (node (at S s)) (children (at S s))) (source_kind s h ∙ e) (sound_kind D (at S s) (A.sound s h))

  pub inside_struct : (j : ℕ) → kind (node c) ≡ structs → j < width (children c) → Inside D S j ps
  inside_struct j e l m h =
      let k = A.source_known m h in (
        k,
        subst (λ r. (get_or ps m (0, 0)).1 < r) (sym (rows_nth _ (children (at S (get_or ps m (0, 0)).0)) j (subst (λ w. j < w) (same_width c (at S (get_or ps m (0, 0)).0) (A.same _ k)) l) (kind_sound structs e (get_or ps m (0, 0)).0 k).0))
            (A.row_known m h),
      )

  -- every list kind's range ends within the child
  pub inside_list : (R : ℕ → Ranges) →
      ((k : ℕ) → k < length ps → (R (get_or ps k (0, 0)).0).start (get_or ps k (0, 0)).1 + (R (get_or ps k (0, 0)).0).size (get_or ps k (0, 0)).1 ≤ rows_of (first (children (at S (get_or ps k (0, 0)).0)))) →
      Inside D S 0 (gathered R ps)
  inside_list R w m h =
      every_at (λ q. (q.0 < length S) × (q.1 < rows_of (nth (children (at S q.0)) 0))) (gathered R ps) (0, 0)
      (every_gathered (λ q. (q.0 < length S) × (q.1 < rows_of (nth (children (at S q.0)) 0))) R ps (λ k l j lo hi. (A.source_known k l, (let z = w k l in omega arith)))) m h

  pub inside_runs : kind (node c) ≡ run_ended → Inside D S 1 (kept (entries S ps))
  inside_runs e m h =
      every_at P (kept (entries S ps)) (0, 0) (every_kept P (entries S ps) (every_map P (λ p. (p.0, entry (ends_of (children (at S p.0))) p.1)) ps (0, 0) good)) m h
    where
      P : Pair → Type 0
      P q = (q.0 < length S) × (q.1 < rows_of (nth (children (at S q.0)) 1))

      good : (k : ℕ) → k < length ps → P ((get_or ps k (0, 0)).0, entry (ends_of (children (at S (get_or ps k (0, 0)).0))) (get_or ps k (0, 0)).1)
      good k l =
          let s : ℕ = (get_or ps k (0, 0)).0 in
          let b : s < length S = A.source_known k l in
          let y : KindSound D run_ended (node (at S s)) (children (at S s)) = kind_sound run_ended e s b in
          let f : length (ends_of (children (at S s))) ≡ rows_of (first (children (at S s))) = primitive_fills D _ _ _ (ends_primitive (node (first (children (at S s)))).format y.3) (sound_kind D (first (children (at S s))) (sound_child D (at S s) 0 (let w : width (children (at S s)) ≡ 2 = y.2 in omega arith) (A.sound s b))) in
          let z = entry_known 0 (ends_of (children (at S s))) (node (at S s)).rows (get_or ps k (0, 0)).1 y.0 (omega arith) (A.row_known k l) in
          let e1 : rows_of (nth (children (at S s)) 1) ≡ rows_of (first (children (at S s))) = y.1 in
          (b, omega arith)

-- One row, kind by kind, given that the children's rows follow their pairs.
module _ (D : ℕ → List ℕ) (c : Column) (S : List Column) (ps : List Pair) (A : Accepted D c S ps) (b : Bool) (k : ℕ) (h : k < length ps)
    (children_follow : (t : Bool) (qs : List Pair) (j : ℕ) → j < width (children c) → Inside D S j qs → (m : ℕ) → m < length qs →
    says D (nth (made_children t (children c) (map children S) qs) j) m ≡ says D (nth (children (at S (get_or qs m (0, 0)).0)) j) (get_or qs m (0, 0)).1)
    (runs_follow : (ends : List ℕ) (qs : List Pair) → 1 < width (children c) → Inside D S 1 qs → (m : ℕ) → m < length qs →
    says D (nth (made_runs (children c) ends (map children S) qs) 1) m ≡ says D (nth (children (at S (get_or qs m (0, 0)).0)) 1) (get_or qs m (0, 0)).1) where
  abbrev p : Pair
  p = get_or ps k (0, 0)

  abbrev from : Node
  from = node (at S p.0)

  abbrev below : Columns
  below = children (at S p.0)

  known : p.0 < length S
  known = A.source_known k h

  list_says : (K : Kind) (t : Bool) (a n : ℕ) → 0 < width (children c) → a ≡ before (sizes (source_ranges K S) ps) k → n ≡ (source_ranges K S p.0).size p.1 →
      Inside D S 0 (gathered (source_ranges K S) ps) →
      map (kid (each_says D (made_children t (children c) (map children S) (gathered (source_ranges K S) ps))) 0) (span a n)
      ≡ map (kid (each_says D below) 0) (span ((source_ranges K S p.0).start p.1) ((source_ranges K S p.0).size p.1))
  list_says K t a n w ea en i =
      gathered_row (source_ranges K S) ps k a n h ea en
      (kid (each_says D (made_children t (children c) (map children S) (gathered (source_ranges K S) ps))) 0)
      (λ q. says D (nth (children (at S q.0)) 0) q.1)
      (λ m l. kid_is D (made_children t (children c) (map children S) (gathered (source_ranges K S) ps)) 0 m ∙ children_follow t (gathered (source_ranges K S) ps) 0 w i m l)
      ∙ ap (λ f. map f (span ((source_ranges K S p.0).start p.1) ((source_ranges K S p.0).size p.1))) (sym (kid_says D below 0))

  string_length : kind (node c) ≡ strings → (i : ℕ) → i < length ps → length (string_at (node (at S (get_or ps i (0, 0)).0)) (get_or ps i (0, 0)).1) ≡ offset_length (node (at S (get_or ps i (0, 0)).0)) (get_or ps i (0, 0)).1
  string_length e i l =
      let s : ℕ = (get_or ps i (0, 0)).0 in
      let y = kind_sound D c S ps A strings e s (A.source_known i l) in
      length_of_slice (node (at S s)).text _ _ (offsets_within (node (at S s)).offsets (node (at S s)).rows _ y.0 (get_or ps i (0, 0)).1 (A.row_known i l))

  view_says : (v : View) (bs cs : List ℕ) → ((x : ℕ) → In x (claim bs v) → In x cs) → view_text D (once cs) (placed (once cs) bs v) ≡ view_text D bs v
  view_says (short len inline) bs cs f = refl
  view_says (long len prefix position offset) bs cs f =
      ap (λ x. slice (D x) offset len) (place_at (get_or bs position 0) (once cs) (in_once (get_or bs position 0) cs (f (get_or bs position 0) (inl refl))))

  abbrev made_kids : Kind → Columns
  made_kids K = cond (is_run_ended K) (made_runs (children c) (run_ends_from 0 (entries S ps)) (map children S) (kept (entries S ps)))
      (made_children (is_list K) (children c) (map children S) (child_pairs K S ps))

  ends_made : (cs : Columns) (ends : List ℕ) (kids : List Columns) (qs : List Pair) → 0 < width cs → ends_of (made_runs cs ends kids qs) ≡ ends
  unfolding interleaved
  ends_made end ends kids qs w = absurd (omega arith)
  ends_made (x & cs) ends kids qs w = refl

  abbrev Step : Kind → Type 0
  Step K = row_says D K (made_node b K (node c) S ps) (ends_of (made_kids K)) (each_says D (made_kids K)) k ≡ row_says D K from (ends_of below) (each_says D below) p.1

  one_child : (K : Kind) → ((s : ℕ) → s < length S → width (children (at S s)) ≡ 1) → 0 < width (children c)
  one_child K w = let e = same_width c (at S p.0) (A.same p.0 known) in let z = w p.0 known in omega arith

  step_fixed : (N : ℕ) → kind (node c) ≡ fixed_lists N → Step (fixed_lists N)
  step_fixed N e =
      ap (λ xs. list (saids xs))
      (list_says (fixed_lists N) true (k * N) N (one_child (fixed_lists N) (λ s l. (kind_sound D c S ps A (fixed_lists N) e s l).1))
      (sym (before_fixed N ps k (omega arith))) refl
      (inside_list D c S ps A (source_ranges (fixed_lists N) S)
      (λ i l. let y = kind_sound D c S ps A (fixed_lists N) e (get_or ps i (0, 0)).0 (A.source_known i l) in
      let r = mul-le-mul_right N (A.row_known i l) in omega arith)))

  step_runs : kind (node c) ≡ run_ended → Step run_ended
  step_runs e =
      let w0 : width below ≡ 2 = (kind_sound D c S ps A run_ended e p.0 known).2 in
      let w1 = same_width c (at S p.0) (A.same p.0 known) in
      let w : 1 < width (children c) = omega arith in
      let es : List Pair = entries S ps in
      let l : k < length es = rw length-map h in
      let made : Columns = made_runs (children c) (run_ends_from 0 es) (map children S) (kept es) in
      let m : ℕ = entry (run_ends_from 0 es) k in
      let ended : entry (ends_of made) k ≡ m = ap (λ x. entry x k) (ends_made (children c) (run_ends_from 0 es) (map children S) (kept es) (omega arith)) in
      let climbs : Climbs 0 (run_ends_from 0 es) (length es) = made_climbs es in
      let z : m < length (run_ends_from 0 es) = entry_known 0 (run_ends_from 0 es) (length es) k climbs (omega arith) l in
      let y : m < length (kept es) = subst (λ x. m < x) (ends_kept 0 es) z in
      let at_entry : get_or (kept es) m (0, 0) ≡ (p.0, entry (ends_of below) p.1) =
      subst (λ x. get_or (kept es) (entry (run_ends_from 0 es) x) (0, 0) ≡ get_or es k (0, 0)) (zero-add k) (kept_entry 0 es k l)
      ∙ get_or-map (λ (q : Pair). (q.0, entry (ends_of (children (at S q.0))) q.1)) ps k (0, 0) (0, 0) h in
      kid_is D made 1 (entry (ends_of made) k)
      ∙ ap (says D (nth made 1)) ended
      ∙ runs_follow (run_ends_from 0 es) (kept es) w (inside_runs D c S ps A e) m y
      ∙ ap (λ (q : Pair). says D (nth (children (at S q.0)) 1) q.1) at_entry
      ∙ sym (kid_is D below 1 (entry (ends_of below) p.1))

  step : (K : Kind) → kind (node c) ≡ K → Step K
  step (primitive w) e = ap (number w) (get_or-map (λ (q : Pair). get_or (node (at S q.0)).values q.1 0) ps k (0, 0) 0 h)
  step boolean e = ap bit (get_or-map (λ (q : Pair). get_or (node (at S q.0)).bits q.1 false) ps k (0, 0) false h)
  step strings e =
      ap bytes
      (ap₂ (λ x y. slice (flat_map (λ (q : Pair). string_at (node (at S q.0)) q.1) ps) x y)
      (total_start (λ (q : Pair). string_at (node (at S q.0)) q.1) (λ q. offset_length (node (at S q.0)) q.1) ps (0, 0) (string_length e) k h)
      (total_size (λ (q : Pair). string_at (node (at S q.0)) q.1) (λ q. offset_length (node (at S q.0)) q.1) ps (0, 0) (string_length e) k h)
      ∙ laid_at (λ (q : Pair). string_at (node (at S q.0)) q.1) (λ q. offset_length (node (at S q.0)) q.1) ps (0, 0) (string_length e) k h)
  step views e =
      ap bytes
      (ap (view_text D (once (claims S ps))) (get_or-map (λ (q : Pair). placed (once (claims S ps)) (node (at S q.0)).buffers (view_at (node (at S q.0)) q.1)) ps k (0, 0) (short 0 []) h)
      ∙ view_says (view_at from p.1) from.buffers (claims S ps)
      (λ x i. in_joined (λ (q : Pair). claim (node (at S q.0)).buffers (view_at (node (at S q.0)) q.1)) ps k (0, 0) x h i))
  step lists e =
      ap (λ xs. list (saids xs))
      (list_says lists true _ _ (one_child lists (λ s l. (kind_sound D c S ps A lists e s l).1))
      (total_start (row_range (source_ranges lists S)) (λ q. offset_length (node (at S q.0)) q.1) ps (0, 0) (λ i l. range_length (source_ranges lists S) ps (get_or ps i (0, 0))) k h)
      (total_size (row_range (source_ranges lists S)) (λ q. offset_length (node (at S q.0)) q.1) ps (0, 0) (λ i l. range_length (source_ranges lists S) ps (get_or ps i (0, 0))) k h)
      (inside_list D c S ps A (source_ranges lists S)
      (λ i l. offsets_within _ _ _ (kind_sound D c S ps A lists e (get_or ps i (0, 0)).0 (A.source_known i l)).0 (get_or ps i (0, 0)).1 (A.row_known i l))))
  step maps e =
      ap (λ xs. list (saids xs))
      (list_says maps false _ _ (one_child maps (λ s l. (kind_sound D c S ps A maps e s l).1))
      (total_start (row_range (source_ranges maps S)) (λ q. offset_length (node (at S q.0)) q.1) ps (0, 0) (λ i l. range_length (source_ranges maps S) ps (get_or ps i (0, 0))) k h)
      (total_size (row_range (source_ranges maps S)) (λ q. offset_length (node (at S q.0)) q.1) ps (0, 0) (λ i l. range_length (source_ranges maps S) ps (get_or ps i (0, 0))) k h)
      (inside_list D c S ps A (source_ranges maps S)
      (λ i l. offsets_within _ _ _ (kind_sound D c S ps A maps e (get_or ps i (0, 0)).0 (A.source_known i l)).0 (get_or ps i (0, 0)).1 (A.row_known i l))))
  step structs e =
      ap (λ xs. struct (saids xs))
      (same_kids D (made_children false (children c) (map children S) ps) below k p.1
      (made_width false (children c) (map children S) ps ∙ same_width c (at S p.0) (A.same p.0 known))
      (λ j l. let z = subst (λ x. j < x) (made_width false (children c) (map children S) ps) l in
      children_follow false ps j z (inside_struct D c S ps A j e z) k h))
  step run_ended e = step_runs e
  step (fixed_lists N) e = step_fixed N e
  step unknown e = refl

mutual
  unfolding interleaved says

  pub rows_follow : (D : ℕ → List ℕ) (b : Bool) (c : Column) (S : List Column) (ps : List Pair) → Accepted D c S ps → (k : ℕ) → k < length ps →
      says D (interleaved b c S ps) k ≡ says D (at S (get_or ps k (0, 0)).0) (get_or ps k (0, 0)).1
  rows_follow D b (column n cs) S ps A k h =
      ap₂ (λ v x. cond v x null) (valid_made b (kind n) n S ps k h)
      (step D (column n cs) S ps A b k h
      (λ t qs j w i m l. each_follows D t cs (map children S) qs j w (child_accepted D (column n cs) S ps qs j A w i) m l
      ∙ ap (λ ks. says D (nth ks j) (get_or qs m (0, 0)).1) (at_children D S (get_or qs m (0, 0)).0))
      (λ ends qs w i m l. runs_follow D cs ends (map children S) qs w (child_accepted D (column n cs) S ps qs 1 A w i) m l
      ∙ ap (λ ks. says D (nth ks 1) (get_or qs m (0, 0)).1) (at_children D S (get_or qs m (0, 0)).0))
      (kind n) refl)
      ∙ ap (λ K. cond (valid (node (at S (get_or ps k (0, 0)).0)) (get_or ps k (0, 0)).1) (row_says D K (node (at S (get_or ps k (0, 0)).0)) (ends_of (children (at S (get_or ps k (0, 0)).0))) (each_says D (children (at S (get_or ps k (0, 0)).0))) (get_or ps k (0, 0)).1) null)
      (sym (source_kind D (column n cs) S ps A (get_or ps k (0, 0)).0 (A.source_known k h)))
      ∙ sym (says_is D (at S (get_or ps k (0, 0)).0) (get_or ps k (0, 0)).1)

  each_follows : (D : ℕ → List ℕ) (t : Bool) (cs : Columns) (kids : List Columns) (qs : List Pair) (j : ℕ) → j < width cs → Accepted D (nth cs j) (map (λ ks. nth ks j) kids) qs →
      (m : ℕ) → m < length qs → says D (nth (made_children t cs kids qs) j) m ≡ says D (nth (get_or kids (get_or qs m (0, 0)).0 end) j) (get_or qs m (0, 0)).1
  each_follows D t end kids qs j w A m l = absurd (omega arith)
  each_follows D t (c & cs) kids qs zero w A m l =
      rows_follow D t c (map first kids) qs A m l ∙ ap (λ d. says D d (get_or qs m (0, 0)).1) (at_nth D kids 0 (get_or qs m (0, 0)).0)
  each_follows D t (c & cs) kids qs (suc j) w A m l =
      each_follows D t cs (map rest kids) qs j (omega arith) (subst (λ T. Accepted D (nth cs j) T qs) (sym (rest_kids kids j)) A) m l
      ∙ ap (λ d. says D d (get_or qs m (0, 0)).1) (rest_at kids (get_or qs m (0, 0)).0 j)

  runs_follow : (D : ℕ → List ℕ) (cs : Columns) (ends : List ℕ) (kids : List Columns) (qs : List Pair) → 1 < width cs → Accepted D (nth cs 1) (map (λ ks. nth ks 1) kids) qs →
      (m : ℕ) → m < length qs → says D (nth (made_runs cs ends kids qs) 1) m ≡ says D (nth (get_or kids (get_or qs m (0, 0)).0 end) 1) (get_or qs m (0, 0)).1
  runs_follow D end ends kids qs w A m l = absurd (omega arith)
  runs_follow D (c & cs) ends kids qs w A m l =
      each_follows D false cs (map rest kids) qs 0 (omega arith) (subst (λ T. Accepted D (nth cs 0) T qs) (sym (rest_kids kids 0)) A) m l
      ∙ ap (λ d. says D d (get_or qs m (0, 0)).1) (rest_at kids (get_or qs m (0, 0)).0 0)

pub rows_follow_pairs : RowsFollowPairs
rows_follow_pairs D S ps A = (made_rows, λ k h. rows_follow D false (at S 0) S ps A k h)
  where
    made_rows : rows_of (interleave S ps) ≡ length ps
    made_rows = ap (λ (n : Node). n.rows) (node_made false (at S 0) S ps)
