-- Every made row takes what its pair's row holds, under a null too.
use Rattle.std.proofs.Common.{◌≡◌, ℕ, suc, ◌<◌, Bool, true, false, cond, List, [], map, length, get_or, sym, refl, ap, ◌∙◌, subst, ap₂, arith}
use Rattle.std.specs.List.{flat_map}
use Rattle.std.proofs.lemmas.List.{get_or-map}
use Rattle.columns.specs.Kinds.{Kind, primitive, boolean, strings, views, lists, maps, structs, run_ended, fixed_lists, unknown, is_run_ended, is_list}
use Rattle.columns.specs.Column.{short, Node, Column, Columns, column, end, ◌&◌, node, children, nth, first, rest, width, kind, at, view_at}
use Rattle.columns.specs.Says.{slice, offset_length, string_at}
use Rattle.columns.specs.Gathering.{Pair}
use Rattle.columns.specs.Claims.{claim, once, placed}
use Rattle.columns.specs.Runs.{kept, entries, run_ends_from}
use Rattle.columns.specs.Interleave.{interleaved, made_children, made_runs, made_node, child_pairs, claims, source_ranges}
use Rattle.columns.specs.Sound.{Sound, EachSound, KindSound}
use Rattle.columns.specs.Promises.{Accepted}
use Rattle.columns.specs.Laws.{Law, AtEveryDepth, AtEveryChild, AtRunValues, value, flag, string, view, child_rows, by_number, held, RowLaw, RowsTakeWhatIsHeld}
use Rattle.columns.proofs.Gather.{laid_at, total_start, total_size}
use Rattle.columns.proofs.Mask.{valid_made}
use Rattle.columns.proofs.Buffer.{in_joined}
use Rattle.columns.proofs.Tree.{child_accepted, rest_kids}
use Rattle.columns.proofs.Rows.{offsets_within, length_of_slice, kind_sound, inside_runs}
use Rattle.columns.proofs.Made.{kids_inside}
use Rattle.columns.proofs.Follow.{made_size}
use Rattle.columns.proofs.Chain.{by_number_placed}

abbrev KidsAccepted : (ℕ → List ℕ) → Columns → List Columns → List Pair → Type 0
KidsAccepted D cs kids qs = (j : ℕ) → j < width cs → Accepted D (nth cs j) (map (λ ks. nth ks j) kids) qs

-- A law that asks for accepted pairs holds at every depth, since the children's pairs are accepted too.
one_way : (P Q : Columns → Type 0) (t : Bool) (x y : Columns) → (t ≡ true → P x) → (t ≡ false → Q y) → cond t (P (cond t x y)) (Q (cond t x y))
one_way P Q true x y p q = p refl
one_way P Q false x y p q = q refl

run_ended_kind : (K : Kind) → is_run_ended K ≡ true → K ≡ run_ended
run_ended_kind (primitive w) e = cc
run_ended_kind boolean e = cc
run_ended_kind strings e = cc
run_ended_kind views e = cc
run_ended_kind lists e = cc
run_ended_kind maps e = cc
run_ended_kind structs e = cc
run_ended_kind run_ended e = refl
run_ended_kind (fixed_lists N) e = cc
run_ended_kind unknown e = cc

module _ (D : ℕ → List ℕ) (L : Law) (law : (b : Bool) (c : Column) (S : List Column) (ps : List Pair) → Accepted D c S ps → L b (interleaved b c S ps) S ps) where
  mutual
    unfolding interleaved AtEveryDepth Sound

    everywhere_accepted : (b : Bool) (c : Column) (S : List Column) (ps : List Pair) → Accepted D c S ps → Sound D c → AtEveryDepth L b (interleaved b c S ps) c S ps
    everywhere_accepted b (column n cs) S ps A s = (
      law b (column n cs) S ps A,
      one_way (λ ks. AtRunValues L ks cs (map children S) (kept (entries S ps))) (λ ks. AtEveryChild L (is_list (kind n)) ks cs (map children S) (child_pairs (kind n) S ps)) (is_run_ended (kind n))
          (made_runs cs (run_ends_from 0 (entries S ps)) (map children S) (kept (entries S ps)))
          (made_children (is_list (kind n)) cs (map children S) (child_pairs (kind n) S ps))
          (λ r.
          let e : kind n ≡ run_ended = run_ended_kind (kind n) r in
          let y : KindSound D run_ended n cs = subst (λ K. KindSound D K n cs) e s.1 in
          runs cs (run_ends_from 0 (entries S ps)) (map children S) (kept (entries S ps)) (λ w. child_accepted D (column n cs) S ps (kept (entries S ps)) 1 A w (inside_runs D (column n cs) S ps A e)) y.2 s.2)
          (λ r. each (is_list (kind n)) cs (map children S) (child_pairs (kind n) S ps)
          (λ j w. child_accepted D (column n cs) S ps (child_pairs (kind n) S ps) j A w (kids_inside D (column n cs) S ps A b (kind n) refl s.1 r j w)) s.2),
    )

    each : (t : Bool) (cs : Columns) (kids : List Columns) (qs : List Pair) → KidsAccepted D cs kids qs → EachSound D cs → AtEveryChild L t (made_children t cs kids qs) cs kids qs
    each t end kids qs A s = tt
    each t (c & cs) kids qs A s = (
      everywhere_accepted t c (map first kids) qs (A 0 (omega arith)) s.0,
      each t cs (map rest kids) qs (λ j w. subst (λ T. Accepted D (nth cs j) T qs) (sym (rest_kids kids j)) (A (suc j) (omega arith))) s.1,
    )

    runs : (cs : Columns) (ends : List ℕ) (kids : List Columns) (qs : List Pair) → (1 < width cs → Accepted D (nth cs 1) (map (λ ks. nth ks 1) kids) qs) → width cs ≡ 2 → EachSound D cs →
        AtRunValues L (made_runs cs ends kids qs) cs kids qs
    runs end ends kids qs A w s = tt
    runs (c & cs) ends kids qs A w s =
        each false cs (map rest kids) qs
        (λ j m. subst (λ i. Accepted D (nth cs i) (map (λ ks. nth ks i) (map rest kids)) qs) (omega arith) (subst (λ T. Accepted D (nth cs 0) T qs) (sym (rest_kids kids 0)) (A (omega arith)))) s.1

module _ (D : ℕ → List ℕ) (c : Column) (S : List Column) (ps : List Pair) (A : Accepted D c S ps) (b : Bool) (k : ℕ) (l : k < length ps) where
  abbrev p : Pair
  p = get_or ps k (0, 0)

  abbrev from : Node
  from = node (at S p.0)

  row_string : kind (node c) ≡ strings → string_at (made_node b strings (node c) S ps) k ≡ string_at from p.1
  row_string e =
      ap₂ (λ x y. slice (flat_map (λ (q : Pair). string_at (node (at S q.0)) q.1) ps) x y) (total_start its_string its_length ps (0, 0) long k l) (total_size its_string its_length ps (0, 0) long k l)
      ∙ laid_at its_string its_length ps (0, 0) long k l
    where
      its_string : Pair → List ℕ
      its_string q = string_at (node (at S q.0)) q.1

      its_length : Pair → ℕ
      its_length q = offset_length (node (at S q.0)) q.1

      long : (i : ℕ) → i < length ps → length (its_string (get_or ps i (0, 0))) ≡ its_length (get_or ps i (0, 0))
      long i m =
          length_of_slice (node (at S (get_or ps i (0, 0)).0)).text _ _
          (offsets_within _ _ _ (kind_sound D c S ps A strings e (get_or ps i (0, 0)).0 (A.source_known i m)).0 (get_or ps i (0, 0)).1 (A.row_known i m))

  held_made : (K : Kind) → kind (node c) ≡ K → held K (made_node b K (node c) S ps) k ≡ held K from p.1
  held_made (primitive w) e = ap value (get_or-map (λ (q : Pair). get_or (node (at S q.0)).values q.1 0) ps k (0, 0) 0 l)
  held_made boolean e = ap flag (get_or-map (λ (q : Pair). get_or (node (at S q.0)).bits q.1 false) ps k (0, 0) false l)
  held_made strings e = ap string (row_string e)
  held_made views e =
      ap view (ap (by_number (once (claims S ps))) (get_or-map (λ (q : Pair). placed (once (claims S ps)) (node (at S q.0)).buffers (view_at (node (at S q.0)) q.1)) ps k (0, 0) (short 0 []) l)
      ∙ by_number_placed (view_at from p.1) from.buffers (claims S ps) (λ x i. in_joined (λ (q : Pair). claim (node (at S q.0)).buffers (view_at (node (at S q.0)) q.1)) ps k (0, 0) x l i))
  held_made lists e = ap child_rows (made_size (source_ranges lists S) ps k l)
  held_made maps e = ap child_rows (made_size (source_ranges maps S) ps k l)
  held_made structs e = refl
  held_made run_ended e = refl
  held_made (fixed_lists N) e = refl
  held_made unknown e = refl

row_law : (D : ℕ → List ℕ) (b : Bool) (c : Column) (S : List Column) (ps : List Pair) → Accepted D c S ps → RowLaw b (interleaved b c S ps) S ps
unfolding interleaved
row_law D b (column n cs) S ps A k l = (valid_made b (kind n) n S ps k l, held_made D (column n cs) S ps A b k l (kind n) refl)

pub rows_take_what_is_held : RowsTakeWhatIsHeld
rows_take_what_is_held D S ps h A = everywhere_accepted D RowLaw (row_law D) false (at S 0) S ps A (A.sound 0 h)
