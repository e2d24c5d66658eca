-- A made column lists shelved buffers only, where its sources do.
use Rattle.std.proofs.Common.{◌≡◌, ℕ, suc, ◌<◌, Bool, true, false, cond, eqb, List, [], ◌∷◌, map, get_or, sym, refl, subst, arith}
use lib.ListN.{get_or-map}
use Rattle.std.specs.List.{AllByRecursion}
use Rattle.std.proofs.ByRecursion.{All-get_or}
use Rattle.columns.specs.Kinds.{Kind, primitive, boolean, strings, views, lists, maps, structs, run_ended, fixed_lists, unknown, is_list}
use Rattle.columns.specs.Column.{View, short, long, Column, Columns, column, end, ◌&◌, node, children, nth, first, rest, width, nothing, kind, at, view_at}
use Rattle.columns.specs.Gathering.{Pair}
use Rattle.columns.specs.Claims.{claim, once, without}
use Rattle.columns.specs.Runs.{kept, entries, run_ends_from}
use Rattle.columns.specs.Interleave.{interleaved, made_children, made_runs, made_buffers, child_pairs, claims}
use Rattle.columns.specs.Sound.{Sound, EachSound, KindSound, ViewSound, ListsShelved, EachListsShelved}
use Rattle.columns.specs.Promises.{Accepted}
use Rattle.columns.proofs.Tree.{at_children, child_accepted, rest_kids, at_nth}
use Rattle.columns.proofs.Rows.{kind_sound, inside_runs}
use Rattle.columns.proofs.Made.{either_kids, kids_inside}
use Rattle.columns.proofs.Widths.{all_joined}

all_without : (P : ℕ → Type 0) (b : ℕ) (xs : List ℕ) → AllByRecursion P xs → AllByRecursion P (without b xs)
all_without P b [] h = tt
all_without P b (x ∷ xs) h = go (eqb b x) (all_without P b xs h.1)
  where
    go : (t : Bool) → AllByRecursion P (without b xs) → AllByRecursion P (cond t (without b xs) (x ∷ without b xs))
    go true r = r
    go false r = (h.0, r)

all_once : (P : ℕ → Type 0) (xs : List ℕ) → AllByRecursion P xs → AllByRecursion P (once xs)
all_once P [] h = tt
all_once P (x ∷ xs) h = (h.0, all_without P x (once xs) (all_once P xs h.1))

claim_below : (D : ℕ → List ℕ) (many : ℕ) (bs : List ℕ) (v : View) → ViewSound D bs v → AllByRecursion (λ b. b < many) bs → AllByRecursion (λ b. b < many) (claim bs v)
claim_below D many bs (short len inline) s h = tt
claim_below D many bs (long len prefix position offset) s h = (All-get_or (λ b. b < many) bs position 0 s.1 h, tt)

module _ (many : ℕ) where
  pub lists_nothing : ListsShelved many nothing
  unfolding ListsShelved
  lists_nothing = (tt, tt)

  own_list : (c : Column) → ListsShelved many c → AllByRecursion (λ b. b < many) (node c).buffers
  unfolding ListsShelved
  own_list (column n cs) h = h.0

  kids_list : (c : Column) → ListsShelved many c → EachListsShelved many (children c)
  unfolding ListsShelved
  kids_list (column n cs) h = h.1

  first_lists : (ks : Columns) → EachListsShelved many ks → ListsShelved many (first ks)
  unfolding ListsShelved
  first_lists end h = lists_nothing
  first_lists (c & cs) h = h.0

  rest_lists : (ks : Columns) → EachListsShelved many ks → EachListsShelved many (rest ks)
  unfolding ListsShelved
  rest_lists end h = tt
  rest_lists (c & cs) h = h.1

  sources_first : (D : ℕ → List ℕ) (kids : List Columns) → ((s : ℕ) → EachListsShelved many (get_or kids s end)) → (s : ℕ) → ListsShelved many (at (map first kids) s)
  sources_first D kids F s = subst (ListsShelved many) (sym (at_nth D kids 0 s)) (first_lists (get_or kids s end) (F s))

  sources_rest : (kids : List Columns) → ((s : ℕ) → EachListsShelved many (get_or kids s end)) → (s : ℕ) → EachListsShelved many (get_or (map rest kids) s end)
  sources_rest kids F s = subst (EachListsShelved many) (sym (get_or-map rest kids s end)) (rest_lists (get_or kids s end) (F s))

  made_list : (D : ℕ → List ℕ) (c : Column) (S : List Column) (ps : List Pair) → Accepted D c S ps → ((s : ℕ) → ListsShelved many (at S s)) →
      (K : Kind) → kind (node c) ≡ K → AllByRecursion (λ b. b < many) (made_buffers K S ps).buffers
  made_list D c S ps A F (primitive w) e = tt
  made_list D c S ps A F boolean e = tt
  made_list D c S ps A F strings e = tt
  made_list D c S ps A F views e =
      all_once (λ b. b < many) (claims S ps) (all_joined (λ b. b < many) (λ (p : Pair). claim (node (at S p.0)).buffers (view_at (node (at S p.0)) p.1)) ps (0, 0) (λ k l.
      let p : Pair = get_or ps k (0, 0) in
      claim_below D many (node (at S p.0)).buffers (view_at (node (at S p.0)) p.1) ((kind_sound D c S ps A views e p.0 (A.source_known k l)).1 p.1 (A.row_known k l)) (own_list (at S p.0) (F p.0))))
  made_list D c S ps A F lists e = tt
  made_list D c S ps A F maps e = tt
  made_list D c S ps A F structs e = tt
  made_list D c S ps A F run_ended e = tt
  made_list D c S ps A F (fixed_lists N) e = tt
  made_list D c S ps A F unknown e = tt

  mutual
    unfolding interleaved Sound ListsShelved

    pub made_lists : (D : ℕ → List ℕ) (b : Bool) (c : Column) (S : List Column) (ps : List Pair) → Accepted D c S ps → Sound D c → ((s : ℕ) → ListsShelved many (at S s)) →
        ListsShelved many (interleaved b c S ps)
    made_lists D b (column n cs) S ps A s F = (
      made_list D (column n cs) S ps A F (kind n) refl,
      either_kids (λ K ks. EachListsShelved many ks) (kind n)
          (made_runs cs (run_ends_from 0 (entries S ps)) (map children S) (kept (entries S ps)))
          (made_children (is_list (kind n)) cs (map children S) (child_pairs (kind n) S ps))
          (λ r. each_made D (is_list (kind n)) cs (map children S) (child_pairs (kind n) S ps)
          (λ j w. child_accepted D (column n cs) S ps (child_pairs (kind n) S ps) j A w (kids_inside D (column n cs) S ps A b (kind n) refl s.1 r j w)) s.2 kids)
          (λ e.
          let y : KindSound D run_ended n cs = subst (λ K. KindSound D K n cs) e s.1 in
          runs_made D cs (run_ends_from 0 (entries S ps)) (map children S) (kept (entries S ps)) (λ w. child_accepted D (column n cs) S ps (kept (entries S ps)) 1 A w (inside_runs D (column n cs) S ps A e)) y.2 s.2 kids),
    )
      where
        kids : (s : ℕ) → EachListsShelved many (get_or (map children S) s end)
        kids s = subst (EachListsShelved many) (sym (at_children D S s)) (kids_list (at S s) (F s))

    each_made : (D : ℕ → List ℕ) (t : Bool) (cs : Columns) (kids : List Columns) (qs : List Pair) → ((j : ℕ) → j < width cs → Accepted D (nth cs j) (map (λ ks. nth ks j) kids) qs) → EachSound D cs →
        ((s : ℕ) → EachListsShelved many (get_or kids s end)) → EachListsShelved many (made_children t cs kids qs)
    each_made D t end kids qs A s F = tt
    each_made D t (c & cs) kids qs A s F = (
      made_lists D t c (map first kids) qs (A 0 (omega arith)) s.0 (sources_first D kids F),
      each_made D t cs (map rest kids) qs (λ j w. subst (λ T. Accepted D (nth cs j) T qs) (sym (rest_kids kids j)) (A (suc j) (omega arith))) s.1 (sources_rest kids F),
    )

    runs_made : (D : ℕ → List ℕ) (cs : Columns) (ends : List ℕ) (kids : List Columns) (qs : List Pair) → (1 < width cs → Accepted D (nth cs 1) (map (λ ks. nth ks 1) kids) qs) → width cs ≡ 2 → EachSound D cs →
        ((s : ℕ) → EachListsShelved many (get_or kids s end)) → EachListsShelved many (made_runs cs ends kids qs)
    runs_made D end ends kids qs A w s F = tt
    runs_made D (c & cs) ends kids qs A w s F = (
      (tt, tt),
      each_made D false cs (map rest kids) qs
          (λ j m. subst (λ i. Accepted D (nth cs i) (map (λ ks. nth ks i) (map rest kids)) qs) (omega arith) (subst (λ T. Accepted D (nth cs 0) T qs) (sym (rest_kids kids 0)) (A (omega arith)))) s.1
          (sources_rest kids F),
    )
