-- Trees: what a type and soundness say of the children.
use Rattle.std.proofs.Common.{◌≡◌, ℕ, zero, suc, ◌<◌, Bool, cond, List, [], ◌∷◌, map, length, get_or, sym, refl, ap, ◌∙◌, subst, ap₂, arith}
use mathlib.Core.Path.{fun_ext}
use lib.ListN.{length-map, get_or-map}
use Rattle.columns.specs.Kinds.{is_run_ended}
use Rattle.columns.specs.Format.{kind_of}
use Rattle.columns.specs.Column.{Column, Columns, column, end, ◌&◌, node, children, nth, rest, width, nothing, kind, rows_of, at}
use Rattle.columns.specs.Masks.{valid}
use Rattle.columns.specs.Says.{says, each_says, kid, null, row_says, ends_of}
use Rattle.columns.specs.Gathering.{Pair}
use Rattle.columns.specs.Interleave.{interleaved, made_children, made_node}
use Rattle.columns.specs.Types.{type_of, fields, SameType}
use Rattle.columns.specs.Sound.{Sound, EachSound, KindSound, MaskFills}
use Rattle.columns.specs.Promises.{Accepted}

pub same_format : (c d : Column) → SameType c d → (node c).format ≡ (node d).format
unfolding type_of
same_format (column n cs) (column m ds) e = cc

fields_width : (u v : Bool) (cs ds : Columns) → fields u cs ≡ fields v ds → width cs ≡ width ds
unfolding type_of
fields_width u v end end e = refl
fields_width u v end (d & ds) e = cc
fields_width u v (c & cs) end e = cc
fields_width u v (c & cs) (d & ds) e = ap suc (fields_width u v cs ds (cc))

fields_nth : (u v : Bool) (cs ds : Columns) (j : ℕ) → fields u cs ≡ fields v ds → SameType (nth cs j) (nth ds j)
unfolding type_of
fields_nth u v end end j e = refl
fields_nth u v end (d & ds) j e = cc
fields_nth u v (c & cs) end j e = cc
fields_nth u v (c & cs) (d & ds) zero e = cc
fields_nth u v (c & cs) (d & ds) (suc j) e = fields_nth u v cs ds j (cc)

pub same_width : (c d : Column) → SameType c d → width (children c) ≡ width (children d)
unfolding type_of
same_width (column n cs) (column m ds) e = fields_width (is_run_ended (kind n)) (is_run_ended (kind m)) cs ds (cc)

pub same_child : (c d : Column) (j : ℕ) → SameType c d → SameType (nth (children c) j) (nth (children d) j)
unfolding type_of
same_child (column n cs) (column m ds) j e = fields_nth (is_run_ended (kind n)) (is_run_ended (kind m)) cs ds j (cc)

module _ (D : ℕ → List ℕ) where
  pub says_is : (c : Column) (i : ℕ) → says D c i ≡ cond (valid (node c) i) (row_says D (kind (node c)) (node c) (ends_of (children c)) (each_says D (children c)) i) null
  unfolding says
  says_is (column n cs) i = refl

  pub kid_is : (cs : Columns) (j i : ℕ) → kid (each_says D cs) j i ≡ says D (nth cs j) i
  unfolding says kind_of
  kid_is end j i = refl
  kid_is (c & cs) zero i = refl
  kid_is (c & cs) (suc j) i = kid_is cs j i

  pub kid_says : (cs : Columns) (j : ℕ) → kid (each_says D cs) j ≡ says D (nth cs j)
  kid_says cs j = fun_ext (λ i. kid_is cs j i)

  pub sound_kind : (c : Column) → Sound D c → KindSound D (kind (node c)) (node c) (children c)
  unfolding Sound
  sound_kind (column n cs) h = h.1

  pub sound_mask : (c : Column) → Sound D c → MaskFills (node c)
  unfolding Sound
  sound_mask (column n cs) h = h.0

  each_nth : (cs : Columns) (j : ℕ) → j < width cs → EachSound D cs → Sound D (nth cs j)
  unfolding Sound
  each_nth end j l h = absurd (omega arith)
  each_nth (c & cs) zero l h = h.0
  each_nth (c & cs) (suc j) l h = each_nth cs j (omega arith) h.1

  pub sound_child : (c : Column) (j : ℕ) → j < width (children c) → Sound D c → Sound D (nth (children c) j)
  unfolding Sound
  sound_child (column n cs) j l h = each_nth cs j l h.2

  -- what the pairs for child j must name
  abbrev pub Inside : List Column → ℕ → List Pair → Type 0
  Inside S j qs = (m : ℕ) → m < length qs → ((get_or qs m (0, 0)).0 < length S) × ((get_or qs m (0, 0)).1 < rows_of (nth (children (at S (get_or qs m (0, 0)).0)) j))

  pub at_children : (S : List Column) (s : ℕ) → get_or (map children S) s end ≡ children (at S s)
  at_children S s = get_or-map children S s nothing

  pub at_nth : (kids : List Columns) (j s : ℕ) → at (map (λ ks. nth ks j) kids) s ≡ nth (get_or kids s end) j
  at_nth kids j s = get_or-map (λ ks. nth ks j) kids s end

  pub at_child : (S : List Column) (j s : ℕ) → at (map (λ ks. nth ks j) (map children S)) s ≡ nth (children (at S s)) j
  at_child S j s = at_nth (map children S) j s ∙ ap (λ ks. nth ks j) (at_children S s)

  pub length_kids : (S : List Column) (j : ℕ) → length (map (λ ks. nth ks j) (map children S)) ≡ length S
  length_kids S j = length-map (map children S) (λ ks. nth ks j) ∙ length-map S children

  pub child_accepted : (c : Column) (S : List Column) (ps qs : List Pair) (j : ℕ) → Accepted D c S ps → j < width (children c) → Inside S j qs →
      Accepted D (nth (children c) j) (map (λ ks. nth ks j) (map children S)) qs
  child_accepted c S ps qs j A l i = record {
    sound = λ s h. let b : s < length S = subst (λ n. s < n) (length_kids S j) h in
        subst (Sound D) (sym (at_child S j s)) (sound_child (at S s) j (subst (λ n. j < n) (same_width c (at S s) (A.same s b)) l) (A.sound s b));
    same = λ s h. let b : s < length S = subst (λ n. s < n) (length_kids S j) h in
        subst (λ d. SameType (nth (children c) j) d) (sym (at_child S j s)) (same_child c (at S s) j (A.same s b));
    source_known = λ k h. subst (λ n. (get_or qs k (0, 0)).0 < n) (sym (length_kids S j)) (i k h).0;
    row_known = λ k h. subst (λ d. (get_or qs k (0, 0)).1 < rows_of d) (sym (at_child S j (get_or qs k (0, 0)).0)) (i k h).1;
  }

pub rest_nth : (ks : Columns) (j : ℕ) → nth (rest ks) j ≡ nth ks (suc j)
rest_nth end j = refl
rest_nth (c & cs) j = refl

pub rest_kids : (kids : List Columns) (j : ℕ) → map (λ ks. nth ks j) (map rest kids) ≡ map (λ ks. nth ks (suc j)) kids
rest_kids [] j = refl
rest_kids (ks ∷ kids) j = ap₂ {C = List Column} (λ x xs. x ∷ xs) (rest_nth ks j) (rest_kids kids j)

pub rest_at : (kids : List Columns) (s j : ℕ) → nth (get_or (map rest kids) s end) j ≡ nth (get_or kids s end) (suc j)
rest_at [] s j = refl
rest_at (ks ∷ kids) zero j = rest_nth ks j
rest_at (ks ∷ kids) (suc s) j = rest_at kids s j

pub made_width : (b : Bool) (cs : Columns) (kids : List Columns) (qs : List Pair) → width (made_children b cs kids qs) ≡ width cs
unfolding interleaved
made_width b end kids qs = refl
made_width b (c & cs) kids qs = ap suc (made_width b cs (map rest kids) qs)

pub node_made : (b : Bool) (c : Column) (S : List Column) (ps : List Pair) → node (interleaved b c S ps) ≡ made_node b (kind (node c)) (node c) S ps
unfolding interleaved
node_made b (column n cs) S ps = refl
