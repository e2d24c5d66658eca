-- Columns that are alike have one type, and a sound column stays sound when data buffers are added.
use Rattle.std.proofs.Common.{◌≡◌, ℕ, ◌+◌, ◌<◌, ◌≤◌, Bool, true, false, cond, ◌&&◌, ◌||◌, eqb, List, [], ◌∷◌, ◌++◌, length, get_or, sym, refl, ap, ◌∙◌, subst, ap₂, inl, inr, arith}
use mathlib.Core.Path.{fun_ext}
use Rattle.std.proofs.lemmas.Bool.{and_parts, eqb-true, cases_lt, and_from, eq-eqb}
use Rattle.std.proofs.lemmas.List.{get_or_append_left, get_or_past}
use Rattle.columns.specs.Kinds.{Kind, primitive, boolean, strings, views, lists, maps, structs, run_ended, fixed_lists, unknown, is_run_ended}
use Rattle.columns.specs.Format.{same_bytes, kind_of}
use Rattle.columns.specs.Column.{View, short, long, Node, Column, Columns, column, end, ◌&◌, node, kind, view_at}
use Rattle.columns.specs.Masks.{valid}
use Rattle.columns.specs.Says.{Said, null, bytes, slice, view_text, row_says, says, each_says, ends_of}
use Rattle.columns.specs.Types.{AlikeIsSameType, type_of, fields, typed, field, SameType, alike, all_alike}
use Rattle.columns.specs.Sound.{Sound, EachSound, KindSound, ViewSound, little_endian}
use Rattle.columns.proofs.Formats.{bytes_same}

label_same : (u : Bool) (a b : ℕ) → (u || eqb a b) ≡ true → cond u 0 a ≡ cond u 0 b
label_same true a b e = refl
label_same false a b e = eqb-true a b e

mutual
  unfolding alike type_of

  pub same_type : (c d : Column) → alike c d ≡ true → SameType c d
  same_type (column n cs) (column m ds) e =
      let p = and_parts (same_bytes n.format m.format) (all_alike (is_run_ended (kind n)) cs ds) e in
      let f : n.format ≡ m.format = bytes_same n.format m.format p.0 in
      ap₂ typed f (same_fields (is_run_ended (kind n)) cs ds p.1 ∙ ap (λ g. fields (is_run_ended (kind_of g)) ds) f)

  same_fields : (u : Bool) (cs ds : Columns) → all_alike u cs ds ≡ true → fields u cs ≡ fields u ds
  same_fields u end end e = refl
  same_fields u end (d & ds) e = absurd (let z : ◌≡◌ {A = ℕ} 0 1 = cc in omega arith)
  same_fields u (c & cs) end e = absurd (let z : ◌≡◌ {A = ℕ} 0 1 = cc in omega arith)
  same_fields u (c & cs) (d & ds) e =
      let p = and_parts ((u || eqb (node c).label (node d).label) && alike c d) (all_alike u cs ds) e in
      let q = and_parts (u || eqb (node c).label (node d).label) (alike c d) p.0 in
      let l : cond u 0 (node c).label ≡ cond u 0 (node d).label = label_same u (node c).label (node d).label q.0 in
      let t : type_of c ≡ type_of d = same_type c d q.1 in
      let r : fields u cs ≡ fields u ds = same_fields u cs ds p.1 in
      λ i. field (l i) (t i) (r i)

bytes_equal : (xs ys : List ℕ) → xs ≡ ys → same_bytes xs ys ≡ true
bytes_equal xs ys e = subst (λ zs. same_bytes xs zs ≡ true) e (itself xs)
  where
    itself : (xs : List ℕ) → same_bytes xs xs ≡ true
    itself [] = refl
    itself (x ∷ xs) = and_from (eqb x x) (same_bytes xs xs) (eq-eqb x x refl) (itself xs)

label_alike : (u : Bool) (a b : ℕ) → cond u 0 a ≡ cond u 0 b → (u || eqb a b) ≡ true
label_alike true a b e = refl
label_alike false a b e = eq-eqb a b e

mutual
  unfolding alike type_of

  types_alike : (c d : Column) → SameType c d → alike c d ≡ true
  types_alike (column n cs) (column m ds) e =
      let f : n.format ≡ m.format = cc in
      let g : fields (is_run_ended (kind n)) cs ≡ fields (is_run_ended (kind m)) ds = cc in
      and_from (same_bytes n.format m.format) (all_alike (is_run_ended (kind n)) cs ds) (bytes_equal n.format m.format f)
      (fields_alike (is_run_ended (kind n)) cs ds (g ∙ ap (λ x. fields (is_run_ended (kind_of x)) ds) (sym f)))

  fields_alike : (u : Bool) (cs ds : Columns) → fields u cs ≡ fields u ds → all_alike u cs ds ≡ true
  fields_alike u end end e = refl
  fields_alike u end (d & ds) e = absurd (let z : ◌≡◌ {A = ℕ} 0 1 = cc in omega arith)
  fields_alike u (c & cs) end e = absurd (let z : ◌≡◌ {A = ℕ} 0 1 = cc in omega arith)
  fields_alike u (c & cs) (d & ds) e =
      and_from ((u || eqb (node c).label (node d).label) && alike c d) (all_alike u cs ds)
      (and_from (u || eqb (node c).label (node d).label) (alike c d) (label_alike u (node c).label (node d).label (cc)) (types_alike c d (cc))) (fields_alike u cs ds (cc))

pub alike_is_same_type : AlikeIsSameType
alike_is_same_type c d = (same_type c d, types_alike c d)

-- Growing.
module _ (bs more : List (List ℕ)) where
  there : (b : ℕ) → 0 < length (get_or bs b []) → get_or bs b [] ≡ get_or (bs ++ more) b []
  there b h = elim (cases_lt b (length bs)) [ inl l ↦ sym (get_or_append_left bs more [] b l) | inr l ↦ absurd (omega (arith, ap length (get_or_past bs b [] l))) ]

  view_grows : (buffers : List ℕ) (v : View) → ViewSound (λ b. get_or bs b []) buffers v → ViewSound (λ b. get_or (bs ++ more) b []) buffers v
  view_grows buffers (short len inline) h = h
  view_grows buffers (long len prefix position offset) h =
      let e : get_or bs (get_or buffers position 0) [] ≡ get_or (bs ++ more) (get_or buffers position 0) [] = there (get_or buffers position 0) (omega arith) in
      (h.0, h.1, subst (λ (bytes : List ℕ). offset + len ≤ length bytes) e h.2, subst (λ bytes. prefix ≡ little_endian (slice bytes offset 4)) e h.3)

  pub kind_grows : (K : Kind) (n : Node) (cs : Columns) → KindSound (λ b. get_or bs b []) K n cs → KindSound (λ b. get_or (bs ++ more) b []) K n cs
  kind_grows (primitive w) n cs h = h
  kind_grows boolean n cs h = h
  kind_grows strings n cs h = h
  kind_grows views n cs h = (h.0, (λ i l. view_grows n.buffers (view_at n i) (h.1 i l)), h.2)
  kind_grows lists n cs h = h
  kind_grows maps n cs h = h
  kind_grows structs n cs h = h
  kind_grows run_ended n cs h = h
  kind_grows (fixed_lists N) n cs h = h
  kind_grows unknown n cs h = h

  mutual
    unfolding Sound

    pub sound_grows : (c : Column) → Sound (λ b. get_or bs b []) c → Sound (λ b. get_or (bs ++ more) b []) c
    sound_grows (column n cs) h = (h.0, kind_grows (kind n) n cs h.1, each_grows cs h.2)

    pub each_grows : (cs : Columns) → EachSound (λ b. get_or bs b []) cs → EachSound (λ b. get_or (bs ++ more) b []) cs
    each_grows end h = tt
    each_grows (c & cs) h = (sound_grows c h.0, each_grows cs h.1)

  -- and its rows say what they said
  view_says : (buffers : List ℕ) (v : View) → ViewSound (λ b. get_or bs b []) buffers v → view_text (λ b. get_or bs b []) buffers v ≡ view_text (λ b. get_or (bs ++ more) b []) buffers v
  view_says buffers (short len inline) h = refl
  view_says buffers (long len prefix position offset) h = ap (λ (bytes : List ℕ). slice bytes offset len) (there (get_or buffers position 0) (omega arith))

  view_row_says : (n : Node) (cs : Columns) (i : ℕ) → KindSound (λ b. get_or bs b []) views n cs → view_text (λ b. get_or bs b []) n.buffers (view_at n i) ≡ view_text (λ b. get_or (bs ++ more) b []) n.buffers (view_at n i)
  view_row_says n cs i h = elim (cases_lt i n.rows) [
    | inl l ↦ view_says n.buffers (view_at n i) (h.1 i l)
    | inr l ↦
        let e : view_at n i ≡ short 0 [] = get_or_past n.views i (short 0 []) (omega (arith, h.0)) in
        ap (view_text (λ b. get_or bs b []) n.buffers) e ∙ sym (ap (view_text (λ b. get_or (bs ++ more) b []) n.buffers) e)
  ]

  row_says_same : (K : Kind) (n : Node) (cs : Columns) (ends : List ℕ) (kids : List (ℕ → Said)) (i : ℕ) → KindSound (λ b. get_or bs b []) K n cs →
      row_says (λ b. get_or bs b []) K n ends kids i ≡ row_says (λ b. get_or (bs ++ more) b []) K n ends kids i
  row_says_same (primitive w) n cs ends kids i h = refl
  row_says_same boolean n cs ends kids i h = refl
  row_says_same strings n cs ends kids i h = refl
  row_says_same views n cs ends kids i h = ap bytes (view_row_says n cs i h)
  row_says_same lists n cs ends kids i h = refl
  row_says_same maps n cs ends kids i h = refl
  row_says_same structs n cs ends kids i h = refl
  row_says_same run_ended n cs ends kids i h = refl
  row_says_same (fixed_lists N) n cs ends kids i h = refl
  row_says_same unknown n cs ends kids i h = refl

  mutual
    unfolding Sound says

    pub says_grows : (c : Column) → Sound (λ b. get_or bs b []) c → says (λ b. get_or bs b []) c ≡ says (λ b. get_or (bs ++ more) b []) c
    says_grows (column n cs) h =
        fun_ext (λ i. ap (λ x. cond (valid n i) x null)
        (row_says_same (kind n) n cs (ends_of cs) (each_says (λ b. get_or bs b []) cs) i h.1
        ∙ ap (λ ks. row_says (λ b. get_or (bs ++ more) b []) (kind n) n (ends_of cs) ks i) (each_says_grows cs h.2)))

    each_says_grows : (cs : Columns) → EachSound (λ b. get_or bs b []) cs → each_says (λ b. get_or bs b []) cs ≡ each_says (λ b. get_or (bs ++ more) b []) cs
    each_says_grows end h = refl
    each_says_grows (c & cs) h = ap₂ {C = List (ℕ → Said)} (λ f fs. f ∷ fs) (says_grows c h.0) (each_says_grows cs h.1)
