use Rattle.std.proofs.Common.{◌≡◌, ℕ, zero, suc, ◌+◌, ◌-◌, ◌*◌, ◌<◌, ◌≤◌, Bool, true, false, ◌&&◌, eqb, List, [], ◌∷◌, ◌++◌, map, length, get_or, take, drop, set, sym, refl, ap, ◌∙◌, arith}
use Rattle.std.specs.List.{between, flat_map}
use Rattle.std.proofs.lemmas.List.{append_assoc, append-nil, take-append-drop, take-take, drop-append-le, length-take-le, flat_map_more, drop-set}
use Rattle.std.proofs.lemmas.Slice.{between_is}
use Rattle.std.proofs.lemmas.Bool.{ne_eqb, and_parts, and_from}
use Rattle.columns.specs.Checks.{Check, all_of}
use Rattle.columns.specs.Kinds.{Kind, primitive, boolean, strings, views, lists, maps, structs, run_ended, fixed_lists, unknown}
use Rattle.columns.specs.Format.{offset_bytes}
use Rattle.columns.specs.Column.{Node, rows_of, width, nth, first}
use Rattle.columns.specs.Reading.{Outcome, reached}
use Rattle.columns.specs.Sent.{Data}
use Rattle.columns.specs.Parcel.{Found, columns_from}
use Rattle.columns.specs.SoundTests.{kind_sound, rows_are, offsets_sound}
use Rattle.columns.specs.Reading as rules
use Rattle.parcels.specs.declared.draft.Draft.{Draft}
use Rattle.parcels.specs.Drafts.{below_more, below_of, lent_read, given_in, buffers_in, lent_of, held_after, node_in, kind_sound_by, checks_in, checks_of, nodes_of, held_of, all_read, is_reached, preorder, preorders, Traced}

module _ (parcel : List ℕ) where
  held_append : (bs : List (List ℕ)) (n : ℕ) (xs ys : List Draft) → held_of parcel bs n (xs ++ ys) ≡ held_of parcel (held_of parcel bs n xs) (n + length xs) ys
  unfolding held_of
  held_append bs n [] ys = ap (λ (k : ℕ). held_of parcel bs k ys) (let e : n ≡ n + 0 = omega arith in e)
  held_append bs n (x ∷ xs) ys =
      held_append (held_after parcel bs n x) (n + 1) xs ys
      ∙ ap (λ (k : ℕ). held_of parcel (held_of parcel (held_after parcel bs n x) (n + 1) xs) k ys) (let e : n + 1 + length xs ≡ n + suc (length xs) = omega arith in e)

  nodes_append : (bs : List (List ℕ)) (n : ℕ) (xs ys : List Draft) → nodes_of parcel bs n (xs ++ ys) ≡ nodes_of parcel bs n xs ++ nodes_of parcel (held_of parcel bs n xs) (n + length xs) ys
  unfolding nodes_of held_of
  nodes_append bs n [] ys = ap (λ (k : ℕ). nodes_of parcel bs k ys) (let e : n ≡ n + 0 = omega arith in e)
  nodes_append bs n (x ∷ xs) ys =
      ap (λ (l : List (Node × ℕ)). (node_in parcel x (lent_of parcel bs n x), x.head.children) ∷ l)
      (nodes_append (held_after parcel bs n x) (n + 1) xs ys
      ∙ ap (λ (k : ℕ). nodes_of parcel (held_after parcel bs n x) (n + 1) xs ++ nodes_of parcel (held_of parcel (held_after parcel bs n x) (n + 1) xs) k ys) (let e : n + 1 + length xs ≡ n + suc (length xs) = omega arith in e))

  checks_append : (before : ℕ) (bs : List (List ℕ)) (n : ℕ) (xs ys : List Draft) → checks_of parcel before bs n (xs ++ ys) ≡ checks_of parcel before bs n xs ++ checks_of parcel before (held_of parcel bs n xs) (n + length xs) ys
  unfolding checks_of held_of
  checks_append before bs n [] ys = ap (λ (k : ℕ). checks_of parcel before bs k ys) (let e : n ≡ n + 0 = omega arith in e)
  checks_append before bs n (x ∷ xs) ys =
      ap (λ (l : List Check). checks_in parcel before n x (lent_of parcel bs n x) (held_after parcel bs n x) ++ l)
      (checks_append before (held_after parcel bs n x) (n + 1) xs ys
      ∙ ap (λ (k : ℕ). checks_of parcel before (held_after parcel bs n x) (n + 1) xs ++ checks_of parcel before (held_of parcel (held_after parcel bs n x) (n + 1) xs) k ys) (let e : n + 1 + length xs ≡ n + suc (length xs) = omega arith in e))

  read_append : (bs : List (List ℕ)) (n : ℕ) (xs ys : List Draft) → all_read parcel bs n xs ≡ true → all_read parcel (held_of parcel bs n xs) (n + length xs) ys ≡ true → all_read parcel bs n (xs ++ ys) ≡ true
  unfolding all_read held_of
  read_append bs n [] ys a b = ap (λ (k : ℕ). all_read parcel bs k ys) (let e : n ≡ n + 0 = omega arith in e) ∙ b
  read_append bs n (x ∷ xs) ys a b =
      let p = and_parts (is_reached (lent_read parcel bs n x)) (all_read parcel (held_after parcel bs n x) (n + 1) xs) a in
      and_from (is_reached (lent_read parcel bs n x)) (all_read parcel (held_after parcel bs n x) (n + 1) (xs ++ ys)) p.0
      (read_append (held_after parcel bs n x) (n + 1) xs ys p.1
      (ap (λ (k : ℕ). all_read parcel (held_of parcel (held_after parcel bs n x) (n + 1) xs) k ys) (let e : n + 1 + length xs ≡ n + suc (length xs) = omega arith in e) ∙ b))

  pub traced_none : (before : ℕ) (bs : List (List ℕ)) (n : ℕ) → Traced parcel before bs n [] [] [] bs
  unfolding held_of nodes_of checks_of all_read
  traced_none before bs n = record { checked = refl; listed = refl; held = refl; read = refl }

  pub traced_append : (before : ℕ) (bs mid after : List (List ℕ)) (n m : ℕ) (xs ys : List Draft) (c₁ c₂ : List Check) (l₁ l₂ : List (Node × ℕ)) → m ≡ n + length xs
      → Traced parcel before bs n xs c₁ l₁ mid → Traced parcel before mid m ys c₂ l₂ after → Traced parcel before bs n (xs ++ ys) (c₁ ++ c₂) (l₁ ++ l₂) after
  traced_append before bs mid after n m xs ys c₁ c₂ l₁ l₂ e s t =
      record {
        checked = ap (λ (c : List Check). c ++ c₂) s.checked ∙ ap (λ (c : List Check). checks_of parcel before bs n xs ++ c) (t.checked ∙ ap (λ (b : List (List ℕ)). checks_of parcel before b m ys) s.held ∙ ap (λ (k : ℕ). checks_of parcel before (held_of parcel bs n xs) k ys) e) ∙ sym (checks_append before bs n xs ys);
        listed = ap (λ (c : List (Node × ℕ)). c ++ l₂) s.listed ∙ ap (λ (c : List (Node × ℕ)). nodes_of parcel bs n xs ++ c) (t.listed ∙ ap (λ (b : List (List ℕ)). nodes_of parcel b m ys) s.held ∙ ap (λ (k : ℕ). nodes_of parcel (held_of parcel bs n xs) k ys) e) ∙ sym (nodes_append bs n xs ys);
        held = t.held ∙ ap (λ (b : List (List ℕ)). held_of parcel b m ys) s.held ∙ ap (λ (k : ℕ). held_of parcel (held_of parcel bs n xs) k ys) e ∙ sym (held_append bs n xs ys);
        read = read_append bs n xs ys s.read (ap (λ (b : List (List ℕ)). all_read parcel b (n + length xs) ys) (sym s.held) ∙ ap (λ (k : ℕ). all_read parcel mid k ys) (sym e) ∙ t.read);
      }

  pub traced_node : (before : ℕ) (bs mid after : List (List ℕ)) (n : ℕ) (d : Draft) (xs : List Draft) (ds : List Data) (q : rules.Place) (c : List Check) (l : List (Node × ℕ))
      → lent_read parcel bs n d ≡ reached ds q → q.buffers ≡ mid
      → Traced parcel before mid (n + 1) xs c l after
      → Traced parcel before bs n (d ∷ xs) (checks_in parcel before n d ds mid ++ c) ((node_in parcel d ds, d.head.children) ∷ l) after
  unfolding held_of nodes_of checks_of all_read
  traced_node before bs mid after n d xs ds q c l e b t =
      let a : lent_of parcel bs n d ≡ ds = ap (λ (o : Outcome (List Data)). given_in [] o) e in
      let h : held_after parcel bs n d ≡ mid = ap (λ (o : Outcome (List Data)). buffers_in bs o) e ∙ b in
      record {
        checked = ap (λ (k : List Check). checks_in parcel before n d ds mid ++ k) t.checked
            ∙ ap (λ (x : List Data). checks_in parcel before n d x mid ++ checks_of parcel before mid (n + 1) xs) (sym a)
            ∙ ap (λ (m : List (List ℕ)). checks_in parcel before n d (lent_of parcel bs n d) m ++ checks_of parcel before m (n + 1) xs) (sym h);
        listed = ap (λ (k : List (Node × ℕ)). (node_in parcel d ds, d.head.children) ∷ k) t.listed
            ∙ ap (λ (x : List Data). (node_in parcel d x, d.head.children) ∷ nodes_of parcel mid (n + 1) xs) (sym a)
            ∙ ap (λ (m : List (List ℕ)). (node_in parcel d (lent_of parcel bs n d), d.head.children) ∷ nodes_of parcel m (n + 1) xs) (sym h);
        held = t.held ∙ ap (λ (m : List (List ℕ)). held_of parcel m (n + 1) xs) (sym h);
        read = and_from (is_reached (lent_read parcel bs n d)) (all_read parcel (held_after parcel bs n d) (n + 1) xs) (ap (λ (o : Outcome (List Data)). is_reached o) e) (ap (λ (m : List (List ℕ)). all_read parcel m (n + 1) xs) h ∙ t.read);
      }

-- the children's rows
abbrev pub found_rows : Found → ℕ
found_rows f = rows_of f.found

nth_rows : (fs : List Found) (i : ℕ) → rows_of (nth (columns_from fs) i) ≡ get_or (map found_rows fs) i 0
nth_rows [] i = refl
nth_rows (f ∷ fs) zero = refl
nth_rows (f ∷ fs) (suc i) = nth_rows fs i

alike_rows : (fs : List Found) (own : ℕ) → rows_are own (columns_from fs) ≡ all_of (λ (r : ℕ). eqb r own) (map found_rows fs)
alike_rows [] own = refl
alike_rows (f ∷ fs) own = ap (λ (b : Bool). eqb (found_rows f) own && b) (alike_rows fs own)

pub sound_is : (K : Kind) (shelved : List (List ℕ)) (n : Node) (fs : List Found) → kind_sound shelved K n (columns_from fs) ≡ kind_sound_by shelved K n (below_of n.rows (map found_rows fs))
sound_is (primitive w) shelved n fs = refl
sound_is boolean shelved n fs = refl
sound_is strings shelved n fs = refl
sound_is views shelved n fs = refl
sound_is lists shelved n fs = ap (λ (r : ℕ). offsets_sound (offset_bytes n.format) n.offsets r) (nth_rows fs 0)
sound_is maps shelved n fs = ap (λ (r : ℕ). offsets_sound (offset_bytes n.format) n.offsets r) (nth_rows fs 0)
sound_is structs shelved n fs = alike_rows fs n.rows
sound_is run_ended shelved n fs = ap (λ (r : ℕ). eqb r (rows_of (first (columns_from fs)))) (nth_rows fs 1) ∙ ap (λ (r : ℕ). eqb (get_or (map found_rows fs) 1 0) r) (nth_rows fs 0)
sound_is (fixed_lists N) shelved n fs = ap (λ (r : ℕ). eqb r (n.rows * N)) (nth_rows fs 0)
sound_is unknown shelved n fs = refl

pub width_is : (fs : List Found) → width (columns_from fs) ≡ length fs
width_is [] = refl
width_is (f ∷ fs) = ap suc (width_is fs)

and_assoc : (a b c : Bool) → (a && (b && c)) ≡ (a && b && c)
and_assoc true b c = refl
and_assoc false b c = refl

and_true : (b : Bool) → (b && true) ≡ b
and_true true = refl
and_true false = refl

all_push : (rs : List ℕ) (own r : ℕ) → all_of (λ (x : ℕ). eqb x own) (rs ++ r ∷ []) ≡ (all_of (λ (x : ℕ). eqb x own) rs && eqb r own)
all_push [] own r = and_true (eqb r own)
all_push (x ∷ rs) own r = ap (λ (b : Bool). eqb x own && b) (all_push rs own r) ∙ and_assoc (eqb x own) (all_of (λ (x : ℕ). eqb x own) rs) (eqb r own)

pub below_push : (own r : ℕ) (rs : List ℕ) → below_more (below_of own rs) (length rs) r own ≡ below_of own (rs ++ r ∷ [])
below_push own r [] = ap (λ (b : Bool). record { first = r; second = 0; alike = b }) (sym (all_push [] own r))
below_push own r (x ∷ []) = ap (λ (b : Bool). record { first = x; second = r; alike = b }) (sym (all_push (x ∷ []) own r))
below_push own r (x ∷ y ∷ rs) =
    let a : eqb (length (x ∷ y ∷ rs)) 0 ≡ false = ne_eqb (length (x ∷ y ∷ rs)) 0 (λ e. omega arith) in
    let b : eqb (length (x ∷ y ∷ rs)) 1 ≡ false = ne_eqb (length (x ∷ y ∷ rs)) 1 (λ e. omega arith) in
    rw (a, b) (ap (λ (b : Bool). record { first = x; second = y; alike = b }) (sym (all_push (x ∷ y ∷ rs) own r)))

pub preorders_push : (fs : List Found) (f : Found) → preorders (columns_from (fs ++ f ∷ [])) ≡ preorders (columns_from fs) ++ preorder f.found
unfolding preorders
preorders_push [] f = append-nil (preorder f.found)
preorders_push (x ∷ fs) f = ap (λ (l : List (Node × ℕ)). preorder x.found ++ l) (preorders_push fs f) ∙ sym (append_assoc (preorder x.found) (preorders (columns_from fs)) (preorder f.found))

pub checks_push : (fs : List Found) (f : Found) → flat_map (λ (x : Found). x.checks) (fs ++ f ∷ []) ≡ flat_map (λ (x : Found). x.checks) fs ++ f.checks
checks_push fs f = sym (flat_map_more (λ (x : Found). x.checks) [] fs f)

-- parts of the drafts
pub between_split : {X : Type 0} (xs : List X) (a b c : ℕ) → a ≤ b → b ≤ c → b ≤ length xs → between a c xs ≡ between a b xs ++ between b c xs
between_split xs a b c h k l =
    between_is xs a c
    ∙ ap (drop a) (sym (take-append-drop b (take c xs)) ∙ ap (λ ys. ys ++ drop b (take c xs)) (take-take b c xs k))
    ∙ drop-append-le a (take b xs) (drop b (take c xs)) (rw length-take-le h)
    ∙ ap (λ ys. ys ++ drop b (take c xs)) (sym (between_is xs a b))
    ∙ ap (λ ys. between a b xs ++ ys) (sym (between_is xs b c))

pub between_kept : {X : Type 0} (xs ys : List X) (a b : ℕ) → take b xs ≡ take b ys → between a b xs ≡ between a b ys
between_kept xs ys a b e = between_is xs a b ∙ ap (drop a) e ∙ sym (between_is ys a b)

pub between_set : {X : Type 0} (xs : List X) (a b : ℕ) (y : X) → a < b → a < length xs → between a b (set xs a y) ≡ y ∷ between (a + 1) b xs
between_set xs a b y h l =
    ap (take (b - a)) (drop-set xs a y l)
    ∙ ap (λ (n : ℕ). take n (y ∷ drop (a + 1) xs)) (let e : b - a ≡ suc (b - (a + 1)) = omega arith in e)
