use Rattle.std.proofs.Common.{◌≡◌, ℕ, zero, suc, ◌+◌, ◌<◌, ◌≤◌, Bool, true, false, cond, ◌&&◌, eqb, ltb, leb, List, [], ◌∷◌, ◌++◌, map, length, get_or, drop, sym, refl, ap, ◌∙◌, subst, inl, inr, arith}
use mathlib.Core.Option as math
use Rattle.std.proofs.lemmas.List.{append_assoc, length_push, length-append, length-map, get_or-map, get_or_at, get_or_append_left}
use Rattle.std.proofs.lemmas.Bool.{cases_Bool, cases_lt, ltb-true, le-ltb}
use Rattle.columns.specs.Checks.{all_of}
use Rattle.columns.specs.Kinds.{Kind, views}
use Rattle.columns.specs.Column.{View, short, long}
use Rattle.columns.specs.Says.{slice}
use Rattle.columns.specs.Sound.{little_endian}
use Rattle.columns.specs.Sent.{Data, brought, named, number_of, is_named}
use Rattle.columns.specs.SoundTests.{view_sound}
use Rattle.columns.specs.Contents.{views_in, node_from}
use Rattle.pools.specs.declared.records.Part.{Part}
use Rattle.pools.specs.Parts.{part_of, buffers_in}
use Rattle.parcels.specs.declared.draft.Draft.{Draft}
use Rattle.parcels.specs.Lent.{data_size, place_of, number_at, bytes_at, data_from, brought_from}
use Rattle.parcels.specs.Reads.{sent_of, within}
use Rattle.parcels.specs.Drafts.{Drafted, head_in, kind_sound_by}
use Rattle.formats.specs.Kinds.{layout}
use Rattle.soundness.specs.Sources.{view_fine, sources}
use Rattle.soundness.specs.Ladder.{data_of, held_by, unshelved_in, kind_sound_in}

passed : (t : Bool) (b : ℕ) (x : math.Option ℕ) → cond t x (math.some b) ≡ math.none → (t ≡ true) × (x ≡ math.none)
passed true b x e = (refl, e)
passed false b x e = let z : ◌≡◌ {A = ℕ} 0 1 = cc in absurd (omega arith)

abbrev other : Data
other = brought 0

module _ (parcel : List ℕ) where
  module _ (n at next : ℕ) where
    pub data_named : is_named (drop at parcel) ≡ true → data_from parcel at next (suc n) ≡ named (number_at parcel at) ∷ data_from parcel (at + data_size parcel at) next n
    unfolding data_from
    data_named e = ap (λ (b : Bool). cond b (named (number_at parcel at) ∷ data_from parcel (at + data_size parcel at) next n) (brought next ∷ data_from parcel (at + data_size parcel at) (next + 1) n)) e

    pub data_brought : is_named (drop at parcel) ≡ false → data_from parcel at next (suc n) ≡ brought next ∷ data_from parcel (at + data_size parcel at) (next + 1) n
    unfolding data_from
    data_brought e = ap (λ (b : Bool). cond b (named (number_at parcel at) ∷ data_from parcel (at + data_size parcel at) next n) (brought next ∷ data_from parcel (at + data_size parcel at) (next + 1) n)) e

  module _ (n at : ℕ) where
    pub none_brought : is_named (drop at parcel) ≡ true → brought_from parcel at (suc n) ≡ brought_from parcel (at + data_size parcel at) n
    unfolding brought_from
    none_brought e = ap (λ (b : Bool). cond b (brought_from parcel (at + data_size parcel at) n) (bytes_at parcel at ∷ brought_from parcel (at + data_size parcel at) n)) e

    pub one_brought : is_named (drop at parcel) ≡ false → brought_from parcel at (suc n) ≡ bytes_at parcel at ∷ brought_from parcel (at + data_size parcel at) n
    unfolding brought_from
    one_brought e = ap (λ (b : Bool). cond b (brought_from parcel (at + data_size parcel at) n) (bytes_at parcel at ∷ brought_from parcel (at + data_size parcel at) n)) e

  pub length_data : (n at next : ℕ) → length (data_from parcel at next n) ≡ n
  unfolding data_from
  length_data zero at next = refl
  length_data (suc n) at next =
      elim (cases_Bool (is_named (drop at parcel))) [
        | inl e ↦ ap length (data_named n at next e) ∙ ap suc (length_data n (at + data_size parcel at) next)
        | inr e ↦ ap length (data_brought n at next e) ∙ ap suc (length_data n (at + data_size parcel at) (next + 1))
      ]

  module _ (shelved : List (List ℕ)) (before : ℕ) where
    -- the bytes of the data buffer k, by its number
    abbrev bytes_of : ℕ → List ℕ
    bytes_of at = cond (is_named (drop at parcel)) (get_or shelved (number_at parcel at) []) (bytes_at parcel at)

    abbrev Behind : (n k at : ℕ) → List (List ℕ) → Type 0
    Behind n k at bs = get_or (bs ++ brought_from parcel at n) (number_of (get_or (data_from parcel at (length bs) n) k other)) [] ≡ bytes_of (place_of parcel at k)

    abbrev Kept : List (List ℕ) → Type 0
    Kept bs = (before ≤ length bs) × ((b : ℕ) → b < before → get_or bs b [] ≡ get_or shelved b [])

    kept_push : (bs : List (List ℕ)) (x : List ℕ) → Kept bs → Kept (bs ++ x ∷ [])
    kept_push bs x k =
        (simp length_push (omega (arith, k.0)), λ b h. get_or_append_left bs (x ∷ []) [] b (omega (arith, k.0)) ∙ k.1 b h)

    behind_by : (n k at : ℕ) (bs : List (List ℕ)) (D : List Data) (B : List (List ℕ)) → data_from parcel at (length bs) (suc n) ≡ D → brought_from parcel at (suc n) ≡ B
        → get_or (bs ++ B) (number_of (get_or D k other)) [] ≡ bytes_of (place_of parcel at k) → Behind (suc n) k at bs
    behind_by n k at bs D B d b e =
        ap (λ (l : List Data). get_or (bs ++ brought_from parcel at (suc n)) (number_of (get_or l k other)) []) d
        ∙ ap (λ (l : List (List ℕ)). get_or (bs ++ l) (number_of (get_or D k other)) []) b
        ∙ e

    behind_named : (n k at : ℕ) (bs : List (List ℕ)) → is_named (drop at parcel) ≡ true → unshelved_in before (data_from parcel at (length bs) (suc n)) ≡ math.none → Kept bs
        → (unshelved_in before (data_from parcel (at + data_size parcel at) (length bs) n) ≡ math.none → (j : ℕ) → suc j ≡ k → Behind n j (at + data_size parcel at) bs) → Behind (suc n) k at bs
    unfolding place_of
    behind_named n zero at bs e u h r =
        let next : ℕ = at + data_size parcel at in
        let p = passed (ltb (number_at parcel at) before) (number_at parcel at) (unshelved_in before (data_from parcel next (length bs) n)) (ap (unshelved_in before) (sym (data_named n at (length bs) e)) ∙ u) in
        let l : number_at parcel at < before = ltb-true (number_at parcel at) before p.0 in
        behind_by n 0 at bs (named (number_at parcel at) ∷ data_from parcel next (length bs) n) (brought_from parcel next n) (data_named n at (length bs) e) (none_brought n at e)
        (get_or_append_left bs (brought_from parcel next n) [] (number_at parcel at) (omega (arith, h.0)) ∙ h.1 (number_at parcel at) l
        ∙ ap (λ (b : Bool). cond b (get_or shelved (number_at parcel at) []) (bytes_at parcel at)) (sym e))
    behind_named n (suc k) at bs e u h r =
        let next : ℕ = at + data_size parcel at in
        let p = passed (ltb (number_at parcel at) before) (number_at parcel at) (unshelved_in before (data_from parcel next (length bs) n)) (ap (unshelved_in before) (sym (data_named n at (length bs) e)) ∙ u) in
        behind_by n (suc k) at bs (named (number_at parcel at) ∷ data_from parcel next (length bs) n) (brought_from parcel next n) (data_named n at (length bs) e) (none_brought n at e) (r p.1 k refl)

    behind_brought : (n k at : ℕ) (bs : List (List ℕ)) → is_named (drop at parcel) ≡ false → unshelved_in before (data_from parcel at (length bs) (suc n)) ≡ math.none
        → (unshelved_in before (data_from parcel (at + data_size parcel at) (length (bs ++ bytes_at parcel at ∷ [])) n) ≡ math.none → (j : ℕ) → suc j ≡ k → Behind n j (at + data_size parcel at) (bs ++ bytes_at parcel at ∷ [])) → Behind (suc n) k at bs
    unfolding place_of
    behind_brought n zero at bs e u r =
        let next : ℕ = at + data_size parcel at in
        behind_by n 0 at bs (brought (length bs) ∷ data_from parcel next (length bs + 1) n) (bytes_at parcel at ∷ brought_from parcel next n) (data_brought n at (length bs) e) (one_brought n at e)
        (get_or_at bs (bytes_at parcel at) (brought_from parcel next n) [] (length bs) refl ∙ ap (λ (b : Bool). cond b (get_or shelved (number_at parcel at) []) (bytes_at parcel at)) (sym e))
    behind_brought n (suc k) at bs e u r =
        let next : ℕ = at + data_size parcel at in
        let x : List (List ℕ) = bs ++ bytes_at parcel at ∷ [] in
        let u' : unshelved_in before (data_from parcel next (length bs + 1) n) ≡ math.none = ap (unshelved_in before) (sym (data_brought n at (length bs) e)) ∙ u in
        let l : length x ≡ length bs + 1 = length_push bs (bytes_at parcel at) in
        let g = r (ap (λ (m : ℕ). unshelved_in before (data_from parcel next m n)) l ∙ u') k refl in
        behind_by n (suc k) at bs (brought (length bs) ∷ data_from parcel next (length bs + 1) n) (bytes_at parcel at ∷ brought_from parcel next n) (data_brought n at (length bs) e) (one_brought n at e)
        (ap (λ (b : List (List ℕ)). get_or b (number_of (get_or (data_from parcel next (length bs + 1) n) k other)) []) (sym (append_assoc bs (bytes_at parcel at ∷ []) (brought_from parcel next n)))
        ∙ ap (λ (m : ℕ). get_or (x ++ brought_from parcel next n) (number_of (get_or (data_from parcel next m n) k other)) []) (sym l)
        ∙ g)

    pub behind : (n k at : ℕ) (bs : List (List ℕ)) → k < n → unshelved_in before (data_from parcel at (length bs) n) ≡ math.none → Kept bs → Behind n k at bs
    behind zero k at bs h u g = absurd (omega arith)
    behind (suc n) k at bs h u g =
        elim (cases_Bool (is_named (drop at parcel))) [
          | inl e ↦ behind_named n k at bs e u g (λ u' j q. behind n j (at + data_size parcel at) bs (omega arith) u' g)
          | inr e ↦ behind_brought n k at bs e u (λ u' j q. behind n j (at + data_size parcel at) (bs ++ bytes_at parcel at ∷ []) (omega arith) u' (kept_push bs (bytes_at parcel at) g))
        ]

-- views are sound alike by what holds them
module _ (source : ℕ → List ℕ) (count : ℕ) (held : List (List ℕ)) (numbers : List ℕ) (l : length numbers ≡ count) (s : (k : ℕ) → k < count → get_or held (get_or numbers k 0) [] ≡ source k) where
  pub view_same : (v : View) → view_fine source count v ≡ view_sound held numbers v
  view_same (short len inline) = refl
  view_same (long len prefix position offset) =
      let T : Bool → List ℕ → Bool = λ b x. b && leb (offset + len) (length x) && eqb prefix (little_endian (slice x offset 4)) in
      let B : List ℕ = get_or held (get_or numbers position 0) [] in
      elim (cases_lt position count) [
        | inl h ↦ ap (T (ltb position count)) (sym (s position h)) ∙ ap (λ (n : ℕ). T (ltb position n) B) (sym l)
        | inr h ↦ ap (λ (b : Bool). T b (source position)) (le-ltb position count h) ∙ sym (ap (λ (n : ℕ). T (ltb position n) B) l ∙ ap (λ (b : Bool). T b B) (le-ltb position count h))
      ]

  pub views_same : (vs : List View) → all_of (view_fine source count) vs ≡ all_of (view_sound held numbers) vs
  views_same [] = refl
  views_same (v ∷ vs) = ap (λ (b : Bool). b && all_of (view_fine source count) vs) (view_same v) ∙ ap (λ (b : Bool). view_sound held numbers v && b) (views_same vs)

module _ (parcel : List ℕ) (d : Draft) (g : Drafted parcel d) (bs : List (List ℕ)) where
  abbrev by : Kind → Bool
  by K = kind_sound_by (held_by parcel bs d) K (node_from K (head_in parcel d) (sent_of parcel d.parts (data_of parcel bs d))) d.below

module _ (parcel bytes : List ℕ) (buffers : List Part) (d : Draft) (g : Drafted parcel d) (more : List (List ℕ)) (k : layout d.kind ≡ views)
    (u : unshelved_in (length buffers) (data_of parcel (buffers_in bytes buffers ++ more) d) ≡ math.none) where
  abbrev shelved : List (List ℕ)
  shelved = buffers_in bytes buffers

  abbrev lent : Part
  lent = d.parts.lent

  abbrev ds : List Data
  ds = data_of parcel (shelved ++ more) d

  length_shelved : length shelved ≡ length buffers
  length_shelved = length-map buffers (part_of bytes)

  counted : length (map number_of ds) ≡ lent.len
  counted = length-map ds number_of ∙ length_data parcel lent.len lent.start (length (shelved ++ more))

  found : (i : ℕ) → i < lent.len → get_or (held_by parcel (shelved ++ more) d) (get_or (map number_of ds) i 0) [] ≡ sources parcel bytes buffers lent i
  found i h =
      ap (λ (n : ℕ). get_or (held_by parcel (shelved ++ more) d) n []) (get_or-map number_of ds i other 0 (subst (λ (n : ℕ). i < n) (sym (length_data parcel lent.len lent.start (length (shelved ++ more)))) h))
      ∙ behind parcel shelved (length buffers) lent.len i lent.start (shelved ++ more) h u
      (simp length-append (omega (arith, length_shelved)), λ b l. get_or_append_left shelved more [] b (omega (arith, length_shelved)))

  pub views_sound : kind_sound_in parcel (shelved ++ more) d ≡ all_of (view_fine (sources parcel bytes buffers lent) lent.len) (views_in d.head.rows (within parcel d.parts.body))
  views_sound =
      ap (by parcel d g (shelved ++ more)) (sym g.layout ∙ k)
      ∙ sym (views_same (sources parcel bytes buffers lent) lent.len (held_by parcel (shelved ++ more) d) (map number_of ds) counted found (views_in d.head.rows (within parcel d.parts.body)))
