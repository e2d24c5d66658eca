-- Buffers once each by first claim, and the places of views in them.
use Rattle.std.proofs.Common.{◌≡◌, ℕ, zero, suc, ◌<◌, Bool, true, false, cond, eqb, ◌⊎◌, List, [], ◌∷◌, ◌++◌, map, length, get_or, sym, refl, ap, ◌∙◌, ap₂, subst₂, inl, inr, arith}
use Rattle.std.specs.List.{flat_map}
use Rattle.std.proofs.lemmas.Bool.{eqb-true, eqb-false, eq-eqb, ne_eqb, cases_eq, cond-true, cond-false}
use Rattle.columns.specs.Column.{View, short, long}
use Rattle.columns.specs.Claims.{In, without, once, place, claim, placed}
use Rattle.columns.specs.Laws.{UsedLater, ByFirstUse}

pub in_left : (b : ℕ) (xs ys : List ℕ) → In b xs → In b (xs ++ ys)
in_left b [] ys h = absurd h
in_left b (x ∷ xs) ys (inl e) = inl e
in_left b (x ∷ xs) ys (inr h) = inr (in_left b xs ys h)

pub in_right : (b : ℕ) (xs ys : List ℕ) → In b ys → In b (xs ++ ys)
in_right b [] ys h = h
in_right b (x ∷ xs) ys h = inr (in_right b xs ys h)

pub in_joined : {X : Type 0} (f : X → List ℕ) (ps : List X) (k : ℕ) (d : X) (b : ℕ) → k < length ps → In b (f (get_or ps k d)) → In b (flat_map f ps)
in_joined f [] k d b h i = absurd (omega arith)
in_joined f (p ∷ ps) zero d b h i = in_left b (f p) (flat_map f ps) i
in_joined f (p ∷ ps) (suc k) d b h i = in_right b (f p) (flat_map f ps) (in_joined f ps k d b (omega arith) i)

pub in_without : (b x : ℕ) (ys : List ℕ) → (b ≡ x → ⊥) → In b ys → In b (without x ys)
in_without b x [] n h = h
in_without b x (y ∷ ys) n h = go (eqb x y) refl h (in_without b x ys n)
  where
    go : (t : Bool) → eqb x y ≡ t → (b ≡ y) ⊎ In b ys → (In b ys → In b (without x ys)) → In b (cond t (without x ys) (y ∷ without x ys))
    go true e (inl p) more = absurd (n (p ∙ sym (eqb-true x y e)))
    go true e (inr i) more = more i
    go false e (inl p) more = inl p
    go false e (inr i) more = inr (more i)

pub in_once : (b : ℕ) (bs : List ℕ) → In b bs → In b (once bs)
in_once b [] h = h
in_once b (x ∷ xs) (inl e) = inl e
in_once b (x ∷ xs) (inr h) = elim (cases_eq b x) [ inl e ↦ inl e | inr n ↦ inr (in_without b x (once xs) n (in_once b xs h)) ]

pub place_at : (b : ℕ) (xs : List ℕ) → In b xs → get_or xs (place b xs) 0 ≡ b
place_at b [] h = absurd h
place_at b (x ∷ xs) h = go (eqb b x) refl h (place_at b xs)
  where
    go : (t : Bool) → eqb b x ≡ t → (b ≡ x) ⊎ In b xs → (In b xs → get_or xs (place b xs) 0 ≡ b) → get_or (x ∷ xs) (cond t 0 (suc (place b xs))) 0 ≡ b
    go true e i more = sym (eqb-true b x e)
    go false e (inl p) more = absurd (eqb-false b x e p)
    go false e (inr i) more = more i

pub out_without : (b x : ℕ) (ys : List ℕ) → In b (without x ys) → In b ys × (b ≡ x → ⊥)
out_without b x [] h = absurd h
out_without b x (y ∷ ys) h = go (eqb x y) refl h (out_without b x ys)
  where
    go : (t : Bool) → eqb x y ≡ t → In b (cond t (without x ys) (y ∷ without x ys)) → (In b (without x ys) → In b ys × (b ≡ x → ⊥)) → In b (y ∷ ys) × (b ≡ x → ⊥)
    go true e i more = (inr (more i).0, (more i).1)
    go false e (inl p) more = (inl p, λ q. eqb-false x y e (sym q ∙ p))
    go false e (inr i) more = (inr (more i).0, (more i).1)

pub out_once : (b : ℕ) (bs : List ℕ) → In b (once bs) → In b bs
out_once b [] h = h
out_once b (x ∷ xs) (inl e) = inl e
out_once b (x ∷ xs) (inr h) = inr (out_once b xs (out_without b x (once xs) h).0)

later_without : (us : List ℕ) (b x : ℕ) (ys : List ℕ) → UsedLater us b ys → UsedLater us b (without x ys)
later_without us b x [] h = h
later_without us b x (y ∷ ys) h = go (eqb x y) (later_without us b x ys h.1)
  where
    go : (t : Bool) → UsedLater us b (without x ys) → UsedLater us b (cond t (without x ys) (y ∷ without x ys))
    go true k = k
    go false k = (h.0, k)

order_without : (us : List ℕ) (x : ℕ) (ys : List ℕ) → ByFirstUse us ys → ByFirstUse us (without x ys)
order_without us x [] h = h
order_without us x (y ∷ ys) h = go (eqb x y) (order_without us x ys h.1)
  where
    go : (t : Bool) → ByFirstUse us (without x ys) → ByFirstUse us (cond t (without x ys) (y ∷ without x ys))
    go true k = k
    go false k = (later_without us y x ys h.0, k)

place_other : (b x : ℕ) (us : List ℕ) → (b ≡ x → ⊥) → place b (x ∷ us) ≡ suc (place b us)
place_other b x us n = cond-false (eqb b x) 0 (suc (place b us)) (ne_eqb b x n)

later_more : (us : List ℕ) (b x : ℕ) (ys : List ℕ) → (b ≡ x → ⊥) → ((y : ℕ) → In y ys → y ≡ x → ⊥) → UsedLater us b ys → UsedLater (x ∷ us) b ys
later_more us b x [] n ns h = tt
later_more us b x (y ∷ ys) n ns h = (
  subst₂ ◌<◌ (sym (place_other b x us n)) (sym (place_other y x us (ns y (inl refl)))) (let z = h.0 in omega arith),
  later_more us b x ys n (λ z i. ns z (inr i)) h.1,
)

order_more : (us : List ℕ) (x : ℕ) (ys : List ℕ) → ((y : ℕ) → In y ys → y ≡ x → ⊥) → ByFirstUse us ys → ByFirstUse (x ∷ us) ys
order_more us x [] ns h = tt
order_more us x (y ∷ ys) ns h = (later_more us y x ys (ns y (inl refl)) (λ z i. ns z (inr i)) h.0, order_more us x ys (λ z i. ns z (inr i)) h.1)

later_first : (us : List ℕ) (b : ℕ) (ys : List ℕ) → ((y : ℕ) → In y ys → y ≡ b → ⊥) → UsedLater (b ∷ us) b ys
later_first us b [] ns = tt
later_first us b (y ∷ ys) ns = (
  subst₂ ◌<◌ (sym (cond-true (eqb b b) 0 (suc (place b us)) (eq-eqb b b refl))) (sym (place_other y b us (ns y (inl refl)))) (omega arith),
  later_first us b ys (λ z i. ns z (inr i)),
)

pub once_by_first_use : (us : List ℕ) → ByFirstUse us (once us)
once_by_first_use [] = tt
once_by_first_use (b ∷ us) = (
  later_first us b (without b (once us)) (λ y i. (out_without y b (once us) i).1),
  order_more us b (without b (once us)) (λ y i. (out_without y b (once us) i).1) (order_without us b (once us) (once_by_first_use us)),
)

pub joined_map : {X Y Z : Type 0} (f : Y → List Z) (g : X → Y) (ps : List X) → flat_map f (map g ps) ≡ flat_map (λ p. f (g p)) ps
joined_map f g [] = refl
joined_map f g (p ∷ ps) = ap (λ r. f (g p) ++ r) (joined_map f g ps)

pub joined_same : {X Y : Type 0} (f g : X → List Y) (ps : List X) (d : X) → ((k : ℕ) → k < length ps → f (get_or ps k d) ≡ g (get_or ps k d)) → flat_map f ps ≡ flat_map g ps
joined_same f g [] d e = refl
joined_same f g (p ∷ ps) d e = ap₂ (λ x y. x ++ y) (e 0 (omega arith)) (joined_same f g ps d (λ k l. e (suc k) (omega arith)))

pub claim_placed : (v : View) (bs cs : List ℕ) → ((x : ℕ) → In x (claim bs v) → In x cs) → claim (once cs) (placed (once cs) bs v) ≡ claim bs v
claim_placed (short len inline) bs cs f = refl
claim_placed (long len prefix position offset) bs cs f =
    ap {B = List ℕ} (λ x. x ∷ []) (place_at (get_or bs position 0) (once cs) (in_once (get_or bs position 0) cs (f (get_or bs position 0) (inl refl))))

-- a made node's long views use just what was claimed
pub uses_are_claims : {X : Type 0} (bufs : X → List ℕ) (view : X → View) (ps : List X) (d : X) →
    flat_map (claim (once (flat_map (λ p. claim (bufs p) (view p)) ps))) (map (λ p. placed (once (flat_map (λ p. claim (bufs p) (view p)) ps)) (bufs p) (view p)) ps)
    ≡ flat_map (λ p. claim (bufs p) (view p)) ps
uses_are_claims bufs view ps d =
    let cs : List ℕ = flat_map (λ p. claim (bufs p) (view p)) ps in
    joined_map (claim (once cs)) (λ p. placed (once cs) (bufs p) (view p)) ps
    ∙ joined_same (λ p. claim (once cs) (placed (once cs) (bufs p) (view p))) (λ p. claim (bufs p) (view p)) ps d
    (λ k l. claim_placed (view (get_or ps k d)) (bufs (get_or ps k d)) cs (λ x i. in_joined (λ p. claim (bufs p) (view p)) ps k d x l i))
