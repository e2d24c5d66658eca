-- Sizes from the last node on.
use Rattle.std.proofs.Common.{◌≡◌, ℕ, zero, suc, ◌+◌, ◌-◌, ◌<◌, ◌≤◌, List, [], ◌∷◌, length, get_or, drop, set, sym, refl, ap, ◌∙◌, subst, ap₂, add-zero, arith}
use Rattle.std.specs.List.{AllByRecursion}
use Rattle.std.proofs.lemmas.List.{drop_more, drop-set, drop-drop, get_or-drop, drop_all}
use Rattle.std.proofs.ByRecursion.{All-drop}
use Rattle.filing.specs.Row.{spanned, spans_of}

pub spans_drop : (i : ℕ) (ks : List ℕ) → drop i (spans_of ks) ≡ spans_of (drop i ks)
unfolding spans_of
spans_drop zero ks = refl
spans_drop (suc i) [] = refl
spans_drop (suc i) (k ∷ ks) = spans_drop i ks

pub spans_length : (ks : List ℕ) → length (spans_of ks) ≡ length ks
unfolding spans_of
spans_length [] = refl
spans_length (k ∷ ks) = ap suc (spans_length ks)

-- one child more
pub spanned_more : (ss : List ℕ) (place k n : ℕ) → k < n → get_or ss place 0 + spanned (n - (k + 1)) (drop (place + get_or ss place 0) ss) ≡ spanned (n - k) (drop place ss)
unfolding spanned
spanned_more ss place k n h =
    let first : get_or (drop place ss) 0 0 ≡ get_or ss place 0 = get_or-drop place ss 0 0 ∙ ap (λ (i : ℕ). get_or ss i 0) (add-zero place) in
    sym
    (ap (λ (m : ℕ). spanned m (drop place ss)) (let e : n - k ≡ suc (n - (k + 1)) = omega arith in e)
    ∙ ap (λ (v : ℕ). v + spanned (n - (k + 1)) (drop v (drop place ss))) first
    ∙ ap (λ (l : List ℕ). get_or ss place 0 + spanned (n - (k + 1)) l) (drop-drop (get_or ss place 0) place ss))

pub spanned_none : (n k : ℕ) (ss : List ℕ) → n ≤ k → spanned (n - k) ss ≡ 0
unfolding spanned
spanned_none n k ss h = ap (λ (m : ℕ). spanned m ss) (let e : n - k ≡ 0 = omega arith in e)

-- the sizes from a node on, by those after it
pub spans_more : (ks ss : List ℕ) (i : ℕ) → i < length ks → i < length ss → drop (i + 1) ss ≡ spans_of (drop (i + 1) ks)
    → (v : ℕ) → v ≡ 1 + spanned (get_or ks i 0) (drop (i + 1) ss) → drop i (set ss i v) ≡ spans_of (drop i ks)
unfolding spans_of
spans_more ks ss i h l e v is =
    drop-set ss i v l ∙ ap₂ (λ (x : ℕ) (r : List ℕ). x ∷ r) (is ∙ ap (λ (r : List ℕ). 1 + spanned (get_or ks i 0) r) e) e ∙ sym (ap spans_of (drop_more ks i 0 h))

-- a size that is known to be low
pub span_few : (ks ss : List ℕ) (i : ℕ) → i < length ks → AllByRecursion (λ (s : ℕ). s ≤ 256) (spans_of ks) → drop (i + 1) ss ≡ spans_of (drop (i + 1) ks) → 1 + spanned (get_or ks i 0) (drop (i + 1) ss) ≤ 256
unfolding spans_of
span_few ks ss i h a e =
    let all : AllByRecursion (λ (s : ℕ). s ≤ 256) (spans_of (drop i ks)) = subst (AllByRecursion (λ (s : ℕ). s ≤ 256)) (spans_drop i ks) (All-drop (λ (s : ℕ). s ≤ 256) i (spans_of ks) a) in
    let here : AllByRecursion (λ (s : ℕ). s ≤ 256) (spans_of (get_or ks i 0 ∷ drop (i + 1) ks)) = subst (λ (l : List ℕ). AllByRecursion (λ (s : ℕ). s ≤ 256) (spans_of l)) (drop_more ks i 0 h) all in
    subst (λ (r : List ℕ). 1 + spanned (get_or ks i 0) r ≤ 256) (sym e) here.0

pub spans_start : (ks ss : List ℕ) (n : ℕ) → length ks ≤ n → length ss ≤ n → drop n ss ≡ spans_of (drop n ks)
unfolding spans_of
spans_start ks ss n h l = drop_all n ss l ∙ sym (ap spans_of (drop_all n ks h))
