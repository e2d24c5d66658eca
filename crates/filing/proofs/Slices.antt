-- Parts of parts, and numbers that lie in them.
use Rattle.std.proofs.Common.{◌≡◌, ℕ, zero, suc, ◌+◌, ◌-◌, ◌*◌, ◌<◌, ◌≤◌, min, List, [], ◌∷◌, ◌++◌, map, length, get_or, take, drop, sym, ap, ◌∙◌, subst, add-zero, zero-add, arith, length-drop, length-take}
use Rattle.std.proofs.lemmas.List.{map-append, drop_more, drop-drop, take-take, drop-take}
use Rattle.columns.specs.Says.{span, slice}
use Rattle.columns.specs.Sound.{little_endian}
use Rattle.columns.specs.Contents.{value_at}
use Rattle.pools.specs.Grown.{Grown}
use Rattle.pools.proofs.Growing.{grown_then}

pub span_more : (a n : ℕ) → span a (n + 1) ≡ span a n ++ (a + n) ∷ []
span_more a zero = ap (λ (k : ℕ). k ∷ []) (sym (add-zero a))
span_more a (suc n) =
    let e : span a (suc n + 1) ≡ a ∷ span (suc a) (n + 1) = ap (span a) (let k : suc n + 1 ≡ suc (n + 1) = omega arith in k) in
    e ∙ ap (λ (l : List ℕ). a ∷ l) (span_more (suc a) n ∙ ap (λ (k : ℕ). span (suc a) n ++ k ∷ []) (let k : suc a + n ≡ a + suc n = omega arith in k))

pub map_span_more : {Y : Type 0} (f : ℕ → Y) (n : ℕ) → map f (span 0 (n + 1)) ≡ map f (span 0 n) ++ f n ∷ []
map_span_more {Y} f n = ap (map f) (span_more 0 n) ∙ map-append f (span 0 n) ((0 + n) ∷ []) ∙ ap (λ (k : ℕ). map f (span 0 n) ++ f k ∷ []) (zero-add n)

-- one more at a loop over numbers
pub grown_span : {Y : Type 0} {m m1 m2 : ℕ} {xs xs1 xs2 : List Y} (f : ℕ → Y) (i : ℕ) (y : Y) → y ≡ f i
    → Grown m xs (map f (span 0 i)) m1 xs1 → Grown m1 xs1 (y ∷ []) m2 xs2 → Grown m xs (map f (span 0 (i + 1))) m2 xs2
grown_span {Y} {m} {m1} {m2} {xs} {xs1} {xs2} f i y e p q =
    subst (λ (new : List Y). Grown m xs new m2 xs2) (ap (λ (z : Y). map f (span 0 i) ++ z ∷ []) e ∙ sym (map_span_more f i)) (grown_then p q)

-- a part of a part
pub slice_slice : {X : Type 0} (xs : List X) (a n b m : ℕ) → b + m ≤ n → slice (slice xs a n) b m ≡ slice xs (a + b) m
slice_slice {X} xs a n b m h =
    let split : n ≡ b + (n - b) = omega arith in
    ap (λ (k : ℕ). take m (drop b (take k (drop a xs)))) split ∙ ap (take m) (drop-take b (n - b) (drop a xs))
    ∙ take-take m (n - b) (drop b (drop a xs)) (omega arith) ∙ ap (take m) (drop-drop b a xs)

pub value_in : (xs : List ℕ) (a n w i : ℕ) → w * i + w ≤ n → little_endian (slice xs (a + w * i) w) ≡ value_at w (slice xs a n) i
value_in xs a n w i h = ap little_endian (sym (slice_slice xs a n (w * i) w h))

-- a slice by its first entry
pub slice_first : {X : Type 0} (xs : List X) (at n : ℕ) (d : X) → at < length xs → slice xs at (suc n) ≡ get_or xs at d ∷ slice xs (at + 1) n
slice_first xs at n d h = ap (take (suc n)) (drop_more xs at d h)

pub slice_two : (xs : List ℕ) (at : ℕ) → at + 2 ≤ length xs → slice xs at 2 ≡ get_or xs at 0 ∷ get_or xs (at + 1) 0 ∷ []
slice_two xs at h =
    slice_first xs at 1 0 (omega arith) ∙ ap (λ (l : List ℕ). get_or xs at 0 ∷ l) (slice_first xs (at + 1) 0 0 (omega arith))

pub slice_four : (xs : List ℕ) (at : ℕ) → at + 4 ≤ length xs
    → slice xs at 4 ≡ get_or xs at 0 ∷ get_or xs (at + 1) 0 ∷ get_or xs (at + 2) 0 ∷ get_or xs (at + 3) 0 ∷ []
slice_four xs at h =
    let two : slice xs (at + 2) 2 ≡ get_or xs (at + 2) 0 ∷ get_or xs (at + 3) 0 ∷ [] =
    slice_two xs (at + 2) (omega arith) ∙ ap (λ (k : ℕ). get_or xs (at + 2) 0 ∷ get_or xs k 0 ∷ []) (let e : at + 2 + 1 ≡ at + 3 = omega arith in e) in
    let next : at + 1 + 1 ≡ at + 2 = omega arith in
    slice_first xs at 3 0 (omega arith)
    ∙ ap (λ (l : List ℕ). get_or xs at 0 ∷ l) (slice_first xs (at + 1) 2 0 (omega arith) ∙ ap (λ (k : ℕ). get_or xs (at + 1) 0 ∷ slice xs k 2) next ∙ ap (λ (l : List ℕ). get_or xs (at + 1) 0 ∷ l) two)

pub slice_eight : (xs : List ℕ) (at : ℕ) → at + 8 ≤ length xs → slice xs at 8 ≡ slice xs at 4 ++ slice xs (at + 4) 4
slice_eight xs at h =
    let one : (k n : ℕ) → k < length xs → slice xs k (suc n) ≡ get_or xs k 0 ∷ slice xs (k + 1) n = λ k n l. slice_first xs k n 0 l in
    let a : at + 1 + 1 ≡ at + 2 = omega arith in
    let b : at + 2 + 1 ≡ at + 3 = omega arith in
    let c : at + 3 + 1 ≡ at + 4 = omega arith in
    one at 7 (omega arith)
    ∙ ap (λ (l : List ℕ). get_or xs at 0 ∷ l) (one (at + 1) 6 (omega arith) ∙ ap (λ (k : ℕ). get_or xs (at + 1) 0 ∷ slice xs k 6) a
    ∙ ap (λ (l : List ℕ). get_or xs (at + 1) 0 ∷ l) (one (at + 2) 5 (omega arith) ∙ ap (λ (k : ℕ). get_or xs (at + 2) 0 ∷ slice xs k 5) b
    ∙ ap (λ (l : List ℕ). get_or xs (at + 2) 0 ∷ l) (one (at + 3) 4 (omega arith) ∙ ap (λ (k : ℕ). get_or xs (at + 3) 0 ∷ slice xs k 4) c)))
    ∙ ap (λ (l : List ℕ). l ++ slice xs (at + 4) 4) (sym (slice_four xs at (omega arith)))

-- a loop over numbers, at its end
pub grown_count : {Y : Type 0} {m m1 : ℕ} {xs xs1 : List Y} (f : ℕ → Y) (i n : ℕ) → n ≤ i → i ≤ n → Grown m xs (map f (span 0 i)) m1 xs1 → Grown m xs (map f (span 0 n)) m1 xs1
grown_count {Y} {m} {m1} {xs} {xs1} f i n h k g = subst (λ (j : ℕ). Grown m xs (map f (span 0 j)) m1 xs1) (let e : i ≡ n = omega arith in e) g

-- the halves of a view in a part
pub half_read : (xs : List ℕ) (a n i : ℕ) → 16 * i + 16 ≤ n → slice xs (a + 16 * i) 8 ≡ slice (slice xs a n) (16 * i) 8
half_read xs a n i h = sym (slice_slice xs a n (16 * i) 8 (omega arith))

pub high_read : (xs : List ℕ) (a n i : ℕ) → 16 * i + 16 ≤ n → slice xs (a + 16 * i + 8) 8 ≡ slice (slice xs a n) (16 * i + 8) 8
high_read xs a n i h = ap (λ (k : ℕ). slice xs k 8) (let e : a + 16 * i + 8 ≡ a + (16 * i + 8) = omega arith in e) ∙ sym (slice_slice xs a n (16 * i + 8) 8 (omega arith))

pub slice_fits : {X : Type 0} (xs : List X) (a n : ℕ) → a + n ≤ length xs → length (slice xs a n) ≡ n
slice_fits xs a n h = length-take n (drop a xs) ∙ (let e = length-drop a xs in let z : min n (length (drop a xs)) ≡ n = omega arith in z)
