-- Numbers, columns and pairs are read back from their bytes, wherever these stand.
use Rattle.std.proofs.Common.{◌≡◌, ℕ, zero, suc, ◌+◌, ◌-◌, ◌*◌, ◌/◌, ◌<◌, ◌≤◌, List, [], ◌∷◌, ◌++◌, length, get_or, map, take, drop, sym, refl, ap, ◌∙◌, ap₂, append_assoc, add_assoc, add-zero, zero-add, lit<, arith}
use Rattle.std.proofs.Math.Nat.{mul-suc, mul-zero, mul-div_cancel_left}
use Rattle.std.specs.List.{flat_map}
use Rattle.std.specs.Simd.{first_chunks}
use Rattle.std.proofs.lemmas.List.{length-append, length-drop, length-take-le, get_or-append-add, get_or-take, get_or-drop, drop-drop, map_push, take_all}
use Rattle.wire.specs.Calls.{u16_at, u32_at, pair_at, entries_in}
use Rattle.wire.specs.Encoded.{u16_bytes, u32_bytes, pair_bytes}

pub u16_back : (n : ℕ) (rest : List ℕ) → u16_at (u16_bytes n ++ rest) 0 ≡ n
u16_back n rest = omega arith

pub u32_back : (n : ℕ) (rest : List ℕ) → u32_at (u32_bytes n ++ rest) 0 ≡ n
u32_back n rest = omega arith

-- So many bytes of two lists are the same, from one place on in each.
abbrev pub Same : (n : ℕ) → (xs : List ℕ) (i : ℕ) (ys : List ℕ) (j : ℕ) → Type 0
Same n xs i ys j = (k : ℕ) → k < n → get_or xs (i + k) 0 ≡ get_or ys (j + k) 0

first_same : (n : ℕ) (xs : List ℕ) (i : ℕ) (ys : List ℕ) (j : ℕ) → 0 < n → Same n xs i ys j → get_or xs i 0 ≡ get_or ys j 0
first_same n xs i ys j some same =
    ap (λ k. get_or xs k 0) (sym (add-zero i)) ∙ same 0 some ∙ ap (λ k. get_or ys k 0) (add-zero j)

-- Numbers and pairs that the same bytes tell.
pub u16_same : (xs : List ℕ) (i : ℕ) (ys : List ℕ) (j : ℕ) → Same 2 xs i ys j → u16_at xs i ≡ u16_at ys j
u16_same xs i ys j same = ap₂ (λ a b. 256 * a + b) (first_same 2 xs i ys j (lit< tt) same) (same 1 (lit< tt))

pub u32_same : (xs : List ℕ) (i : ℕ) (ys : List ℕ) (j : ℕ) → Same 4 xs i ys j → u32_at xs i ≡ u32_at ys j
u32_same xs i ys j same =
    let a = first_same 4 xs i ys j (lit< tt) same in let b = same 1 (lit< tt) in let c = same 2 (lit< tt) in let d = same 3 (lit< tt) in
    omega (arith, a, b, c, d)

pair_same : (xs : List ℕ) (i : ℕ) (ys : List ℕ) (j : ℕ) → Same 6 xs i ys j → pair_at xs i ≡ pair_at ys j
pair_same xs i ys j same =
    ap₂ (λ x y. (x, y)) (u16_same xs i ys j (λ k h. same k (omega arith)))
    (u32_same xs (i + 2) ys (j + 2)
    (λ k h. ap (λ n. get_or xs n 0) (add_assoc i 2 k) ∙ same (2 + k) (omega arith) ∙ ap (λ n. get_or ys n 0) (sym (add_assoc j 2 k))))

-- Entries of so many bytes each are told by these alone, and read back from them.
pub record ReadBack {X : Type 0} (at : List ℕ → ℕ → X) (bytes : X → List ℕ) (each : ℕ) : Type 0 where
  pub sized : (x : X) → length (bytes x) ≡ each
  pub back : (x : X) (rest : List ℕ) → at (bytes x ++ rest) 0 ≡ x
  pub same : (xs : List ℕ) (i : ℕ) (ys : List ℕ) (j : ℕ) → Same each xs i ys j → at xs i ≡ at ys j

pub columns_back : ReadBack u32_at u32_bytes 4
columns_back = record { sized = λ x. refl; back = u32_back; same = u32_same }

pub pairs_back : ReadBack pair_at pair_bytes 6
pairs_back = record {
  sized = λ p. refl;
  back = λ p rest. ap₂ (λ x y. (x, y)) (u16_back p.0 (u32_bytes p.1 ++ rest)) (u32_back p.1 rest);
  same = pair_same;
}

take_one_more : {X : Type 0} (n : ℕ) (xs : List X) (d : X) → n < length xs → take n xs ++ get_or xs n d ∷ [] ≡ take (suc n) xs
take_one_more n [] d h = absurd (omega arith)
take_one_more zero (x ∷ xs) d h = refl
take_one_more (suc n) (x ∷ xs) d h = ap (λ ys. x ∷ ys) (take_one_more n xs d (omega arith))

-- The first n entries, each being where it is told.
entries_are : {X : Type 0} (at : ℕ → X) (from each n : ℕ) (xs : List X) (d : X) → n ≤ length xs →
    ((i : ℕ) → i < n → at (from + each * i) ≡ get_or xs i d) → entries_in at from each n ≡ take n xs
entries_are at from each zero xs d fits told = refl
entries_are at from each (suc n) xs d fits told =
    ap₂ (λ ys y. ys ++ y ∷ []) (entries_are at from each n xs d (omega arith) (λ i h. told i (omega arith))) (told n (omega arith))
    ∙ take_one_more n xs d (omega arith)

one_more_chunk : (each n : ℕ) (xs : List ℕ) → first_chunks each (suc n) xs ≡ first_chunks each n xs ++ take each (drop (each * n) xs) ∷ []
one_more_chunk each zero xs = ap (λ k. take each (drop k xs) ∷ []) (sym (mul-zero each))
one_more_chunk each (suc n) xs =
    let e : each + each * n ≡ each * suc n = omega (arith, mul-suc each n) in
    ap (λ ys. take each xs ∷ ys) (one_more_chunk each n (drop each xs))
    ∙ ap (λ ys. take each xs ∷ (first_chunks each n (drop each xs) ++ take each ys ∷ [])) (drop-drop (each * n) each xs ∙ ap (λ k. drop k xs) e)

module _ {X : Type 0} {at : List ℕ → ℕ → X} {bytes : X → List ℕ} {each : ℕ} (coded : ReadBack at bytes each) where
  past : (front xs : List ℕ) (i : ℕ) → at (front ++ xs) (length front + i) ≡ at xs i
  past front xs i =
      coded.same (front ++ xs) (length front + i) xs i
      (λ k h. ap (λ n. get_or (front ++ xs) n 0) (add_assoc (length front) i k) ∙ get_or-append-add front xs (i + k) 0)

  pub entries_length : (xs : List X) → length (flat_map bytes xs) ≡ each * length xs
  entries_length [] = sym (mul-zero each)
  entries_length (x ∷ xs) =
      let a = length-append (bytes x) (flat_map bytes xs) in let b = coded.sized x in let c = entries_length xs in
      let d = mul-suc each (length xs) in omega (arith, a, b, c, d)

  entry_at : (xs : List X) (tail : List ℕ) (i : ℕ) (d : X) → i < length xs → at (flat_map bytes xs ++ tail) (each * i) ≡ get_or xs i d
  entry_at [] tail i d h = absurd (omega arith)
  entry_at (x ∷ xs) tail zero d h =
      ap₂ at (append_assoc (bytes x) (flat_map bytes xs) tail) (mul-zero each) ∙ coded.back x (flat_map bytes xs ++ tail)
  entry_at (x ∷ xs) tail (suc i) d h =
      let b = coded.sized x in let m = mul-suc each i in
      let e : each * suc i ≡ length (bytes x) + each * i = omega (arith, b, m) in
      ap₂ at (append_assoc (bytes x) (flat_map bytes xs) tail) e
      ∙ past (bytes x) (flat_map bytes xs ++ tail) (each * i) ∙ entry_at xs tail i d (omega arith)

  -- All entries, between what stands before and after them.
  pub entries_back : (front : List ℕ) (xs : List X) (tail : List ℕ) (d : X) →
      entries_in (at (front ++ (flat_map bytes xs ++ tail))) (length front) each (length xs) ≡ xs
  entries_back front xs tail d =
      entries_are (at (front ++ (flat_map bytes xs ++ tail))) (length front) each (length xs) xs d (omega arith)
      (λ i h. past front (flat_map bytes xs ++ tail) (each * i) ∙ entry_at xs tail i d h)
      ∙ take_all (length xs) xs (omega arith)

  -- The entries that fill a part of the input, as its chunks tell them.
  chunks_are : (input part : List ℕ) (from n : ℕ) → each * n ≤ length part →
      ((j : ℕ) → j < length part → get_or part j 0 ≡ get_or input (from + j) 0) →
      map (λ entry. at entry 0) (first_chunks each n part) ≡ entries_in (at input) from each n
  chunks_are input part from zero fits is = refl
  chunks_are input part from (suc n) fits is =
      let m = mul-suc each n in
      ap (map (λ entry. at entry 0)) (one_more_chunk each n part)
      ∙ map_push (λ entry. at entry 0) (first_chunks each n part) (take each (drop (each * n) part))
      ∙ ap₂ (λ ys y. ys ++ y ∷ []) (chunks_are input part from n (omega (arith, m)) is)
      (coded.same (take each (drop (each * n) part)) 0 input (from + each * n)
      (λ k h. ap (λ i. get_or (take each (drop (each * n) part)) i 0) (zero-add k)
      ∙ get_or-take each (drop (each * n) part) k 0 h ∙ get_or-drop (each * n) part k 0
      ∙ is (each * n + k) (omega (arith, m)) ∙ ap (λ i. get_or input i 0) (sym (add_assoc from (each * n) k))))

  pub part_entries : (input : List ℕ) (from to n : ℕ) → 0 < each → to ≡ from + each * n → to ≤ length input →
      map (λ entry. at entry 0) (first_chunks each (length (take (to - from) (drop from input)) / each) (take (to - from) (drop from input)))
      ≡ entries_in (at input) from each n
  part_entries input from to n some ends there =
      let part : List ℕ = take (to - from) (drop from input) in
      let rest = length-drop from input in
      let long : length part ≡ each * n = length-take-le (to - from) (drop from input) (omega arith) ∙ (let e : to - from ≡ each * n = omega arith in e) in
      let count : length part / each ≡ n = ap (λ l. l / each) long ∙ mul-div_cancel_left n some in
      ap (λ k. map (λ entry. at entry 0) (first_chunks each k part)) count
      ∙ chunks_are input part from n (omega arith)
      (λ j h. get_or-take (to - from) (drop from input) j 0 (omega arith) ∙ get_or-drop from input j 0)
