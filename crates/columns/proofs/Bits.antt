-- Bits packed in bytes.
use Rattle.std.proofs.Common.{◌≡◌, ℕ, zero, suc, ◌+◌, ◌-◌, ◌*◌, ◌/◌, ◌%◌, ◌^◌, ◌<◌, ◌≤◌, min, Bool, true, false, eqb, List, [], ◌∷◌, ◌++◌, map, length, get_or, take, drop, sym, refl, ap, ◌∙◌, ap₂, inl, inr, mul_comm, pow-suc, zero-add, div-one, add-one, arith, length-drop, take-append-drop, length-take, pow_mono}
use native.Mathlib.Nat.{zero-div, div-div-eq-div-mul}
use lib.ListN.{length-map}
use Rattle.std.specs.Int.Digits.{AllBelowBase}
use Rattle.std.proofs.lemmas.Nat.{and_mask}
use Rattle.std.proofs.lemmas.List.{get_or-take, get_or-drop, get_or_past, take_all, drop_all, ext_get_or, drop_more}
use Rattle.std.proofs.ByRecursion.{All-get_or, All-from_get_or}
use Rattle.std.proofs.lemmas.Bool.{cases_lt}
use Rattle.columns.specs.Says.{span, slice}
use Rattle.columns.specs.Contents.{bit_at, bits_in}
use Rattle.columns.specs.Column.{bytes_for}
use Rattle.columns.specs.Bytes.{digit, binary, packed_byte, packed, BitsReadBack}
use Rattle.columns.proofs.Gather.{length_span}
use Rattle.columns.proofs.Follow.{map_span, span_at}

half : (b : Bool) (v : ℕ) → (digit b + 2 * v) / 2 ≡ v
half true v = omega arith
half false v = omega arith

odd : (b : Bool) (v : ℕ) → (digit b + 2 * v) % 2 ≡ digit b
odd true v = omega arith
odd false v = omega arith

digit_is : (b : Bool) → eqb (digit b) 1 ≡ b
digit_is true = refl
digit_is false = refl

digit_of : (r : ℕ) → r < 2 → digit (eqb r 1) ≡ r
digit_of zero h = refl
digit_of (suc zero) h = refl
digit_of (suc (suc r)) h = absurd (omega arith)

-- halving once more
shifted : (v i : ℕ) → v / 2 ^ suc i ≡ v / 2 / 2 ^ i
shifted v i = ap (λ n. v / n) (pow-suc 2 i ∙ mul_comm (2 ^ i) 2) ∙ sym (div-div-eq-div-mul v 2 (2 ^ i))

-- a bit of the number that bits write
binary_bit : (bs : List Bool) (i : ℕ) → binary bs / 2 ^ i % 2 ≡ digit (get_or bs i false)
binary_bit [] i = ap (λ n. n % 2) (zero-div (2 ^ i))
binary_bit (b ∷ bs) zero = ap (λ n. n % 2) (div-one (digit b + 2 * binary bs)) ∙ odd b (binary bs)
binary_bit (b ∷ bs) (suc i) =
    ap (λ n. n % 2) (shifted (digit b + 2 * binary bs) i ∙ ap (λ n. n / 2 ^ i) (half b (binary bs))) ∙ binary_bit bs i

binary_small : (bs : List Bool) → binary bs < 2 ^ length bs
binary_small [] = omega arith
binary_small (true ∷ bs) = let h = binary_small bs in let e = pow-suc 2 (length bs) in omega arith
binary_small (false ∷ bs) = let h = binary_small bs in let e = pow-suc 2 (length bs) in omega arith

binary_below : (bs : List Bool) (n : ℕ) → length bs ≤ n → binary bs < 2 ^ n
binary_below bs n h = let a = binary_small bs in let b = pow_mono h in omega arith

-- 0 bits at the end do not count
binary_none : (bs : List Bool) → ((i : ℕ) → get_or bs i false ≡ false) → binary bs ≡ 0
binary_none [] e = refl
binary_none (b ∷ bs) e = let h : binary bs ≡ 0 = binary_none bs (λ i. e (suc i)) in let z : digit b ≡ 0 = ap digit (e 0) in omega arith

binary_same : (xs bs : List Bool) → ((i : ℕ) → get_or xs i false ≡ get_or bs i false) → binary xs ≡ binary bs
binary_same [] bs e = sym (binary_none bs (λ i. sym (e i)))
binary_same (x ∷ xs) [] e = binary_none (x ∷ xs) e
binary_same (x ∷ xs) (b ∷ bs) e = ap₂ (λ a n. digit a + 2 * n) (e 0) (binary_same xs bs (λ i. e (suc i)))

-- the bits of a number write it
abbrev bits_of : ℕ → ℕ → Bool
bits_of v i = eqb (v / 2 ^ i % 2) 1

number_bits : (n v : ℕ) → v < 2 ^ n → binary (map (bits_of v) (span 0 n)) ≡ v
number_bits zero v h = omega arith
number_bits (suc n) v h =
    let low : digit (bits_of v 0) ≡ v % 2 = digit_of (v / 2 ^ 0 % 2) (omega arith) ∙ ap (λ n. n % 2) (div-one v) in
    let same : map (bits_of v) (span 1 n) ≡ map (bits_of (v / 2)) (span 0 n) =
    map_span (bits_of v) (bits_of (v / 2)) 1 0 n (λ j l. ap (λ m. eqb (m % 2) 1) (ap (λ e. v / 2 ^ e) (let e : 1 + j ≡ suc j = omega arith in e) ∙ shifted v j ∙ ap (λ e. v / 2 / 2 ^ e) (sym (zero-add j)))) in
    let high : binary (map (bits_of v) (span 1 n)) ≡ v / 2 =
    ap binary same ∙ number_bits n (v / 2) (let e = pow-suc 2 n in omega arith) in
    omega arith

pub length_slice : {X : Type 0} (xs : List X) (k n : ℕ) → length (slice xs k n) ≤ n
length_slice xs k n = simp (length-take, length-drop) (omega arith)

slice_at : {X : Type 0} (xs : List X) (k n i : ℕ) (d : X) → i < n → get_or (slice xs k n) i d ≡ get_or xs (k + i) d
slice_at xs k n i d h = get_or-take n (drop k xs) i d h ∙ get_or-drop k xs i d

slice_past : {X : Type 0} (xs : List X) (k n i : ℕ) (d : X) → n ≤ i → get_or (slice xs k n) i d ≡ d
slice_past xs k n i d h = get_or_past (slice xs k n) i d (let l = length_slice xs k n in omega arith)

-- packed bits
byte_count : (bs : List Bool) → length (packed bs) ≡ bytes_for (length bs)
byte_count bs = length-map (span 0 (bytes_for (length bs))) (packed_byte bs) ∙ length_span 0 (bytes_for (length bs))

empty_byte : (bs : List Bool) (j : ℕ) → length bs ≤ 8 * j → packed_byte bs j ≡ 0
empty_byte bs j h = ap (λ r. binary (take 8 r)) (drop_all (8 * j) bs h)

byte_at : (bs : List Bool) (j : ℕ) → get_or (packed bs) j 0 ≡ packed_byte bs j
byte_at bs j =
    elim (cases_lt j (bytes_for (length bs))) [
      | inl l ↦ span_at (packed_byte bs) 0 (bytes_for (length bs)) j 0 l ∙ ap (packed_byte bs) (zero-add j)
      | inr l ↦ get_or_past (packed bs) j 0 (let e = byte_count bs in omega arith) ∙ sym (empty_byte bs j (omega arith))
    ]

room : (bs : List Bool) (k n : ℕ) → binary (slice bs k n) < 2 ^ n
room bs k n = binary_below (slice bs k n) n (length_slice bs k n)

each_byte : (bs : List Bool) → AllBelowBase 256 (packed bs)
each_byte bs = All-from_get_or (λ b. b < 256) (packed bs) 0 (λ j h. let e = byte_at bs j in let r = room bs (8 * j) 8 in omega arith)

by_division : (bs : List Bool) (i : ℕ) → get_or (packed bs) (i / 8) 0 / 2 ^ (i % 8) % 2 ≡ digit (get_or bs i false)
by_division bs i =
    ap (λ b. b / 2 ^ (i % 8) % 2) (byte_at bs (i / 8))
    ∙ binary_bit (slice bs (8 * (i / 8)) 8) (i % 8)
    ∙ ap digit (slice_at bs (8 * (i / 8)) 8 (i % 8) false (omega arith) ∙ ap (λ n. get_or bs n false) (let e : 8 * (i / 8) + i % 8 ≡ i = omega arith in e))

bit_is : (bs : List Bool) (i : ℕ) → bit_at (packed bs) i ≡ get_or bs i false
bit_is bs i = ap (λ n. eqb n 1) (by_division bs i) ∙ digit_is (get_or bs i false)

read_back : (bs : List Bool) → bits_in (length bs) (packed bs) ≡ bs
read_back bs = ext_get_or false (bits_in (length bs) (packed bs)) bs same
    (λ i h. span_at (bit_at (packed bs)) 0 (length bs) i false (omega (arith, same)) ∙ ap (bit_at (packed bs)) (zero-add i) ∙ bit_is bs i)
  where
    same : length (bits_in (length bs) (packed bs)) ≡ length bs
    same = length-map (span 0 (length bs)) (bit_at (packed bs)) ∙ length_span 0 (length bs)

at_place : (bytes : List ℕ) (p : ℕ) (bs : List Bool) (i : ℕ) → slice bytes p (bytes_for (length bs)) ≡ packed bs → i < length bs →
    get_or bytes (p + i / 8) 0 / 2 ^ (i % 8) % 2 ≡ digit (get_or bs i false)
at_place bytes p bs i e h =
    ap (λ b. b / 2 ^ (i % 8) % 2) (sym (slice_at bytes p (bytes_for (length bs)) (i / 8) 0 (omega arith)) ∙ ap (λ r. get_or r (i / 8) 0) e)
    ∙ by_division bs i

one_lower : (bs : List Bool) (k n : ℕ) → binary (slice bs k (n + 1)) ≡ 2 * binary (slice bs (k + 1) n) + digit (get_or bs k false)
one_lower bs k n =
    elim (cases_lt k (length bs)) [
      | inl l ↦ (let e : binary (slice bs k (n + 1)) ≡ digit (get_or bs k false) + 2 * binary (slice bs (k + 1) n) =
          ap (λ r. binary (take (n + 1) r)) (drop_more bs k false l) ∙ ap (λ m. binary (take m (get_or bs k false ∷ drop (k + 1) bs))) (add-one n) in omega arith)
      | inr l ↦ (let a : binary (slice bs k (n + 1)) ≡ 0 = binary_none (slice bs k (n + 1)) (λ i. past k (n + 1) i l) in
          let b : binary (slice bs (k + 1) n) ≡ 0 = binary_none (slice bs (k + 1) n) (λ i. past (k + 1) n i (omega arith)) in
          let c : digit (get_or bs k false) ≡ 0 = ap digit (get_or_past bs k false l) in omega arith)
    ]
  where
    past : (k n i : ℕ) → length bs ≤ k → get_or (slice bs k n) i false ≡ false
    past k n i l = get_or_past (slice bs k n) i false (let e : length (slice bs k n) ≤ 0 = simp (length-take, length-drop) (omega arith) in omega arith)

whole : (bs : List Bool) (j stop : ℕ) → stop ≡ min (8 * j + 8) (length bs) → binary (slice bs (8 * j) (stop - 8 * j)) ≡ packed_byte bs j
whole bs j stop e =
    elim (cases_lt (8 * j + 8) (length bs)) [
      | inl l ↦ ap (λ n. binary (slice bs (8 * j) n)) (let z : stop - 8 * j ≡ 8 = omega arith in z)
      | inr l ↦ ap binary (take_all (stop - 8 * j) (drop (8 * j) bs) (simp length-drop (omega arith)) ∙ sym (take_all 8 (drop (8 * j) bs) (simp length-drop (omega arith))))
    ]

packs_to : (bs : List Bool) (bytes : List ℕ) → length bytes ≡ bytes_for (length bs) → AllBelowBase 256 bytes →
    ((i : ℕ) → i < 8 * length bytes → bit_at bytes i ≡ get_or bs i false) → packed bs ≡ bytes
packs_to bs bytes e u same =
    ext_get_or 0 (packed bs) bytes (byte_count bs ∙ sym e)
    (λ j h. let l : j < length bytes = (let z = byte_count bs in omega arith) in
    byte_at bs j ∙ binary_same (slice bs (8 * j) 8) (map (bits_of (get_or bytes j 0)) (span 0 8)) (bits j l)
    ∙ number_bits 8 (get_or bytes j 0) (All-get_or (λ b. b < 256) bytes j 0 l u))
  where
    here : (j i : ℕ) → j < length bytes → i < 8 → get_or bs (8 * j + i) false ≡ bits_of (get_or bytes j 0) i
    here j i l h = sym (same (8 * j + i) (omega arith)) ∙ ap₂ (λ a b. eqb (get_or bytes a 0 / 2 ^ b % 2) 1) (let z : (8 * j + i) / 8 ≡ j = omega arith in z) (let z : (8 * j + i) % 8 ≡ i = omega arith in z)

    bits : (j : ℕ) → j < length bytes → (i : ℕ) → get_or (slice bs (8 * j) 8) i false ≡ get_or (map (bits_of (get_or bytes j 0)) (span 0 8)) i false
    bits j l i =
        elim (cases_lt i 8) [
          | inl h ↦ slice_at bs (8 * j) 8 i false h ∙ here j i l h ∙ ap (bits_of (get_or bytes j 0)) (sym (zero-add i)) ∙ sym (span_at (bits_of (get_or bytes j 0)) 0 8 i false h)
          | inr h ↦ slice_past bs (8 * j) 8 i false h ∙ sym (get_or_past (map (bits_of (get_or bytes j 0)) (span 0 8)) i false (omega arith))
        ]

bit_count : (n : ℕ) (bytes : List ℕ) → length (bits_in n bytes) ≡ n
bit_count n bytes = length-map (span 0 n) (bit_at bytes) ∙ length_span 0 n

bit_in : (n : ℕ) (bytes : List ℕ) (i : ℕ) → i < n → get_or (bits_in n bytes) i false ≡ bit_at bytes i
bit_in n bytes i h = span_at (bit_at bytes) 0 n i false h ∙ ap (bit_at bytes) (zero-add i)

all_bits : (bytes : List ℕ) → AllBelowBase 256 bytes → packed (bits_in (8 * length bytes) bytes) ≡ bytes
all_bits bytes u =
    packs_to (bits_in (8 * length bytes) bytes) bytes (let e = bit_count (8 * length bytes) bytes in omega arith) u
    (λ i h. sym (bit_in (8 * length bytes) bytes i h))

front_bits : (n m : ℕ) (bytes : List ℕ) → n ≤ m → bits_in n bytes ≡ take n (bits_in m bytes)
front_bits n m bytes h =
    ext_get_or false (bits_in n bytes) (take n (bits_in m bytes)) (bit_count n bytes ∙ (let e = bit_count m bytes in simp length-take (omega arith)))
    (λ i l. let z : i < n = (let e = bit_count n bytes in omega arith) in
    bit_in n bytes i z ∙ sym (get_or-take n (bits_in m bytes) i false z ∙ bit_in m bytes i (omega arith)))

spare_bits : (n : ℕ) (bytes : List ℕ) → n ≤ 8 * length bytes → AllBelowBase 256 bytes →
    packed (bits_in n bytes ++ drop n (bits_in (8 * length bytes) bytes)) ≡ bytes
spare_bits n bytes h u =
    ap packed (ap (λ r. r ++ drop n (bits_in (8 * length bytes) bytes)) (front_bits n (8 * length bytes) bytes h) ∙ take-append-drop n (bits_in (8 * length bytes) bytes))
    ∙ all_bits bytes u

pub bits_read_back : BitsReadBack
bits_read_back =
    record {
      byte_count = byte_count;
      byte_at = byte_at;
      each_byte = each_byte;
      read_back = read_back;
      bit_is = bit_is;
      past_end = λ bs i h. bit_is bs i ∙ get_or_past bs i false h;
      by_division = by_division;
      by_mask = λ bs i. and_mask (get_or (packed bs) (i / 8) 0 / 2 ^ (i % 8)) 1 ∙ by_division bs i;
      at_place = at_place;
      one_lower = one_lower;
      room = room;
      whole = whole;
      packs_to = packs_to;
      all_bits = all_bits;
      spare_bits = spare_bits;
    }
