-- Numbers and views in bytes.
use Rattle.std.proofs.Common.{◌≡◌, ℕ, zero, suc, ◌+◌, ◌-◌, ◌*◌, ◌/◌, ◌%◌, ◌^◌, ◌<◌, ◌≤◌, T, ltb, ◌↔◌, List, [], ◌∷◌, ◌++◌, map, reverse, length, get_or, take, drop, pos, negsuc, ◌≤ℤ◌, sym, refl, ap, ◌∙◌, subst, ap₂, inl, inr, zero-le, mod-eq_of_lt, mul_assoc, mul_comm, pow-suc, mul-zero, zero-add, mul-one, div-one, arith, length-append, length-drop, take-append-drop, length-take, pow-add, w8, w16, w32, w64, to_z}
use native.Mathlib.Nat.{pow-le-pow_right, add-mul-div_left, add-mul-mod_self_left, div-eq_of_lt, one-le-pow, div-div-eq-div-mul}
use lib.ListN.{length-reverse}
use lib.IntN.{sub_ℕ}
use lib.Signed.{le_z, le_z_yes}
use mir.Syntax.{Width, w128}
use mir.Val.{hbits, sel, bits as width_bits, bytes as width_bytes}
use Rattle.std.specs.List.{flat_map, AllByRecursion}
use Rattle.std.specs.Int.Digits.{AllBelowBase}
use Rattle.std.proofs.lemmas.List.{take_at, drop_at, take-take, take_all, drop-drop, drop-take, nil_from_length, reverse-append, reverse-reverse, get_or-reverse}
use Rattle.std.proofs.ByRecursion.{All-append, All-take, All-drop, All-map, All-weaker, All-get_or}
use Rattle.std.proofs.lemmas.Bool.{cases_lt, lt-ltb, le-ltb, le-leb, ltb-true, ltb-false, cond-true, cond-false, cond_both}
use Rattle.columns.specs.Column.{View, short, long, view_of}
use Rattle.columns.specs.Says.{span, slice}
use Rattle.columns.specs.Sound.{little_endian}
use Rattle.columns.specs.Reading.{big_endian}
use Rattle.columns.specs.Contents.{value_at, values_in, view_in, views_in}
use Rattle.columns.specs.Bytes.{le_bytes, be_bytes, signed, halves, view_of_halves, view_bytes, ViewIn16Bytes, NumberReadsBack, NumbersReadBack, ViewsReadBack, ByteExamples}
use Rattle.columns.proofs.Bits.{length_slice}
use Rattle.columns.proofs.Follow.{map_span}

-- little_endian
le_count : (w v : ℕ) → length (le_bytes w v) ≡ w
le_count zero v = refl
le_count (suc w) v = ap suc (le_count w (v / 256))

le_each : (w v : ℕ) → AllBelowBase 256 (le_bytes w v)
le_each zero v = tt
le_each (suc w) v = (omega arith, le_each w (v / 256))

le_read : (w v : ℕ) → v < 256 ^ w → little_endian (le_bytes w v) ≡ v
le_read zero v h = omega arith
le_read (suc w) v h = let e = le_read w (v / 256) (let p = pow-suc 256 w in omega arith) in omega arith

le_byte : (w v i : ℕ) → i < w → get_or (le_bytes w v) i 0 ≡ v / 256 ^ i % 256
le_byte zero v i h = absurd (omega arith)
le_byte (suc w) v zero h = ap (λ n. n % 256) (sym (div-one v))
le_byte (suc w) v (suc i) h =
    le_byte w (v / 256) i (omega arith)
    ∙ ap (λ n. n % 256) (div-div-eq-div-mul v 256 (256 ^ i) ∙ ap (λ n. v / n) (mul_comm 256 (256 ^ i) ∙ sym (pow-suc 256 i)))

be_byte : (w v i : ℕ) → i < w → get_or (be_bytes w v) i 0 ≡ v / 256 ^ (w - 1 - i) % 256
be_byte w v i h =
    let e = le_count w v in
    get_or-reverse (le_bytes w v) i 0 (omega arith) ∙ ap (λ n. get_or (le_bytes w v) (n - 1 - i) 0) e ∙ le_byte w v (w - 1 - i) (omega arith)

le_write : (bytes : List ℕ) → AllBelowBase 256 bytes → le_bytes (length bytes) (little_endian bytes) ≡ bytes
le_write [] u = refl
le_write (b ∷ bs) (h, u) =
    ap₂ {C = List ℕ} (λ x xs. x ∷ xs) (let e : (b + 256 * little_endian bs) % 256 ≡ b = omega arith in e)
    (ap (le_bytes (length bs)) (let e : (b + 256 * little_endian bs) / 256 ≡ little_endian bs = omega arith in e) ∙ le_write bs u)

le_width : (bytes : List ℕ) → AllBelowBase 256 bytes → little_endian bytes < 256 ^ length bytes
le_width [] u = omega arith
le_width (b ∷ bs) (h, u) = let l = le_width bs u in let p = pow-suc 256 (length bs) in omega arith

le_below : (n : ℕ) (bytes : List ℕ) → length bytes ≡ n → AllBelowBase 256 bytes → little_endian bytes < 256 ^ n
le_below n bytes e u = subst (λ m. little_endian bytes < 256 ^ m) e (le_width bytes u)

le_back : (n : ℕ) (bytes : List ℕ) → length bytes ≡ n → AllBelowBase 256 bytes → le_bytes n (little_endian bytes) ≡ bytes
le_back n bytes e u = ap (λ m. le_bytes m (little_endian bytes)) (sym e) ∙ le_write bytes u

le_append : (xs ys : List ℕ) → little_endian (xs ++ ys) ≡ little_endian xs + 256 ^ length xs * little_endian ys
le_append [] ys = omega arith
le_append (x ∷ xs) ys =
    let e = le_append xs ys in
    let p : 256 ^ suc (length xs) * little_endian ys ≡ 256 * (256 ^ length xs * little_endian ys) =
    ap (λ n. n * little_endian ys) (pow-suc 256 (length xs) ∙ mul_comm (256 ^ length xs) 256) ∙ mul_assoc 256 (256 ^ length xs) (little_endian ys) in
    omega arith

-- the first m of m + n bytes, and the n after them
module _ (m n : ℕ) (bytes : List ℕ) (e : length bytes ≡ m + n) (u : AllBelowBase 256 bytes) where
  first_length : length (take m bytes) ≡ m
  first_length = simp length-take (omega arith)

  rest_length : length (drop m bytes) ≡ n
  rest_length = simp length-drop (omega arith)

  first_bytes : AllBelowBase 256 (take m bytes)
  first_bytes = All-take (λ b. b < 256) m bytes u

  rest_bytes : AllBelowBase 256 (drop m bytes)
  rest_bytes = All-drop (λ b. b < 256) m bytes u

  first_below : little_endian (take m bytes) < 256 ^ m
  first_below = le_below m (take m bytes) first_length first_bytes

  rest_below : little_endian (drop m bytes) < 256 ^ n
  rest_below = le_below n (drop m bytes) rest_length rest_bytes

  both_back : le_bytes m (little_endian (take m bytes)) ++ le_bytes n (little_endian (drop m bytes)) ≡ bytes
  both_back = ap₂ (λ a b. a ++ b) (le_back m (take m bytes) first_length first_bytes) (le_back n (drop m bytes) rest_length rest_bytes) ∙ take-append-drop m bytes

  split : little_endian bytes ≡ little_endian (take m bytes) + 256 ^ m * little_endian (drop m bytes)
  split =
      ap little_endian (sym (take-append-drop m bytes)) ∙ le_append (take m bytes) (drop m bytes)
      ∙ ap (λ k. little_endian (take m bytes) + 256 ^ k * little_endian (drop m bytes)) first_length

  first_is : little_endian bytes % 256 ^ m ≡ little_endian (take m bytes)
  first_is = ap (λ k. k % 256 ^ m) split ∙ add-mul-mod_self_left (little_endian (take m bytes)) (256 ^ m) (little_endian (drop m bytes)) ∙ mod-eq_of_lt first_below

  rest_is : little_endian bytes / 256 ^ m ≡ little_endian (drop m bytes)
  rest_is =
      ap (λ k. k / 256 ^ m) split ∙ add-mul-div_left (little_endian (take m bytes)) (little_endian (drop m bytes)) (one-le-pow m 256 (omega arith))
      ∙ ap (λ k. k + little_endian (drop m bytes)) (div-eq_of_lt first_below) ∙ zero-add (little_endian (drop m bytes))

one_higher : (bytes : List ℕ) (b : ℕ) → little_endian (bytes ++ b ∷ []) ≡ little_endian bytes + b * 256 ^ length bytes
one_higher bytes b =
    le_append bytes (b ∷ []) ∙ ap (λ n. little_endian bytes + n) (ap (λ n. 256 ^ length bytes * n) (let e : b + 256 * 0 ≡ b = omega arith in e) ∙ mul_comm (256 ^ length bytes) b)

-- big_endian is little_endian from the other end
reverse_cons : {X : Type 0} (x : X) (xs : List X) → reverse (x ∷ xs) ≡ reverse xs ++ x ∷ []
reverse_cons x xs = reverse-append (x ∷ []) xs

all_reverse : {X : Type 0} (P : X → Type 0) (xs : List X) → AllByRecursion P xs → AllByRecursion P (reverse xs)
all_reverse P [] a = tt
all_reverse P (x ∷ xs) (p, a) = subst (AllByRecursion P) (sym (reverse_cons x xs)) (All-append P (reverse xs) (x ∷ []) (all_reverse P xs a) (p, tt))

other_way : (bytes : List ℕ) → big_endian bytes ≡ little_endian (reverse bytes)
other_way [] = refl
other_way (b ∷ bs) =
    let e = other_way bs in
    let h = one_higher (reverse bs) b in
    let l : b * 256 ^ length (reverse bs) ≡ b * 256 ^ length bs = ap (λ n. b * 256 ^ n) (length-reverse bs) in
    let z : big_endian (b ∷ bs) ≡ little_endian (reverse bs ++ b ∷ []) = omega arith in
    z ∙ ap little_endian (sym (reverse_cons b bs))

one_lower : (bytes : List ℕ) (b : ℕ) → big_endian (bytes ++ b ∷ []) ≡ 256 * big_endian bytes + b
one_lower bytes b =
    let e : big_endian (bytes ++ b ∷ []) ≡ b + 256 * little_endian (reverse bytes) = other_way (bytes ++ b ∷ []) ∙ ap little_endian (reverse-append bytes (b ∷ [])) in
    let o = other_way bytes in omega arith

little : NumberReadsBack le_bytes little_endian
little = record { byte_count = le_count; each_byte = le_each; read_back = le_read; write_back = le_write; in_width = le_width }

big : NumberReadsBack be_bytes big_endian
big =
    record {
      byte_count = λ w v. length-reverse (le_bytes w v) ∙ le_count w v;
      each_byte = λ w v. all_reverse (λ b. b < 256) (le_bytes w v) (le_each w v);
      read_back = λ w v h. other_way (reverse (le_bytes w v)) ∙ ap little_endian (reverse-reverse (le_bytes w v)) ∙ le_read w v h;
      write_back = λ bytes u. ap reverse (ap₂ le_bytes (sym (length-reverse bytes)) (other_way bytes) ∙ le_write (reverse bytes) (all_reverse (λ b. b < 256) bytes u)) ∙ reverse-reverse bytes;
      in_width = λ bytes u. let e = other_way bytes in let l = le_width (reverse bytes) (all_reverse (λ b. b < 256) bytes u) in
          let z : 256 ^ length (reverse bytes) ≡ 256 ^ length bytes = ap (λ n. 256 ^ n) (length-reverse bytes) in omega arith;
    }

-- Things of w bytes each, one after another.
module _ {X : Type 0} (w : ℕ) (write : X → List ℕ) (read : List ℕ → X) where
  abbrev row_at : List ℕ → ℕ → X
  row_at bytes i = read (slice bytes (w * i) w)

  written_length : (xs : List X) → AllByRecursion (λ x. length (write x) ≡ w) xs → length (flat_map write xs) ≡ w * length xs
  written_length [] a = sym (mul-zero w)
  written_length (x ∷ xs) (p, a) = let e = written_length xs a in let l = length-append (write x) (flat_map write xs) in let m : w * suc (length xs) ≡ w + w * length xs = omega arith in omega arith

  -- past the first of them
  shift : (bytes : List ℕ) (n : ℕ) → map (row_at bytes) (span 1 n) ≡ map (row_at (drop w bytes)) (span 0 n)
  shift bytes n =
      map_span (row_at bytes) (row_at (drop w bytes)) 1 0 n
      (λ j l. ap (λ r. read (take w r)) (ap (λ i. drop i bytes) (next j) ∙ sym (drop-drop (w * (0 + j)) w bytes)))
    where
      next : (j : ℕ) → w * (1 + j) ≡ w + w * (0 + j)
      next j = omega arith

  rows_read : (xs : List X) → AllByRecursion (λ x. (length (write x) ≡ w) × (read (write x) ≡ x)) xs → map (row_at (flat_map write xs)) (span 0 (length xs)) ≡ xs
  rows_read [] a = refl
  rows_read (x ∷ xs) (p, a) =
      ap₂ {C = List X} (λ y ys. y ∷ ys)
      (ap (λ i. read (slice (write x ++ flat_map write xs) i w)) (mul-zero w) ∙ ap read (take_at (write x) (flat_map write xs) w p.0) ∙ p.1)
      (shift (write x ++ flat_map write xs) (length xs) ∙ ap (λ r. map (row_at r) (span 0 (length xs))) (drop_at (write x) (flat_map write xs) w p.0) ∙ rows_read xs a)

  rows_written : (n : ℕ) (bytes : List ℕ) → length bytes ≡ w * n → AllBelowBase 256 bytes → ((c : List ℕ) → length c ≡ w → AllBelowBase 256 c → write (read c) ≡ c) →
      flat_map write (map (row_at bytes) (span 0 n)) ≡ bytes
  rows_written zero bytes e u back = sym (nil_from_length bytes (e ∙ mul-zero w))
  rows_written (suc n) bytes e u back =
      let l : length bytes ≡ w + w * n = omega arith in
      ap₂ (λ a b. a ++ b)
      (ap (λ i. write (read (slice bytes i w))) (mul-zero w) ∙ back (take w bytes) (first_length w (w * n) bytes l u) (first_bytes w (w * n) bytes l u))
      (ap (flat_map write) (shift bytes n) ∙ rows_written n (drop w bytes) (rest_length w (w * n) bytes l u) (rest_bytes w (w * n) bytes l u) back)
      ∙ take-append-drop w bytes

all_every : {X : Type 0} (P : X → Type 0) → ((x : X) → P x) → (xs : List X) → AllByRecursion P xs
all_every P p [] = tt
all_every P p (x ∷ xs) = (p x, all_every P p xs)

values_in_width : (w n : ℕ) (bytes : List ℕ) → AllBelowBase 256 bytes → AllBelowBase (256 ^ w) (values_in w n bytes)
values_in_width w n bytes u =
    All-map (λ v. v < 256 ^ w) (value_at w bytes) (span 0 n)
    (all_every (λ i. value_at w bytes i < 256 ^ w)
    (λ i. let l = le_width (slice bytes (w * i) w) (All-take (λ b. b < 256) w (drop (w * i) bytes) (All-drop (λ b. b < 256) (w * i) bytes u)) in
    let m : 256 ^ length (slice bytes (w * i) w) ≤ 256 ^ w = pow-le-pow_right (omega arith) (length_slice bytes (w * i) w) in
    omega arith)
    (span 0 n))

-- The sign is the top bit of the highest byte.
top_bit : (b : ℕ) (bs : List ℕ) → AllBelowBase 256 (b ∷ bs) → (get_or (b ∷ bs) (length bs) 0 < 128) ↔ (little_endian (b ∷ bs) < 2 ^ (8 * suc (length bs) - 1))
top_bit b [] (h, u) = ((λ l. omega arith), λ l. omega arith)
top_bit b (c ∷ bs) (h, u) =
    let t = top_bit c bs u in
    let p : 2 ^ (8 * suc (suc (length bs)) - 1) ≡ 256 * 2 ^ (8 * suc (length bs) - 1) =
    ap (λ n. 2 ^ n) (let e : 8 * suc (suc (length bs)) - 1 ≡ 8 + (8 * suc (length bs) - 1) = omega arith in e) ∙ pow-add 2 8 (8 * suc (length bs) - 1) in
    ((λ l. let r = t.0 l in omega arith), λ l. t.1 (omega arith))

sub_nothing : (a : ℕ) → sub_ℕ a 0 ≡ pos a
sub_nothing a = cond-false (ltb a 0) _ _ (le-ltb a 0 zero-le) ∙ ap pos (let e : a - 0 ≡ a = omega arith in e)

low_signed : (b : ℕ) (bs : List ℕ) → get_or (b ∷ bs) (length bs) 0 < 128 → sub_ℕ (little_endian (b ∷ bs)) (256 ^ suc (length bs) * (get_or (b ∷ bs) (length bs) 0 / 128)) ≡ pos (little_endian (b ∷ bs))
low_signed b bs l =
    ap (λ n. sub_ℕ (little_endian (b ∷ bs)) (256 ^ suc (length bs) * n)) (let e : get_or (b ∷ bs) (length bs) 0 / 128 ≡ 0 = omega arith in e)
    ∙ ap (sub_ℕ (little_endian (b ∷ bs))) (mul-zero (256 ^ suc (length bs))) ∙ sub_nothing (little_endian (b ∷ bs))

high_signed : (b : ℕ) (bs : List ℕ) → AllBelowBase 256 (b ∷ bs) → 128 ≤ get_or (b ∷ bs) (length bs) 0 →
    sub_ℕ (little_endian (b ∷ bs)) (256 ^ suc (length bs) * (get_or (b ∷ bs) (length bs) 0 / 128)) ≡ negsuc (256 ^ suc (length bs) - suc (little_endian (b ∷ bs)))
high_signed b bs u l =
    let t : get_or (b ∷ bs) (length bs) 0 < 256 = All-get_or (λ x. x < 256) (b ∷ bs) (length bs) 0 (omega arith) u in
    ap (λ n. sub_ℕ (little_endian (b ∷ bs)) (256 ^ suc (length bs) * n)) (let e : get_or (b ∷ bs) (length bs) 0 / 128 ≡ 1 = omega arith in e)
    ∙ ap (sub_ℕ (little_endian (b ∷ bs))) (mul-one (256 ^ suc (length bs)))
    ∙ cond-true (ltb (little_endian (b ∷ bs)) (256 ^ suc (length bs))) _ _ (lt-ltb (little_endian (b ∷ bs)) (256 ^ suc (length bs)) (le_width (b ∷ bs) u))

-- `signed` at a list that is not empty
signed_cons : (b : ℕ) (bs : List ℕ) → signed (b ∷ bs) ≡ sub_ℕ (little_endian (b ∷ bs)) (256 ^ suc (length bs) * (get_or (b ∷ bs) (length bs) 0 / 128))
signed_cons b bs = ap (λ i. sub_ℕ (little_endian (b ∷ bs)) (256 ^ suc (length bs) * (get_or (b ∷ bs) i 0 / 128))) (let e : suc (length bs) - 1 ≡ length bs = omega arith in e)

same_signed : (bytes : List ℕ) → 0 < length bytes → AllBelowBase 256 bytes → little_endian bytes < 2 ^ (8 * length bytes - 1) → signed bytes ≡ pos (little_endian bytes)
same_signed [] n u l = absurd (omega arith)
same_signed (b ∷ bs) n u l = signed_cons b bs ∙ low_signed b bs ((top_bit b bs u).1 l)

other_signed : (bytes : List ℕ) → 0 < length bytes → AllBelowBase 256 bytes → 2 ^ (8 * length bytes - 1) ≤ little_endian bytes → signed bytes ≡ negsuc (256 ^ length bytes - suc (little_endian bytes))
other_signed [] n u l = absurd (omega arith)
other_signed (b ∷ bs) n u l =
    signed_cons b bs
    ∙ high_signed b bs u
    (elim (cases_lt (get_or (b ∷ bs) (length bs) 0) 128) [ inl h ↦ (let z = (top_bit b bs u).0 h in absurd (omega arith)) | inr h ↦ h ])

not_below_zero : (bytes : List ℕ) → 0 < length bytes → AllBelowBase 256 bytes → (pos 0 ≤ℤ signed bytes) ↔ (little_endian bytes < 2 ^ (8 * length bytes - 1))
not_below_zero bytes n u = (
  (λ s. elim (cases_lt (little_endian bytes) (2 ^ (8 * length bytes - 1))) [
    | inl l ↦ l
    | inr l ↦ absurd (subst (λ z. T (le_z (pos 0) z)) (other_signed bytes n u l) s.le)
  ]),
  λ l. subst (λ z. pos 0 ≤ℤ z) (sym (same_signed bytes n u l)) (le_z_yes (subst T (sym (le-leb 0 (little_endian bytes) zero-le)) tt)),
)

last_bit : (bytes : List ℕ) → 0 < length bytes → AllBelowBase 256 bytes → (get_or bytes (length bytes - 1) 0 < 128) ↔ (little_endian bytes < 2 ^ (8 * length bytes - 1))
last_bit [] n u = absurd (omega arith)
last_bit (b ∷ bs) n u =
    let e : get_or (b ∷ bs) (suc (length bs) - 1) 0 ≡ get_or (b ∷ bs) (length bs) 0 = ap (λ i. get_or (b ∷ bs) i 0) (let z : suc (length bs) - 1 ≡ length bs = omega arith in z) in
    ((λ l. (top_bit b bs u).0 (omega arith)), λ l. let r = (top_bit b bs u).1 l in omega arith)

-- the widths of the machine's numbers
width_half : (w : Width) → 2 ^ (8 * width_bytes w - 1) ≡ 2 ^ hbits w
width_half w8 = refl
width_half w16 = refl
width_half w32 = refl
width_half w64 = refl
width_half w128 = refl

width_whole : (w : Width) → 256 ^ width_bytes w ≡ 2 ^ width_bits w
width_whole w8 = refl
width_whole w16 = refl
width_whole w32 = refl
width_whole w64 = refl
width_whole w128 = refl

width_some : (w : Width) → 0 < width_bytes w
width_some w8 = omega arith
width_some w16 = omega arith
width_some w32 = omega arith
width_some w64 = omega arith
width_some w128 = omega arith

as_cast : (w : Width) (bytes : List ℕ) → length bytes ≡ width_bytes w → AllBelowBase 256 bytes → signed bytes ≡ to_z w (little_endian bytes)
as_cast w bytes e u =
    elim (cases_lt (little_endian bytes) (2 ^ hbits w)) [
      | inl l ↦ same_signed bytes some u (subst (λ n. little_endian bytes < n) (sym half) l) ∙ sym (ap (λ t. sel t (pos (little_endian bytes)) (negsuc (2 ^ width_bits w - suc (little_endian bytes)))) (lt-ltb (little_endian bytes) (2 ^ hbits w) l))
      | inr l ↦ other_signed bytes some u (subst (λ n. n ≤ little_endian bytes) (sym half) l)
          ∙ ap (λ n. negsuc (n - suc (little_endian bytes))) (ap (λ n. 256 ^ n) e ∙ width_whole w) ∙ sym (ap (λ t. sel t (pos (little_endian bytes)) (negsuc (2 ^ width_bits w - suc (little_endian bytes)))) (le-ltb (little_endian bytes) (2 ^ hbits w) l))
    ]
  where
    some : 0 < length bytes
    some = subst (λ n. 0 < n) (sym e) (width_some w)

    half : 2 ^ (8 * length bytes - 1) ≡ 2 ^ hbits w
    half = ap (λ n. 2 ^ (8 * n - 1)) e ∙ width_half w

pub numbers_read_back : NumbersReadBack
numbers_read_back =
    record {
      little = little;
      big = big;
      little_byte = le_byte;
      big_byte = be_byte;
      one_higher = one_higher;
      one_lower = one_lower;
      other_way = other_way;
      value_bytes = λ w vs. written_length w (le_bytes w) little_endian vs (all_every (λ v. length (le_bytes w v) ≡ w) (le_count w) vs);
      values_read = λ w vs u. rows_read w (le_bytes w) little_endian vs (All-weaker (λ v. v < 256 ^ w) (λ v. (length (le_bytes w v) ≡ w) × (little_endian (le_bytes w v) ≡ v)) (λ v h. (le_count w v, le_read w v h)) vs u);
      values_written = λ w n bytes e u. rows_written w (le_bytes w) little_endian n bytes e u (λ c l h. le_back w c l h);
      values_in_width = values_in_width;
      same_signed = same_signed;
      not_below_zero = not_below_zero;
      top_bit = last_bit;
      as_cast = as_cast;
    }

-- Views.
words_same : {a b c d a' b' c' d' : ℕ} {i i' : List ℕ} → a ≡ a' → b ≡ b' → c ≡ c' → d ≡ d' → i ≡ i' → view_of a b c d i ≡ view_of a' b' c' d' i'
words_same ea eb ec ed ei = cc

view_read : (bytes : List ℕ) → length bytes ≡ 16 → AllBelowBase 256 bytes → view_in bytes ≡ view_of_halves (little_endian (take 8 bytes)) (little_endian (drop 8 bytes))
view_read bytes n u =
    words_same
    (ap little_endian (sym (take-take 4 8 bytes (omega arith))) ∙ sym (first_is 4 4 (take 8 bytes) low_length low_bytes))
    (sym second)
    (sym (first_is 4 4 (drop 8 bytes) high_length high_bytes))
    (ap little_endian (take_all 4 (drop 12 bytes) (simp length-drop (omega arith)) ∙ sym (drop-drop 4 8 bytes)) ∙ sym (rest_is 4 4 (drop 8 bytes) high_length high_bytes))
    (sym (ap₂ (λ a b. le_bytes 4 a ++ le_bytes 8 (little_endian b)) second (sym (drop-drop 4 4 bytes)) ∙ both_back 4 8 (drop 4 bytes) (simp length-drop (omega arith)) (All-drop (λ b. b < 256) 4 bytes u)))
  where
    low_length : length (take 8 bytes) ≡ 8
    low_length = first_length 8 8 bytes n u

    low_bytes : AllBelowBase 256 (take 8 bytes)
    low_bytes = first_bytes 8 8 bytes n u

    high_length : length (drop 8 bytes) ≡ 8
    high_length = rest_length 8 8 bytes n u

    high_bytes : AllBelowBase 256 (drop 8 bytes)
    high_bytes = rest_bytes 8 8 bytes n u

    second : little_endian (take 8 bytes) / 2 ^ 32 ≡ value_at 4 bytes 1
    second = rest_is 4 4 (take 8 bytes) low_length low_bytes ∙ ap little_endian (drop-take 4 4 bytes)

halves_fit : (v : View) → ViewIn16Bytes v → ((halves v).0 < 2 ^ 64) × ((halves v).1 < 2 ^ 64)
halves_fit (short len inline) (l, n, u) = ((let s = first_below 4 8 inline n u in omega arith), rest_below 4 8 inline n u)
halves_fit (long len prefix position offset) (m, l, p, q, o) = (omega arith, omega arith)

-- two numbers' bytes, one after the other
both_count : (m n a b : ℕ) → length (le_bytes m a ++ le_bytes n b) ≡ m + n
both_count m n a b = length-append (le_bytes m a) (le_bytes n b) ∙ ap₂ (λ x y. x + y) (le_count m a) (le_count n b)

both_bytes : (m n a b : ℕ) → AllBelowBase 256 (le_bytes m a ++ le_bytes n b)
both_bytes m n a b = All-append (λ x. x < 256) (le_bytes m a) (le_bytes n b) (le_each m a) (le_each n b)

both_first : (m n a b : ℕ) → a < 256 ^ m → little_endian (take m (le_bytes m a ++ le_bytes n b)) ≡ a
both_first m n a b h = ap little_endian (take_at (le_bytes m a) (le_bytes n b) m (le_count m a)) ∙ le_read m a h

both_rest : (m n a b : ℕ) → b < 256 ^ n → little_endian (drop m (le_bytes m a ++ le_bytes n b)) ≡ b
both_rest m n a b h = ap little_endian (drop_at (le_bytes m a) (le_bytes n b) m (le_count m a)) ∙ le_read n b h

view_fits : (low high : ℕ) → low < 2 ^ 64 → high < 2 ^ 64 → ViewIn16Bytes (view_of_halves low high)
view_fits low high l h =
    cond_both (ltb 12 (low % 2 ^ 32)) _ _ ViewIn16Bytes
    (λ e. (ltb-true 12 (low % 2 ^ 32) e, omega arith, omega arith, omega arith, omega arith))
    (λ e. (ltb-false 12 (low % 2 ^ 32) e, both_count 4 8 (low / 2 ^ 32) high, both_bytes 4 8 (low / 2 ^ 32) high))

from_halves : (v : View) → ViewIn16Bytes v → view_of_halves (halves v).0 (halves v).1 ≡ v
from_halves (short len inline) (l, n, u) =
    let s = first_below 4 8 inline n u in
    let e : (len + 2 ^ 32 * little_endian (take 4 inline)) % 2 ^ 32 ≡ len = omega arith in
    let d : (len + 2 ^ 32 * little_endian (take 4 inline)) / 2 ^ 32 ≡ little_endian (take 4 inline) = omega arith in
    words_same e d refl refl (ap (λ m. le_bytes 4 m ++ le_bytes 8 (little_endian (drop 4 inline))) d ∙ both_back 4 8 inline n u)
    ∙ cond-false (ltb 12 len) _ _ (le-ltb 12 len l)
from_halves (long len prefix position offset) (m, l, p, q, o) =
    words_same (let e : (len + 2 ^ 32 * prefix) % 2 ^ 32 ≡ len = omega arith in e) (let e : (len + 2 ^ 32 * prefix) / 2 ^ 32 ≡ prefix = omega arith in e)
    (let e : (position + 2 ^ 32 * offset) % 2 ^ 32 ≡ position = omega arith in e) (let e : (position + 2 ^ 32 * offset) / 2 ^ 32 ≡ offset = omega arith in e) refl
    ∙ cond-true (ltb 12 len) _ _ (lt-ltb 12 len m)

to_halves : (low high : ℕ) → low < 2 ^ 64 → high < 2 ^ 64 → halves (view_of_halves low high) ≡ (low, high)
to_halves low high l h =
    cond_both (ltb 12 (low % 2 ^ 32)) _ _ (λ v. halves v ≡ (low, high))
    (λ e. ap₂ {C = ℕ × ℕ} (λ a b. (a, b)) (whole low) (whole high))
    (λ e. ap₂ {C = ℕ × ℕ} (λ a b. (a, b))
    (ap (λ m. low % 2 ^ 32 + 2 ^ 32 * m) (both_first 4 8 (low / 2 ^ 32) high (omega arith)) ∙ whole low)
    (both_rest 4 8 (low / 2 ^ 32) high h))
  where
    whole : (v : ℕ) → v % 2 ^ 32 + 2 ^ 32 * (v / 2 ^ 32) ≡ v
    whole v = omega arith

view_length : (v : View) → length (view_bytes v) ≡ 16
view_length v = both_count 8 8 (halves v).0 (halves v).1

view_back : (v : View) → ViewIn16Bytes v → view_in (view_bytes v) ≡ v
view_back v f =
    view_read (view_bytes v) (view_length v) (both_bytes 8 8 (halves v).0 (halves v).1)
    ∙ ap₂ view_of_halves (both_first 8 8 (halves v).0 (halves v).1 (halves_fit v f).0) (both_rest 8 8 (halves v).0 (halves v).1 (halves_fit v f).1)
    ∙ from_halves v f

view_write : (bytes : List ℕ) → length bytes ≡ 16 → AllBelowBase 256 bytes → view_bytes (view_in bytes) ≡ bytes
view_write bytes n u =
    ap view_bytes (view_read bytes n u)
    ∙ ap (λ (h : ℕ × ℕ). le_bytes 8 h.0 ++ le_bytes 8 h.1)
    (to_halves (little_endian (take 8 bytes)) (little_endian (drop 8 bytes)) (first_below 8 8 bytes n u) (rest_below 8 8 bytes n u))
    ∙ both_back 8 8 bytes n u

in_fits : (bytes : List ℕ) → length bytes ≡ 16 → AllBelowBase 256 bytes → ViewIn16Bytes (view_in bytes)
in_fits bytes n u =
    subst ViewIn16Bytes (sym (view_read bytes n u))
    (view_fits (little_endian (take 8 bytes)) (little_endian (drop 8 bytes)) (first_below 8 8 bytes n u) (rest_below 8 8 bytes n u))

all_span : (P : ℕ → Type 0) (a n : ℕ) → ((i : ℕ) → i < a + n → P i) → AllByRecursion P (span a n)
all_span P a zero p = tt
all_span P a (suc n) p = (p a (omega arith), all_span P (suc a) n (λ i h. p i (omega arith)))

views_fit : (n : ℕ) (bytes : List ℕ) → length bytes ≡ 16 * n → AllBelowBase 256 bytes → AllByRecursion ViewIn16Bytes (views_in n bytes)
views_fit n bytes e u =
    All-map ViewIn16Bytes (λ i. view_in (slice bytes (16 * i) 16)) (span 0 n)
    (all_span (λ i. ViewIn16Bytes (view_in (slice bytes (16 * i) 16))) 0 n
    (λ i h. in_fits (slice bytes (16 * i) 16) (simp (length-take, length-drop) (omega arith)) (All-take (λ b. b < 256) 16 (drop (16 * i) bytes) (All-drop (λ b. b < 256) (16 * i) bytes u))))

pub views_read_back : ViewsReadBack
views_read_back =
    record {
      read = view_read;
      halves_fit = halves_fit;
      view_fits = view_fits;
      from_halves = from_halves;
      to_halves = to_halves;
      inline_kept = λ bytes l. cond-false (ltb 12 (value_at 4 bytes 0)) _ _ (le-ltb 12 (value_at 4 bytes 0) l);
      fits = in_fits;
      read_back = view_back;
      write_back = view_write;
      views_read = λ vs a. rows_read 16 view_bytes view_in vs (All-weaker ViewIn16Bytes (λ v. (length (view_bytes v) ≡ 16) × (view_in (view_bytes v) ≡ v)) (λ v f. (view_length v, view_back v f)) vs a);
      views_written = λ n bytes e u. rows_written 16 view_bytes view_in n bytes e u (λ c l h. view_write c l h);
      views_fit = views_fit;
    }

pub byte_examples : ByteExamples
byte_examples = record { nine_bits = refl; lowest_first = refl; highest_first = refl; minus_one = refl; highest = refl; short_view = refl; long_view = refl }
