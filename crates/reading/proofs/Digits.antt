-- Numbers by their digits, one byte more.
use Rattle.std.proofs.Common.{◌≡◌, ℕ, zero, suc, ◌+◌, ◌-◌, ◌*◌, ◌/◌, ◌%◌, ◌^◌, ◌<◌, ◌≤◌, List, [], ◌++◌, get_or, sym, ap, ◌∙◌, subst, inl, inr, pow-suc, append_assoc, arith}
use Rattle.std.proofs.Math.Nat.{div-div-eq-div-mul, div-one, div-eq_of_lt, mul_comm}
use Rattle.std.specs.List.{flat_map}
use Rattle.columns.specs.Text.{hex_byte, hex_number}
use Rattle.columns.specs.Bytes.{le_bytes}
use Rattle.std.proofs.Math.Pow.{pow_mono}
use Rattle.rows.proofs.Viewing.{byte_powers, byte_of_eight}
use Rattle.std.specs.Int.{w64, to_le_bytes}
use Rattle.std.proofs.lemmas.Bool.{cases_lt}
use Rattle.std.proofs.lemmas.List.{get_or_past}

next_power : (v k : ℕ) → v / 256 / 256 ^ k ≡ v / 256 ^ suc k
next_power v k = div-div-eq-div-mul v 256 (256 ^ k) ∙ ap (λ n. v / n) (mul_comm 256 (256 ^ k) ∙ sym (pow-suc 256 k))

-- the highest byte of w + 1 stands first
pub number_more : (w v : ℕ) → hex_number (suc w) v ≡ hex_byte (v / 256 ^ w % 256) ++ hex_number w v
number_more zero v = ap (λ n. hex_byte (n % 256)) (sym (div-one v))
number_more (suc w) v =
    ap (λ (t : List ℕ). t ++ hex_byte (v % 256)) (number_more w (v / 256))
    ∙ append_assoc (hex_byte (v / 256 / 256 ^ w % 256)) (hex_number w (v / 256)) (hex_byte (v % 256))
    ∙ ap (λ n. hex_byte (n % 256) ++ (hex_number w (v / 256) ++ hex_byte (v % 256))) (next_power v w)

-- the lowest byte of those from k on stands first
pub bytes_more : (n k v : ℕ) → k < n → flat_map hex_byte (le_bytes (n - k) (v / 256 ^ k)) ≡ hex_byte (v / 256 ^ k % 256) ++ flat_map hex_byte (le_bytes (n - (k + 1)) (v / 256 ^ (k + 1)))
bytes_more n k v h =
    ap (λ m. flat_map hex_byte (le_bytes m (v / 256 ^ k))) (let e : n - k ≡ suc (n - (k + 1)) = omega arith in e)
    ∙ ap (λ a. hex_byte (v / 256 ^ k % 256) ++ flat_map hex_byte (le_bytes (n - (k + 1)) a))
    (div-div-eq-div-mul v (256 ^ k) 256 ∙ ap (λ m. v / m) (sym (pow-suc 256 k)) ∙ ap (λ j. v / 256 ^ j) (let e : suc k ≡ k + 1 = omega arith in e))

pub bytes_none : (n k v : ℕ) → n ≤ k → flat_map hex_byte (le_bytes (n - k) (v / 256 ^ k)) ≡ []
bytes_none n k v h = ap (λ m. flat_map hex_byte (le_bytes m (v / 256 ^ k))) (let e : n - k ≡ 0 = omega arith in e)

-- a number of eight bytes has no others
pub no_byte : (v k : ℕ) → v < 2 ^ 64 → 8 ≤ k → 0 ≡ v / 256 ^ k % 256
no_byte v k h l =
    let more : 2 ^ 64 ≤ 2 ^ (8 * k) = pow_mono {i = 64} {j = 8 * k} (omega arith) in
    let less : v < 256 ^ k = subst (λ n. v < n) (sym (byte_powers k)) (omega arith) in
    sym (ap (λ n. n % 256) (div-eq_of_lt less))

pub byte_read : (v k : ℕ) → v < 2 ^ 64 → get_or (to_le_bytes w64 v) k 0 ≡ v / 256 ^ k % 256
byte_read v k h = elim (cases_lt k 8) [
  | inl l ↦ byte_of_eight v k l ∙ ap (λ n. v / n % 256) (sym (byte_powers k))
  | inr l ↦ get_or_past (to_le_bytes w64 v) k 0 l ∙ no_byte v k h l
]
