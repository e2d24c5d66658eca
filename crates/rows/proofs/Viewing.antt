-- The parts of a view, by its halves.
use Rattle.std.proofs.Common.{◌≡◌, ℕ, zero, suc, ◌+◌, ◌-◌, ◌*◌, ◌/◌, ◌%◌, ◌^◌, ◌<◌, Bool, true, false, cond, ltb, List, ◌∷◌, ◌++◌, get_or, sym, refl, ap, ◌∙◌, ap₂, ⊎_elim, pow-suc, arith, pow-add}
use native.Mathlib.Nat.{div-div-eq-div-mul}
use Rattle.std.proofs.Math.Nat.{div-one}
use Rattle.std.specs.Int.{w64, byte_at, bytes_low_first, to_le_bytes}
use Rattle.columns.specs.Column.{short, long}
use Rattle.columns.specs.Bytes.{le_bytes}
use Rattle.std.proofs.lemmas.List.{get_or_append_left, get_or-append_right}
use Rattle.std.proofs.lemmas.Bool.{cases_lt, cond-true, cond-false, lt-ltb, le-ltb}
use Rattle.columns.proofs.Bytes.{numbers_read_back, views_read_back}
use Rattle.pools.specs.declared.records.View.{View as Halves}
use Rattle.rows.specs.declared.views.ViewParts.TheVariants.{Inline, Buffered}
use Rattle.pools.specs.Held.{view_from}
use Rattle.rows.specs.Views.{parts_of, view_parts, inline_byte}

chosen : (b : Bool) (len a p o : ℕ) (inline : List ℕ) → view_parts (cond b (long len a p o) (short len inline)) ≡ cond b (Buffered len a p o) (Inline len)
chosen true len a p o inline = refl
chosen false len a p o inline = refl

pub parts_seen : (h : Halves) → view_parts (view_from h) ≡ parts_of h
parts_seen h =
    chosen (ltb 12 (h.low % 2 ^ 32)) (h.low % 2 ^ 32) (h.low / 2 ^ 32) (h.high % 2 ^ 32) (h.high / 2 ^ 32) (le_bytes 4 (h.low / 2 ^ 32) ++ le_bytes 8 h.high)

pub long_view : (len prefix position offset : ℕ) → 12 < len → len < 2 ^ 32 → prefix < 2 ^ 32 → position < 2 ^ 32 → offset < 2 ^ 32 →
    view_from (record { low = len + 2 ^ 32 * prefix; high = position + 2 ^ 32 * offset }) ≡ long len prefix position offset
long_view len prefix position offset a b c d e = views_read_back.from_halves (long len prefix position offset) (a, b, c, d, e)

-- what a short view keeps after its length
short_inline : (b : Bool) (len a p o : ℕ) (inline : List ℕ) (len' : ℕ) (kept : List ℕ) → cond b (long len a p o) (short len inline) ≡ short len' kept → inline ≡ kept
short_inline true len a p o inline len' kept e = cc
short_inline false len a p o inline len' kept e = cc

pub byte_powers : (i : ℕ) → 256 ^ i ≡ 2 ^ (8 * i)
byte_powers zero = refl
byte_powers (suc i) =
    pow-suc 256 i ∙ ap (λ n. n * 256) (byte_powers i) ∙ sym (pow-add 2 (8 * i) 8) ∙ ap (λ n. 2 ^ n) (let e : 8 * i + 8 ≡ 8 * suc i = omega arith in e)

-- the library's bytes of a number, lowest first
nth_byte : (i v : ℕ) → byte_at i v ≡ v / 256 ^ i % 256
nth_byte zero v = ap (λ n. n % 256) (sym (div-one v))
nth_byte (suc i) v = refl

low_first : (i k v : ℕ) → bytes_low_first i k v ≡ le_bytes k (v / 256 ^ i)
low_first i zero v = refl
low_first i (suc k) v =
    ap₂ ◌∷◌ (nth_byte i v) (low_first (suc i) k v ∙ ap (le_bytes k) (ap (λ n. v / n) (pow-suc 256 i) ∙ sym (div-div-eq-div-mul v (256 ^ i) 256)))

pub eight_bytes : (v : ℕ) → to_le_bytes w64 v ≡ le_bytes 8 v
eight_bytes v = low_first 0 8 v ∙ ap (le_bytes 8) (div-one v)

pub byte_of_eight : (v i : ℕ) → i < 8 → get_or (to_le_bytes w64 v) i 0 ≡ v / 2 ^ (8 * i) % 256
byte_of_eight v i l =
    ap (λ (bs : List ℕ). get_or bs i 0) (eight_bytes v) ∙ numbers_read_back.little_byte 8 v i l ∙ ap (λ n. v / n % 256) (byte_powers i)

low_byte : (low i : ℕ) → low / 2 ^ 32 / 256 ^ i % 256 ≡ low / 2 ^ (8 * (i + 4)) % 256
low_byte low i =
    ap (λ n. n % 256)
    (div-div-eq-div-mul low (2 ^ 32) (256 ^ i) ∙ ap (λ n. low / (2 ^ 32 * n)) (byte_powers i) ∙ ap (λ n. low / n) (sym (pow-add 2 32 (8 * i)))
    ∙ ap (λ n. low / 2 ^ n) (let e : 32 + 8 * i ≡ 8 * (i + 4) = omega arith in e))

in_halves : (h : Halves) (i : ℕ) → i < 12 → get_or (le_bytes 4 (h.low / 2 ^ 32) ++ le_bytes 8 h.high) i 0 ≡ inline_byte h i
in_halves h i l =
    ⊎_elim
    (λ below.
    get_or_append_left (le_bytes 4 (h.low / 2 ^ 32)) (le_bytes 8 h.high) 0 i (omega (arith, numbers_read_back.little.byte_count 4 (h.low / 2 ^ 32)))
    ∙ numbers_read_back.little_byte 4 (h.low / 2 ^ 32) i below ∙ low_byte h.low i
    ∙ sym (cond-true (ltb i 4) (h.low / 2 ^ (8 * (i + 4)) % 256) (h.high / 2 ^ (8 * (i - 4)) % 256) (lt-ltb i 4 below)))
    (λ above.
    get_or-append_right (le_bytes 4 (h.low / 2 ^ 32)) (le_bytes 8 h.high) 4 i 0 (numbers_read_back.little.byte_count 4 (h.low / 2 ^ 32)) above
    ∙ numbers_read_back.little_byte 8 h.high (i - 4) (omega arith) ∙ ap (λ n. h.high / n % 256) (byte_powers (i - 4))
    ∙ sym (cond-false (ltb i 4) (h.low / 2 ^ (8 * (i + 4)) % 256) (h.high / 2 ^ (8 * (i - 4)) % 256) (le-ltb i 4 above)))
    (cases_lt i 4)

pub inline_told : (h : Halves) (i : ℕ) → i < 12 → (len : ℕ) (inline : List ℕ) → view_from h ≡ short len inline → inline_byte h i ≡ get_or inline i 0
inline_told h i l len inline e =
    sym (in_halves h i l)
    ∙ ap (λ (bs : List ℕ). get_or bs i 0)
    (short_inline (ltb 12 (h.low % 2 ^ 32)) (h.low % 2 ^ 32) (h.low / 2 ^ 32) (h.high % 2 ^ 32) (h.high / 2 ^ 32) (le_bytes 4 (h.low / 2 ^ 32) ++ le_bytes 8 h.high) len inline e)
