-- How bits, numbers and views lie in bytes, and that what was written reads back.
use Rattle.std.specs.Prelude.{◌≡◌, ℕ, zero, suc, ◌+◌, ◌-◌, ◌*◌, ◌/◌, ◌%◌, ◌^◌, ◌<◌, ◌≤◌, min, Bool, true, false, ◌↔◌, List, [], ◌∷◌, ◌++◌, map, reverse, length, take, drop, ℤ, pos, negsuc, ◌≤ℤ◌, bit_and, slice_index, slice_index_or}
use Rattle.std.proofs.Math.IntN.{sub_ℕ}
use Rattle.std.specs.Int.{Width}
use mir.Val.{to_z, bytes as width_bytes}
use Rattle.std.specs.List.{flat_map, AllByRecursion}
use Rattle.std.specs.Int.Digits.{AllBelowBase}
use Rattle.columns.specs.Column.{View, short, long, view_of, bytes_for}
use Rattle.columns.specs.Says.{span, slice}
use Rattle.columns.specs.Sound.{little_endian}
use Rattle.columns.specs.Reading.{big_endian}
use Rattle.columns.specs.Contents.{bit_at, bits_in, value_at, values_in, view_in, views_in}

abbrev pub digit : Bool → ℕ
digit true = 1
digit false = 0

-- the number that bits write, the lowest first
abbrev pub binary : List Bool → ℕ
binary [] = 0
binary (b ∷ bs) = digit b + 2 * binary bs

-- Bits lie eight to a byte, the lowest first; a last byte that is not full has 0 bits above them.
abbrev pub packed_byte : List Bool → ℕ → ℕ
packed_byte bs j = binary (slice bs (8 * j) 8)

abbrev pub packed : List Bool → List ℕ
packed bs = map (packed_byte bs) (span 0 (bytes_for (length bs)))

pub record BitsReadBack : Type 0 where
  pub byte_count : (bs : List Bool) → length (packed bs) ≡ bytes_for (length bs)
  pub byte_at : (bs : List Bool) (j : ℕ) → slice_index (packed bs) j ≡ packed_byte bs j
  pub each_byte : (bs : List Bool) → AllBelowBase 256 (packed bs)
  pub read_back : (bs : List Bool) → bits_in (length bs) (packed bs) ≡ bs
  -- bit i, and 0 past the end
  pub bit_is : (bs : List Bool) (i : ℕ) → bit_at (packed bs) i ≡ slice_index_or bs i false
  pub past_end : (bs : List Bool) (i : ℕ) → length bs ≤ i → bit_at (packed bs) i ≡ false
  -- bit i by a division or a mask, and where the bytes begin at place p of others
  pub by_division : (bs : List Bool) (i : ℕ) → slice_index (packed bs) (i / 8) / 2 ^ (i % 8) % 2 ≡ digit (slice_index_or bs i false)
  pub by_mask : (bs : List Bool) (i : ℕ) → bit_and (slice_index (packed bs) (i / 8) / 2 ^ (i % 8)) 1 ≡ digit (slice_index_or bs i false)
  pub at_place : (bytes : List ℕ) (p : ℕ) (bs : List Bool) (i : ℕ) → slice bytes p (bytes_for (length bs)) ≡ packed bs → i < length bs →
      slice_index bytes (p + i / 8) / 2 ^ (i % 8) % 2 ≡ digit (slice_index_or bs i false)
  -- a byte is built from its highest bit down, by `byte = 2 * byte + bit`, and has room for the next bit until it is whole
  pub one_lower : (bs : List Bool) (k n : ℕ) → binary (slice bs k (n + 1)) ≡ 2 * binary (slice bs (k + 1) n) + digit (slice_index_or bs k false)
  pub room : (bs : List Bool) (k n : ℕ) → binary (slice bs k n) < 2 ^ n
  pub whole : (bs : List Bool) (j stop : ℕ) → stop ≡ min (8 * j + 8) (length bs) → binary (slice bs (8 * j) (stop - 8 * j)) ≡ packed_byte bs j
  -- bits that agree with a buffer's, those past the end being 0, pack to that buffer
  pub packs_to : (bs : List Bool) (bytes : List ℕ) → length bytes ≡ bytes_for (length bs) → AllBelowBase 256 bytes →
      ((i : ℕ) → i < 8 * length bytes → bit_at bytes i ≡ slice_index_or bs i false) → packed bs ≡ bytes
  pub all_bits : (bytes : List ℕ) → AllBelowBase 256 bytes → packed (bits_in (8 * length bytes) bytes) ≡ bytes
  pub spare_bits : (n : ℕ) (bytes : List ℕ) → n ≤ 8 * length bytes → AllBelowBase 256 bytes →
      packed (bits_in n bytes ++ drop n (bits_in (8 * length bytes) bytes)) ≡ bytes

-- The w bytes of a number, the lowest or the highest first.
abbrev pub le_bytes : (w v : ℕ) → List ℕ
le_bytes zero v = []
le_bytes (suc w) v = v % 256 ∷ le_bytes w (v / 256)

abbrev pub be_bytes : (w v : ℕ) → List ℕ
be_bytes w v = reverse (le_bytes w v)

-- A number by its bytes: `write` gives w bytes of it, and `read` takes them back.
pub record NumberReadsBack (write : (w v : ℕ) → List ℕ) (read : List ℕ → ℕ) : Type 0 where
  pub byte_count : (w v : ℕ) → length (write w v) ≡ w
  pub each_byte : (w v : ℕ) → AllBelowBase 256 (write w v)
  pub read_back : (w v : ℕ) → v < 256 ^ w → read (write w v) ≡ v
  pub write_back : (bytes : List ℕ) → AllBelowBase 256 bytes → write (length bytes) (read bytes) ≡ bytes
  pub in_width : (bytes : List ℕ) → AllBelowBase 256 bytes → read bytes < 256 ^ length bytes

-- Two's complement: a top bit that is set takes 256 ^ w away.
abbrev pub signed : List ℕ → ℤ
signed bytes = sub_ℕ (little_endian bytes) (256 ^ length bytes * (slice_index bytes (length bytes - 1) / 128))

pub record NumbersReadBack : Type 0 where
  pub little : NumberReadsBack le_bytes little_endian
  pub big : NumberReadsBack be_bytes big_endian
  -- each byte by a division, and one byte more at the end
  pub little_byte : (w v i : ℕ) → i < w → slice_index (le_bytes w v) i ≡ v / 256 ^ i % 256
  pub big_byte : (w v i : ℕ) → i < w → slice_index (be_bytes w v) i ≡ v / 256 ^ (w - 1 - i) % 256
  pub one_higher : (bytes : List ℕ) (b : ℕ) → little_endian (bytes ++ b ∷ []) ≡ little_endian bytes + b * 256 ^ length bytes
  pub one_lower : (bytes : List ℕ) (b : ℕ) → big_endian (bytes ++ b ∷ []) ≡ 256 * big_endian bytes + b
  pub other_way : (bytes : List ℕ) → big_endian bytes ≡ little_endian (reverse bytes)
  -- values of one width, one after another
  pub value_bytes : (w : ℕ) (vs : List ℕ) → length (flat_map (le_bytes w) vs) ≡ w * length vs
  pub values_read : (w : ℕ) (vs : List ℕ) → AllBelowBase (256 ^ w) vs → values_in w (length vs) (flat_map (le_bytes w) vs) ≡ vs
  pub values_written : (w n : ℕ) (bytes : List ℕ) → length bytes ≡ w * n → AllBelowBase 256 bytes → flat_map (le_bytes w) (values_in w n bytes) ≡ bytes
  pub values_in_width : (w n : ℕ) (bytes : List ℕ) → AllBelowBase 256 bytes → AllBelowBase (256 ^ w) (values_in w n bytes)
  -- a number below 2 ^ (8 w - 1), whose top bit is 0, is the same number signed, and any other is below 0; a cast gives this
  pub same_signed : (bytes : List ℕ) → 0 < length bytes → AllBelowBase 256 bytes → little_endian bytes < 2 ^ (8 * length bytes - 1) → signed bytes ≡ pos (little_endian bytes)
  pub not_below_zero : (bytes : List ℕ) → 0 < length bytes → AllBelowBase 256 bytes → (pos 0 ≤ℤ signed bytes) ↔ (little_endian bytes < 2 ^ (8 * length bytes - 1))
  pub top_bit : (bytes : List ℕ) → 0 < length bytes → AllBelowBase 256 bytes → (slice_index bytes (length bytes - 1) < 128) ↔ (little_endian bytes < 2 ^ (8 * length bytes - 1))
  pub as_cast : (w : Width) (bytes : List ℕ) → length bytes ≡ width_bytes w → AllBelowBase 256 bytes → signed bytes ≡ to_z w (little_endian bytes)

-- A view lies in 16 bytes, two numbers of 64 bits: its length and prefix, and its position and offset. In a short view
-- the 12 bytes after the length are kept as they are, whatever stands after the text.
abbrev pub halves : View → ℕ × ℕ
halves (short len inline) = (len + 2 ^ 32 * little_endian (take 4 inline), little_endian (drop 4 inline))
halves (long len prefix position offset) = (len + 2 ^ 32 * prefix, position + 2 ^ 32 * offset)

abbrev pub view_of_halves : ℕ → ℕ → View
view_of_halves low high =
    view_of (low % 2 ^ 32) (low / 2 ^ 32) (high % 2 ^ 32) (high / 2 ^ 32) (le_bytes 4 (low / 2 ^ 32) ++ le_bytes 8 high)

abbrev pub view_bytes : View → List ℕ
view_bytes v = le_bytes 8 (halves v).0 ++ le_bytes 8 (halves v).1

abbrev pub ViewIn16Bytes : View → Type 0
ViewIn16Bytes (short len inline) = (len ≤ 12) × (length inline ≡ 12) × AllBelowBase 256 inline
ViewIn16Bytes (long len prefix position offset) = (12 < len) × (len < 2 ^ 32) × (prefix < 2 ^ 32) × (position < 2 ^ 32) × (offset < 2 ^ 32)

pub record ViewsReadBack : Type 0 where
  pub read : (bytes : List ℕ) → length bytes ≡ 16 → AllBelowBase 256 bytes →
      view_in bytes ≡ view_of_halves (little_endian (take 8 bytes)) (little_endian (drop 8 bytes))
  pub halves_fit : (v : View) → ViewIn16Bytes v → ((halves v).0 < 2 ^ 64) × ((halves v).1 < 2 ^ 64)
  pub view_fits : (low high : ℕ) → low < 2 ^ 64 → high < 2 ^ 64 → ViewIn16Bytes (view_of_halves low high)
  pub from_halves : (v : View) → ViewIn16Bytes v → view_of_halves (halves v).0 (halves v).1 ≡ v
  pub to_halves : (low high : ℕ) → low < 2 ^ 64 → high < 2 ^ 64 → halves (view_of_halves low high) ≡ (low, high)
  pub inline_kept : (bytes : List ℕ) → value_at 4 bytes 0 ≤ 12 → view_in bytes ≡ short (value_at 4 bytes 0) (drop 4 bytes)
  pub fits : (bytes : List ℕ) → length bytes ≡ 16 → AllBelowBase 256 bytes → ViewIn16Bytes (view_in bytes)
  -- 16 bytes a view, one after another
  pub read_back : (v : View) → ViewIn16Bytes v → view_in (view_bytes v) ≡ v
  pub write_back : (bytes : List ℕ) → length bytes ≡ 16 → AllBelowBase 256 bytes → view_bytes (view_in bytes) ≡ bytes
  pub views_read : (vs : List View) → AllByRecursion ViewIn16Bytes vs → views_in (length vs) (flat_map view_bytes vs) ≡ vs
  pub views_written : (n : ℕ) (bytes : List ℕ) → length bytes ≡ 16 * n → AllBelowBase 256 bytes → flat_map view_bytes (views_in n bytes) ≡ bytes
  pub views_fit : (n : ℕ) (bytes : List ℕ) → length bytes ≡ 16 * n → AllBelowBase 256 bytes → AllByRecursion ViewIn16Bytes (views_in n bytes)

-- Worked out.
pub record ByteExamples : Type 0 where
  pub nine_bits : packed (true ∷ false ∷ true ∷ false ∷ false ∷ false ∷ false ∷ false ∷ true ∷ []) ≡ 5 ∷ 1 ∷ []
  pub lowest_first : le_bytes 4 258 ≡ 2 ∷ 1 ∷ 0 ∷ 0 ∷ []
  pub highest_first : be_bytes 4 258 ≡ 0 ∷ 0 ∷ 1 ∷ 2 ∷ []
  pub minus_one : signed (255 ∷ 255 ∷ []) ≡ negsuc 0
  pub highest : signed (255 ∷ 127 ∷ []) ≡ pos 32767
  pub short_view : view_bytes (short 2 (97 ∷ 98 ∷ 0 ∷ 0 ∷ 0 ∷ 0 ∷ 0 ∷ 0 ∷ 0 ∷ 0 ∷ 0 ∷ 7 ∷ [])) ≡ 2 ∷ 0 ∷ 0 ∷ 0 ∷ 97 ∷ 98 ∷ 0 ∷ 0 ∷ 0 ∷ 0 ∷ 0 ∷ 0 ∷ 0 ∷ 0 ∷ 0 ∷ 7 ∷ []
  pub long_view : view_bytes (long 13 1684234849 1 258) ≡ 13 ∷ 0 ∷ 0 ∷ 0 ∷ 97 ∷ 98 ∷ 99 ∷ 100 ∷ 1 ∷ 0 ∷ 0 ∷ 0 ∷ 2 ∷ 1 ∷ 0 ∷ 0 ∷ []
