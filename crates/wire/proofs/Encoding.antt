-- Decoding gives back what was encoded.
use Rattle.std.proofs.Common.{◌≡◌, ℕ, ◌+◌, ◌*◌, ◌≤◌, List, ◌∷◌, ◌++◌, length, take, drop, Ok, refl, sym, ap, ◌∙◌, ap₂, append_assoc, arith}
use Rattle.std.specs.List.{flat_map}
use Rattle.std.proofs.lemmas.List.{length-append, take_at, drop_at}
use Rattle.std.proofs.lemmas.Bool.{cond-false, le-ltb}
use Rattle.wire.specs.Calls.{file, interleave, read, whole, front, call_in, most_bytes, u16_at, u32_at, columns_in, pairs_in, kind_of, head_size, call_size, at_least, within, reach}
use Rattle.wire.specs.Encoded.{u16_bytes, u32_bytes, pair_bytes, encoded, DecodingGivesBack}
use Rattle.wire.specs.declared.kind.Kind.{Kind}
use Rattle.wire.specs.declared.kind.Kind.TheVariants.{File, Interleave, Read}
use Rattle.wire.proofs.Reaching.{there_is}
use Rattle.wire.proofs.Entries.{u16_back, u32_back, columns_back, pairs_back, entries_length, entries_back}

-- A call is there whole whose head tells a size that is there.
reach_is : (k : Kind) (input : List ℕ) (size : ℕ) →
    head_size k ≤ length input → call_size k input ≡ size → size ≤ most_bytes → size ≤ length input → reach k input ≡ Ok size
reach_is k input size head is small there =
    let fits : within (call_size k input) ≡ Ok tt = cond-false _ _ _ (le-ltb most_bytes (call_size k input) (omega arith)) in
    let all : at_least input (call_size k input) ≡ Ok tt = there_is input (call_size k input) (omega arith) in
    rw (there_is input (head_size k) head, fits, all) (ap Ok is)

front_is : (l : ℕ) (fields : List ℕ) (k : Kind) (size : ℕ) → kind_of l ≡ Ok k → reach k (l ∷ fields) ≡ Ok size →
    front (l ∷ fields) ≡ whole (call_in k (l ∷ fields)) (drop size (l ∷ fields))
front_is l fields k size known reached = rw (there_is (l ∷ fields) 1 (omega arith), known, reached) refl

file_back : (parcel rest : List ℕ) → length (encoded (file parcel)) ≤ most_bytes → front (encoded (file parcel) ++ rest) ≡ whole (file parcel) rest
file_back parcel rest small =
    let input : List ℕ = encoded (file parcel) ++ rest in
    let n : ℕ = length parcel in
    let told : u32_at input 1 ≡ n = u32_back n (parcel ++ rest) in
    let long : length input ≡ 5 + length (parcel ++ rest) = omega arith in
    let more = length-append parcel rest in
    let has : reach File input ≡ Ok (5 + n) = reach_is File input (5 + n) (omega arith) (ap (λ m. 5 + m) told) (omega arith) (omega arith) in
    front_is 70 (u32_bytes n ++ parcel ++ rest) File (5 + n) refl has
    ∙ ap₂ whole (ap (λ m. file (take m (parcel ++ rest))) told ∙ ap file (take_at parcel rest n refl))
    (drop_at (encoded (file parcel)) rest (5 + n) (omega arith))

read_back : (column row : ℕ) (rest : List ℕ) → front (encoded (read column row) ++ rest) ≡ whole (read column row) rest
read_back column row rest =
    let input : List ℕ = encoded (read column row) ++ rest in
    let has : reach Read input ≡ Ok 9 = reach_is Read input 9 (omega arith) refl (omega arith) (omega arith) in
    front_is 82 (u32_bytes column ++ u32_bytes row ++ rest) Read 9 refl has
    ∙ ap (λ c. whole c rest) (ap₂ read (u32_back column (u32_bytes row ++ rest)) (u32_back row rest))

interleave_back : (cs : List ℕ) (ps : List (ℕ × ℕ)) (rest : List ℕ) →
    length (encoded (interleave cs ps)) ≤ most_bytes → front (encoded (interleave cs ps) ++ rest) ≡ whole (interleave cs ps) rest
interleave_back cs ps rest small =
    let s : ℕ = length cs in
    let m : ℕ = length ps in
    let A : List ℕ = flat_map u32_bytes cs in
    let B : List ℕ = flat_map pair_bytes ps in
    let head : List ℕ = 73 ∷ (u16_bytes s ++ u32_bytes m) in
    let input : List ℕ = encoded (interleave cs ps) ++ rest in
    let a = entries_length columns_back cs in
    let b = entries_length pairs_back ps in
    let ab = length-append A B in
    let size : length (encoded (interleave cs ps)) ≡ 7 + 4 * s + 6 * m = omega arith in
    let all = length-append (encoded (interleave cs ps)) rest in
    let told_s : u16_at input 1 ≡ s = u16_back s (u32_bytes m ++ (A ++ B ++ rest)) in
    let told_m : u32_at input 3 ≡ m = u32_back m (A ++ B ++ rest) in
    let has : reach Interleave input ≡ Ok (7 + 4 * s + 6 * m) =
    reach_is Interleave input (7 + 4 * s + 6 * m) (omega arith) (ap₂ (λ x y. 7 + 4 * x + 6 * y) told_s told_m) (omega arith) (omega arith) in
    let first : input ≡ head ++ (A ++ (B ++ rest)) = ap (λ xs. head ++ xs) (append_assoc A B rest) in
    let second : input ≡ (head ++ A) ++ (B ++ rest) = first ∙ sym (append_assoc head A (B ++ rest)) in
    let before : length (head ++ A) ≡ 7 + 4 * s = omega arith in
    let columns : columns_in input 7 s ≡ cs = ap (λ xs. columns_in xs 7 s) first ∙ entries_back columns_back head cs (B ++ rest) 0 in
    let pairs : pairs_in input (7 + 4 * s) m ≡ ps =
    ap₂ (λ xs from. pairs_in xs from m) second (sym before) ∙ entries_back pairs_back (head ++ A) ps rest (0, 0) in
    front_is 73 (u16_bytes s ++ (u32_bytes m ++ (A ++ B ++ rest))) Interleave (7 + 4 * s + 6 * m) refl has
    ∙ ap₂ whole
    (ap₂ interleave (ap (columns_in input 7) told_s ∙ columns) (ap₂ (λ x y. pairs_in input (7 + 4 * x) y) told_s told_m ∙ pairs))
    (drop_at (encoded (interleave cs ps)) rest (7 + 4 * s + 6 * m) size)

pub decoding_gives_back : DecodingGivesBack
decoding_gives_back (file parcel) rest small = file_back parcel rest small
decoding_gives_back (interleave columns pairs) rest small = interleave_back columns pairs rest small
decoding_gives_back (read column row) rest small = read_back column row rest
