-- How far a call reaches, as more of it is read.
use Rattle.std.proofs.Common.{◌≡◌, ℕ, ◌+◌, ◌-◌, ◌*◌, ◌<◌, ◌≤◌, ◌⊎◌, List, [], ◌∷◌, ◌++◌, length, take, Result, Ok, Err, sym, refl, ap, ◌∙◌, ap₂, inl, inr, arith, rules}
use Rattle.std.proofs.lemmas.List.{get_or_append_left, length-append, length-take-le, take-append-le}
use Rattle.std.proofs.lemmas.Bool.{cond-false, le-ltb}
use Rattle.std.proofs.Math.Seq.{take-append-add}
use borrow.Rule.Slice.PartMut.{put_mid, post_of}
use Rattle.wire.specs.Calls.{head_size, call_size, kind_of, ◌>>=◌, at_least, reach, extent_of, OneCall, u16_at, u32_at, most_bytes}
use Rattle.wire.specs.declared.kind.Kind.{Kind}
use Rattle.wire.specs.declared.kind.Kind.TheVariants.{File, Interleave, Read}
use Rattle.wire.specs.declared.call.Unread.{Unread}
use Rattle.wire.specs.declared.call.Unread.TheVariants.{CutOff}
use Rattle.wire.proofs.Entries.{u16_same, u32_same}

-- What is known of a call that is there whole, and of one that lacks some bytes.
abbrev pub Whole : Kind → List ℕ → ℕ → Type 0
Whole k xs size = (head_size k ≤ length xs) × (call_size k xs ≤ length xs) × (size ≡ call_size k xs)

abbrev pub Short : Kind → List ℕ → ℕ → Type 0
Short k xs m = ((length xs < head_size k) × (m ≡ head_size k - length xs))
    ⊎ ((head_size k ≤ length xs) × (length xs < call_size k xs) × (m ≡ call_size k xs - length xs))

reach_whole : (k : Kind) (xs : List ℕ) (size : ℕ) → reach k xs ≡ Ok size → Whole k xs size
reach_whole k xs size e = search rules

reach_short : (k : Kind) (xs : List ℕ) (m : ℕ) → reach k xs ≡ Err (CutOff m) → Short k xs m
reach_short k xs m e = search rules

-- A number that is there already stays as more is read.
u16_on : (xs more : List ℕ) (i : ℕ) → i + 2 ≤ length xs → u16_at (xs ++ more) i ≡ u16_at xs i
u16_on xs more i h = u16_same (xs ++ more) i xs i (λ k l. get_or_append_left xs more 0 (i + k) (omega arith))

u32_on : (xs more : List ℕ) (i : ℕ) → i + 4 ≤ length xs → u32_at (xs ++ more) i ≡ u32_at xs i
u32_on xs more i h = u32_same (xs ++ more) i xs i (λ k l. get_or_append_left xs more 0 (i + k) (omega arith))

-- What a whole head tells stays as more is read.
size_on : (k : Kind) (xs more : List ℕ) → head_size k ≤ length xs → call_size k (xs ++ more) ≡ call_size k xs
size_on File xs more h = ap (λ n. 5 + n) (u32_on xs more 1 (omega arith))
size_on Interleave xs more h = ap₂ (λ n m. 7 + 4 * n + 6 * m) (u16_on xs more 1 (omega arith)) (u32_on xs more 3 (omega arith))
size_on Read xs more h = refl

at_least_head : (k : Kind) (xs : List ℕ) → head_size k ≤ call_size k xs
at_least_head File xs = omega arith
at_least_head Interleave xs = omega arith
at_least_head Read xs = omega arith

-- One that lacks some bytes and gets no more than these is no longer than what is there.
reach_on : (k : Kind) (xs more : List ℕ) (m size : ℕ) → Short k xs m → length more ≤ m → Whole k (xs ++ more) size → size ≡ length (xs ++ more)
reach_on k xs more m size (inl (short, is)) fits (head, whole, sized) =
    let a = length-append xs more in let b = at_least_head k (xs ++ more) in omega arith
reach_on k xs more m size (inr (there, short, is)) fits (head, whole, sized) =
    let a = length-append xs more in let b = size_on k xs more there in omega arith

-- A kind with a size, and the size alone.
abbrev pub with_kind : Kind → Result ℕ Unread → Result (Kind × ℕ) Unread
with_kind kind r = do
  size ← r
  Ok (kind, size)

abbrev pub size_of : Result (Kind × ℕ) Unread → Result ℕ Unread
size_of r = do
  call ← r
  Ok call.1

size_alone : (k : Kind) (r : Result ℕ Unread) → size_of (with_kind k r) ≡ r
size_alone k (Ok size) = refl
size_alone k (Err e) = refl

-- How far the call reaches whose letter has this kind.
abbrev pub reach_by : Result Kind Unread → List ℕ → Result ℕ Unread
reach_by known input = size_of (known >>= λ kind. with_kind kind (reach kind input))

known_on : (known : Result Kind Unread) (xs more : List ℕ) (m size : ℕ) → reach_by known xs ≡ Err (CutOff m) → length more ≤ m →
    reach_by known (xs ++ more) ≡ Ok size → size ≡ length (xs ++ more)
known_on (Ok k) xs more m size e fits whole =
    reach_on k xs more m size (reach_short k xs m (sym (size_alone k (reach k xs)) ∙ e)) fits
    (reach_whole k (xs ++ more) size (sym (size_alone k (reach k (xs ++ more))) ∙ whole))
known_on (Err u) xs more m size e fits whole = cc

-- What is there is not lacking, and a letter that is there tells the kind.
pub there_is : (xs : List ℕ) (size : ℕ) → size ≤ length xs → at_least xs size ≡ Ok tt
there_is xs size h = cond-false _ _ _ (le-ltb (length xs) size h)

pub lettered : (l : ℕ) (xs : List ℕ) → extent_of (l ∷ xs) ≡ reach_by (kind_of l) (l ∷ xs)
lettered l xs =
    ap (λ r. size_of (r >>= λ _. kind_of l >>= λ kind. with_kind kind (reach kind (l ∷ xs)))) (there_is (l ∷ xs) 1 (omega arith))

-- A letter alone is no whole call.
one_byte : (known : Result Kind Unread) (b size : ℕ) → reach_by known (b ∷ []) ≡ Ok size → size ≡ 1
one_byte (Ok File) b size e = cc
one_byte (Ok Interleave) b size e = cc
one_byte (Ok Read) b size e = cc
one_byte (Err u) b size e = cc

pub one_call_on : (xs more : List ℕ) (m : ℕ) → extent_of xs ≡ Err (CutOff m) → length more ≤ m → OneCall (xs ++ more)
one_call_on [] [] m e fits size whole = cc
one_call_on [] (b ∷ []) m e fits size whole = one_byte (kind_of b) b size (sym (lettered b []) ∙ whole)
one_call_on [] (b ∷ d ∷ bs) m e fits size whole = let one : m ≡ 1 = cc in absurd (omega arith)
one_call_on (l ∷ xs) more m e fits size whole =
    known_on (kind_of l) (l ∷ xs) more m size (sym (lettered l xs) ∙ e) fits (sym (lettered l (xs ++ more)) ∙ whole)

-- What lacks some bytes has room for them.
pub lacks_room : (xs : List ℕ) (m : ℕ) → extent_of xs ≡ Err (CutOff m) → length xs + m ≤ most_bytes
lacks_room xs m e = search rules

-- What a read of n bytes leaves at the front: what was there, and those.
pub front_on : (f k n : ℕ) (held buf : List ℕ) → f ≤ length held → n ≤ length buf → take (f + n) (put_mid f k held buf) ≡ take f held ++ take n buf
front_on f k n held buf inside fits =
    ap (λ m. take (m + n) (put_mid f k held buf)) (sym (length-take-le f held inside))
    ∙ (take-append-add (take f held) (buf ++ post_of f k held) n ∙ ap (λ xs. take f held ++ xs) (take-append-le n buf (post_of f k held) fits))
