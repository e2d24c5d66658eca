-- Calls as bytes: a letter and its fields, most significant byte first.
use Rattle.std.specs.Prelude.{◌≡◌, ℕ, zero, suc, ◌+◌, ◌-◌, ◌*◌, if◌then◌else◌, List, [], ◌∷◌, ◌++◌, length, take, drop, vec_items, ◌==◌, nat_lt, slice_index, Result, Ok, Err, IsOk}
use Rattle.wire.specs.declared.call.Call as code
use Rattle.wire.specs.declared.call.Call.TheVariants as variant
use Rattle.wire.specs.declared.call.Unread.{Unread}
use Rattle.wire.specs.declared.call.Unread.TheVariants.{CutOff, Unknown, TooLong}
use Rattle.wire.specs.declared.call.DecodeError.{DecodeError}
use Rattle.wire.specs.declared.call.DecodeError.TheVariants as error
use Rattle.wire.specs.declared.kind.Kind.{Kind}
use Rattle.wire.specs.declared.kind.Kind.TheVariants.{File, Interleave, Read}
use denote.Ref.{Bor}

-- What a call asks.
pub data Call : Type 0 where
  file : (parcel : List ℕ) → Call
  interleave : (columns : List ℕ) (pairs : List (ℕ × ℕ)) → Call
  read : (column row : ℕ) → Call

-- What the front of an input is: a call and the bytes after it, or why no call can be read there, which is the beginning of
-- a call with how many bytes it lacks at least, no call's letter, or a call that is too long.
abbrev pub Front : Type 0
Front = Result (Call × List ℕ) Unread

abbrev pub whole : Call → (rest : List ℕ) → Front
whole call rest = Ok (call, rest)

-- A call has at most so many bytes, letter and fields included.
abbrev pub most_bytes : ℕ
most_bytes = 65536

-- The number of 16 or 32 bits that begins at byte i.
abbrev pub u16_at : List ℕ → ℕ → ℕ
u16_at input i = 256 * slice_index input i + slice_index input (i + 1)

abbrev pub u32_at : List ℕ → ℕ → ℕ
u32_at input i = 16777216 * slice_index input i + 65536 * slice_index input (i + 1) + 256 * slice_index input (i + 2) + slice_index input (i + 3)

-- The pair that begins at byte i.
abbrev pub pair_at : List ℕ → ℕ → ℕ × ℕ
pair_at input i = (u16_at input i, u32_at input (i + 2))

-- By its letter: F is 70, I is 73, R is 82.
abbrev pub kind_of : (letter : ℕ) → Result Kind Unread
kind_of letter = if letter == 70 then Ok File else (if letter == 73 then Ok Interleave else (if letter == 82 then Ok Read else Err Unknown))

-- The head of a call, from its letter on, tells how many bytes the whole has.
abbrev pub head_size : Kind → ℕ
head_size File = 5
head_size Interleave = 7
head_size Read = 9

abbrev pub call_size : Kind → List ℕ → ℕ
call_size File input = 5 + u32_at input 1
call_size Interleave input = 7 + 4 * u16_at input 1 + 6 * u32_at input 3
call_size Read input = 9

infixl 10 ◌>>=◌
abbrev pub ◌>>=◌ : {A B : Type 0} → Result A Unread → (A → Result B Unread) → Result B Unread
Ok x >>= f = f x
Err e >>= f = Err e

-- That an input has so many bytes at least, and that a call has no more than it may.
abbrev pub at_least : List ℕ → (size : ℕ) → Result (Unit {0}) Unread
at_least input size = if nat_lt (length input) size then Err (CutOff (size - length input)) else Ok tt

abbrev pub within : (size : ℕ) → Result (Unit {0}) Unread
within size = if nat_lt most_bytes size then Err TooLong else Ok tt

-- The size of the call of this kind whose bytes, as far as they are there, these are.
abbrev pub reach : Kind → List ℕ → Result ℕ Unread
reach kind input = do
  _ ← at_least input (head_size kind)
  _ ← within (call_size kind input)
  _ ← at_least input (call_size kind input)
  Ok (call_size kind input)

-- The kind and the size of the call that the input begins with, all of it being there.
abbrev pub measured : List ℕ → Result (Kind × ℕ) Unread
measured input = do
  _ ← at_least input 1
  kind ← kind_of (slice_index input 0)
  size ← reach kind input
  Ok (kind, size)

abbrev pub extent_of : List ℕ → Result ℕ Unread
extent_of input = do
  call ← measured input
  Ok call.1

-- The first n entries of those that begin at byte `from`, each of so many bytes; `at` reads the one that begins at a byte.
abbrev pub entries_in : {X : Type 0} → (at : ℕ → X) → (from each n : ℕ) → List X
entries_in at from each zero = []
entries_in at from each (suc n) = entries_in at from each n ++ at (from + each * n) ∷ []

-- The first n column numbers, and the first n pairs, of those that begin at byte `from`.
abbrev pub columns_in : List ℕ → (from n : ℕ) → List ℕ
columns_in input from n = entries_in (u32_at input) from 4 n

abbrev pub pairs_in : List ℕ → (from n : ℕ) → List (ℕ × ℕ)
pairs_in input from n = entries_in (pair_at input) from 6 n

-- The call of this kind that the input begins with, all of it being there.
abbrev pub call_in : Kind → List ℕ → Call
call_in File input = file (take (u32_at input 1) (drop 5 input))
call_in Interleave input = interleave (columns_in input 7 (u16_at input 1)) (pairs_in input (7 + 4 * u16_at input 1) (u32_at input 3))
call_in Read input = read (u32_at input 1) (u32_at input 5)

abbrev pub front : List ℕ → Front
front input = do
  call ← measured input
  Ok (call_in call.0 input, drop call.1 input)

-- Not a byte stands after the call that these bytes begin with.
abbrev pub OneCall : List ℕ → Type 0
OneCall input = (size : ℕ) → extent_of input ≡ Ok size → size ≡ length input

-- What the code's calls stand for.
abbrev pub meant : code.Call → Call
meant (variant.File parcel) = file parcel.now
meant (variant.Interleave columns pairs) = interleave (vec_items columns) (vec_items pairs)
meant (variant.Read column row) = read column row

-- A decoded input tells what its front is; memory is wanting for a call alone.
abbrev pub Tells : Result (code.Call × Bor (List ℕ)) DecodeError → Front → Type 0
Tells (Ok (call, rest)) front = whole (meant call) rest.now ≡ front
Tells (Err (error.Unread why)) front = Err why ≡ front
Tells (Err (error.Memory e)) front = IsOk front
