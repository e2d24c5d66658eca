-- The plain ledger: which calls are accepted, the columns that its lines make, and where their rows lead.
use Rattle.std.specs.Prelude.{ℕ, Bool, cond, ◌&&◌, List, [], ◌∷◌, ◌++◌, map, length, drop, nat_le, nat_lt, slice_index, slice_index_or}
use Rattle.std.proofs.Math.Option.{Option, some, none}
use Rattle.columns.specs.Column.{Column, rows_of, at}
use Rattle.columns.specs.Says.{says}
use Rattle.columns.specs.Text.{text}
use Rattle.columns.specs.Gathering.{Pair, pair}
use Rattle.columns.specs.Interleave.{interleave}
use Rattle.columns.specs.Types.{alike}
use Rattle.columns.specs.Checks.{Denial, Check, unless, first_denial, first_failing, failing_place}
use Rattle.columns.specs.Reading.{Outcome, denied, reached, Place}
use Rattle.columns.specs.Parcel.{Found, parcel_read}
use Rattle.columns.specs.Pools.{Entries, plus, fits, full_pool, one_column, made_needs, filed_needs, making_checks}

-- A line: the parcel of a filed column, or the column numbers and pairs of an interleaved one.
pub data Line : Type 0 where
  filing : (parcel : List ℕ) → Line
  interleaving : (columns : List ℕ) → List Pair → Line

-- A call would add a line, or reads a row into a buffer of so many bytes.
pub data Call : Type 0 where
  adds : Line → Call
  reads : (column row room : ℕ) → Call

pub record Shelf : Type 0 where
  pub columns : List Column
  pub buffers : List (List ℕ)
  pub marks : Entries

abbrev pub fresh : Shelf
fresh = record { columns = []; buffers = []; marks = [] }

abbrev pub column_at : Shelf → ℕ → Column
column_at s j = at s.columns j

abbrev pub columns_at : Shelf → List ℕ → List Column
columns_at s js = map (column_at s) js

abbrev pub buffer_at : Shelf → ℕ → List ℕ
buffer_at s b = slice_index_or s.buffers b []

-- `interleave` checks 5, 11, 6, 7, 13 for pool 1; then node by node.
abbrev pub known : Shelf → ℕ → Bool
known s j = nat_lt j (length s.columns)

abbrev pub inside : List Column → Pair → Bool
inside S p = nat_lt p.0 (length S) && nat_lt p.1 (rows_of (at S p.0))

abbrev pub interleave_checks : Entries → Shelf → List ℕ → List Pair → List Check
interleave_checks lengths s js ps =
    (5, unless (nat_lt 0 (length js)) (length js)) ∷ (5, unless (nat_le (length js) 64) (length js)) ∷ (5, unless (nat_le (length ps) 1048576) (length ps))
    ∷ (11, first_failing (known s) js)
    ∷ (6, failing_place (alike (at (columns_at s js) 0)) 0 (columns_at s js))
    ∷ (7, failing_place (inside (columns_at s js)) 0 ps)
    ∷ (13, unless (fits lengths s.marks one_column 1) 1)
    ∷ making_checks lengths (plus s.marks one_column) (interleave (columns_at s js) ps)

-- `file` checks what `parcel_read` checks as it reads, then 12 and 4 by node, then 13.
abbrev pub new_buffers : Shelf → Place → List (List ℕ)
new_buffers s p = drop (length s.buffers) p.buffers

abbrev pub file_checks : Entries → Shelf → Found → Place → List Check
file_checks lengths s f p = f.checks ++ (13, full_pool lengths s.marks (filed_needs f.found (new_buffers s p))) ∷ []

abbrev pub file_denial : Entries → Shelf → Outcome Found → Option Denial
file_denial lengths s (denied d) = some d
file_denial lengths s (reached f p) = first_denial (file_checks lengths s f p)

abbrev pub line_denial : Entries → Shelf → Line → Option Denial
line_denial lengths s (filing parcel) = file_denial lengths s (parcel_read s.buffers parcel)
line_denial lengths s (interleaving js ps) = first_denial (interleave_checks lengths s js ps)

-- `read` checks 11, 7, 10, and writes the text of what the row says.
abbrev pub row_text : Shelf → ℕ → ℕ → List ℕ
row_text s j r = text (says (buffer_at s) (column_at s j) r)

abbrev pub read_checks : Shelf → ℕ → ℕ → ℕ → List Check
read_checks s j r room =
    (11, unless (known s j) j) ∷ (7, unless (nat_lt r (rows_of (column_at s j))) r) ∷ (10, unless (nat_le (length (row_text s j r)) room) room) ∷ []

abbrev pub call_denial : Entries → Shelf → Call → Option Denial
call_denial lengths s (adds l) = line_denial lengths s l
call_denial lengths s (reads j r room) = first_denial (read_checks s j r room)

-- what a line adds
abbrev pub filed_on : Shelf → Outcome Found → Shelf
filed_on s (denied d) = s
filed_on s (reached f p) =
    record { columns = s.columns ++ f.found ∷ []; buffers = p.buffers; marks = plus s.marks (filed_needs f.found (new_buffers s p)) }

abbrev pub made_on : Shelf → Column → Shelf
made_on s c = record { columns = s.columns ++ c ∷ []; buffers = s.buffers; marks = plus s.marks (made_needs c) }

abbrev pub put : Shelf → Line → Shelf
put s (filing parcel) = filed_on s (parcel_read s.buffers parcel)
put s (interleaving js ps) = made_on s (interleave (columns_at s js) ps)

pub data Ledger : Type 0 where
  empty : Ledger
  ◌then◌ : Ledger → Line → Ledger

infixl 40 ◌then◌
abbrev pub lines : Ledger → List Line
lines empty = []
lines (L then l) = lines L ++ l ∷ []

unfoldable pub shelf_of : Ledger → Shelf
shelf_of empty = fresh
shelf_of (L then l) = put (shelf_of L) l

abbrev pub first_lines : (j : ℕ) → Ledger → Ledger
first_lines j empty = empty
first_lines j (L then l) = cond (nat_lt (length (lines L)) j) (L then l) (first_lines j L)

-- An accepted call that would add a line adds it; denied calls and reads add none.
abbrev pub add_unless : Option Denial → Ledger → Line → Ledger
add_unless none L l = L then l
add_unless (some d) L l = L

abbrev pub next : Entries → Ledger → Call → Ledger
next lengths L (adds l) = add_unless (line_denial lengths (shelf_of L) l) L l
next lengths L (reads j r room) = L

abbrev pub after : Entries → Ledger → List Call → Ledger
after lengths L [] = L
after lengths L (c ∷ cs) = after lengths (next lengths L c) cs

-- A filed row leads to itself; row k of an interleave leads to where its pair k leads. A row is (column, row).
abbrev pub line_leads : (ℕ → ℕ → ℕ × ℕ) → Line → ℕ → ℕ → ℕ × ℕ
line_leads before (filing parcel) j k = (j, k)
line_leads before (interleaving js ps) j k = before (slice_index js (pair ps k).0) (pair ps k).1

unfoldable pub leads : Ledger → ℕ → ℕ → ℕ × ℕ
leads empty j k = (j, k)
leads (L then l) j k = cond (nat_lt j (length (lines L))) (leads L j k) (line_leads (leads L) l j k)

-- The answer to a call: the number of the column that it added, the text that it wrote, or a denial.
pub data Answer : Type 0 where
  added : (column : ℕ) → Answer
  wrote : (text : List ℕ) → Answer
  refused : Denial → Answer

abbrev pub unless_denied : Option Denial → Answer → Answer
unless_denied none a = a
unless_denied (some d) a = refused d

abbrev pub answer : Entries → Shelf → Call → Answer
answer lengths s (adds l) = unless_denied (line_denial lengths s l) (added (length s.columns))
answer lengths s (reads j r room) = unless_denied (first_denial (read_checks s j r room)) (wrote (row_text s j r))

abbrev pub answers : Entries → Ledger → List Call → List Answer
answers lengths L [] = []
answers lengths L (c ∷ cs) = answer lengths (shelf_of L) c ∷ answers lengths (next lengths L c) cs
