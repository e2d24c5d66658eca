-- What holds of every run: after any list of calls on a fresh shelf.
use Rattle.std.specs.Prelude.{◌≡◌, ℕ, ◌+◌, ◌<◌, ◌≤◌, false, List, [], ◌++◌, map, length, get_or, slice_index, slice_index_or}
use Rattle.std.proofs.Math.Option.{Option, some, none}
use Rattle.std.specs.List.{AllByRecursion}
use Rattle.columns.specs.Column.{Column, rows_of, at}
use Rattle.columns.specs.Says.{span, says}
use Rattle.columns.specs.Text.{text}
use Rattle.columns.specs.Gathering.{Pair, pair}
use Rattle.columns.specs.Interleave.{interleave}
use Rattle.columns.specs.Types.{SameType}
use Rattle.columns.specs.Sound.{Sound, ListsShelved}
use Rattle.columns.specs.Limits.{WithinLimits}
use Rattle.columns.specs.Widths.{Bytes, WithinWidths}
use Rattle.columns.specs.Checks.{Denial, denial}
use Rattle.columns.specs.Reading.{reached, Place}
use Rattle.columns.specs.Parcel.{Found, parcel_read}
use Rattle.columns.specs.Pools.{Entries, of_pool}
use Rattle.columns.specs.Laws.{Law, AtEveryDepth, RowLaw, RunLaw, BufferLaw, OffsetLaw, MaskLaw, EmptyLaw}
use Rattle.columns.specs.Chain.{NoRunEnds, SameLayout}
use Rattle.columns.specs.Ledger.{Line, filing, interleaving, Call, adds, reads, Ledger, empty, lines, first_lines, shelf_of, after, leads, column_at, columns_at, buffer_at, line_denial, call_denial, answer, added, wrote}

-- A ledger's columns and data buffers.
abbrev pub column_in : Ledger → ℕ → Column
column_in L j = column_at (shelf_of L) j

abbrev pub columns_in : Ledger → List ℕ → List Column
columns_in L js = columns_at (shelf_of L) js

abbrev pub buffer_in : Ledger → ℕ → List ℕ
buffer_in L b = buffer_at (shelf_of L) b

abbrev pub Filed : Ledger → ℕ → Type 0
Filed L j = (parcel : List ℕ) × (j < length (lines L)) × (slice_index_or (lines L) j (filing []) ≡ filing parcel)

abbrev pub Interleaved : Ledger → ℕ → List ℕ → List Pair → Type 0
Interleaved L j js ps = slice_index_or (lines L) j (filing []) ≡ interleaving js ps

-- Column c says what the parcel says, the buffers that it names being among `before`, those that earlier lines brought;
-- its own stand next to them, and later ones after.
pub record SaysParcel (before shelved : List (List ℕ)) (parcel : List ℕ) (c : Column) : Type 0 where
  pub found : Found
  pub place : Place
  pub decoded : parcel_read before parcel ≡ reached found place
  pub is_found : c ≡ found.found
  pub says_found : (k : ℕ) → says (λ b. get_or shelved b []) c k ≡ says (λ b. get_or place.buffers b []) found.found k
  pub later : (more : List (List ℕ)) × (shelved ≡ place.buffers ++ more)

abbrev pub OnlyFullPool : Option Denial → Type 0
OnlyFullPool none = Unit {0}
OnlyFullPool (some (denial number detail)) = number ≡ 13

-- A direct interleave of filed columns of column j's type, whose pair k names the filed row that row k leads to, and
-- that meets no denial but 13.
pub record Direct (lengths : Entries) (L : Ledger) (j : ℕ) (fs : List ℕ) (ds : List Pair) : Type 0 where
  pub filed : (i : ℕ) → i < length fs → Filed L (slice_index fs i)
  pub same_type : (i : ℕ) → i < length fs → SameType (column_in L j) (column_in L (slice_index fs i))
  pub named : map (λ p. (slice_index fs p.0, p.1)) ds ≡ map (leads L j) (span 0 (rows_of (column_in L j)))
  pub only_13 : OnlyFullPool (line_denial lengths (shelf_of L) (interleaving fs ds))

-- a law of every interleaved column, at any depth
abbrev pub AtAnyDepth : Ledger → Law → Type 0
AtAnyDepth L law =
    (j : ℕ) (js : List ℕ) (ps : List Pair) → Interleaved L j js ps → AtEveryDepth law false (column_in L j) (at (columns_in L js) 0) (columns_in L js) ps

-- the line's parcel, if it has one, is one of bytes
abbrev pub OfBytes : Line → Type 0
OfBytes (filing parcel) = Bytes parcel
OfBytes (interleaving js ps) = Unit {0}

-- Of pools 1 to 11, whose entries past 1,048,576 are unused.
abbrev pub WithinPools : (lengths marks : Entries) → Type 0
WithinPools lengths marks = (i : ℕ) → i < 11 → (of_pool marks (1 + i) ≤ of_pool lengths (1 + i)) × (of_pool marks (1 + i) ≤ 1048576)

pub record Kept (lengths : Entries) (L : Ledger) : Type 0 where
  -- line j is column j, made of its parcel or of earlier columns, with as many rows, and the answer to its call; no other
  -- column exists
  pub line_is_column : length (shelf_of L).columns ≡ length (lines L)
  pub says_its_parcel : (j : ℕ) (parcel : List ℕ) → j < length (lines L) → slice_index_or (lines L) j (filing []) ≡ filing parcel →
      SaysParcel (shelf_of (first_lines j L)).buffers (shelf_of L).buffers parcel (column_in L j)
  pub is_made : (j : ℕ) (js : List ℕ) (ps : List Pair) → Interleaved L j js ps → column_in L j ≡ interleave (columns_in L js) ps
  pub of_earlier : (j : ℕ) (js : List ℕ) (ps : List Pair) → Interleaved L j js ps → (j < length (lines L)) × AllByRecursion (λ i. i < j) js
  pub as_many_rows : (j : ℕ) (js : List ℕ) (ps : List Pair) → Interleaved L j js ps → rows_of (column_in L j) ≡ length ps
  pub line_is_answer : (l : Line) → line_denial lengths (shelf_of L) l ≡ none → answer lengths (shelf_of L) (adds l) ≡ added (length (lines L))
  -- every column is sound, lists shelved buffers and is within the limits; its numbers fit if every parcel was one of bytes
  pub sound : (j : ℕ) → j < length (lines L) → Sound (buffer_in L) (column_in L j)
  pub lists_shelved : (j : ℕ) → j < length (lines L) → ListsShelved (length (shelf_of L).buffers) (column_in L j)
  pub within_limits : (j : ℕ) → j < length (lines L) → WithinLimits (column_in L j)
  pub within_widths : AllByRecursion OfBytes (lines L) → (j : ℕ) → j < length (lines L) → WithinWidths (column_in L j)
  pub buffers_of_bytes : AllByRecursion OfBytes (lines L) → AllByRecursion Bytes (shelf_of L).buffers
  -- no mark passes its pool, and the slip's is back; pool 1 has an entry for each column, and pool 10 one for each data buffer
  pub marks_within : WithinPools lengths (shelf_of L).marks
  pub slip_back : of_pool (shelf_of L).marks 11 ≡ 0
  pub columns_counted : of_pool (shelf_of L).marks 1 ≡ length (lines L)
  pub buffers_counted : of_pool (shelf_of L).marks 10 ≡ length (shelf_of L).buffers
  -- a filed row leads to itself, and row k of an interleave to where its pair k leads
  pub filed_leads : (j k : ℕ) → Filed L j → leads L j k ≡ (j, k)
  pub pair_leads : (j : ℕ) (js : List ℕ) (ps : List Pair) → Interleaved L j js ps → (k : ℕ) → k < length ps → leads L j k ≡ leads L (slice_index js (pair ps k).0) (pair ps k).1
  -- every row leads to a filed row and says what that says; an accepted read writes exactly that
  pub leads_to_filed : (j k : ℕ) → j < length (lines L) → k < rows_of (column_in L j) →
      Filed L (leads L j k).0 × ((leads L j k).1 < rows_of (column_in L (leads L j k).0))
  pub says_what_it_leads_to : (j k : ℕ) → j < length (lines L) → k < rows_of (column_in L j) →
      says (buffer_in L) (column_in L j) k ≡ says (buffer_in L) (column_in L (leads L j k).0) (leads L j k).1
  pub read_writes_that : (j k room : ℕ) → call_denial lengths (shelf_of L) (reads j k room) ≡ none →
      answer lengths (shelf_of L) (reads j k room) ≡ wrote (text (says (buffer_in L) (column_in L (leads L j k).0) (leads L j k).1))
  -- at any depth of an interleaved column: what its rows hold, runs, buffer lists, offsets, masks, and nodes with no rows
  pub rows_held : AtAnyDepth L RowLaw
  pub runs : AtAnyDepth L RunLaw
  pub buffer_lists : AtAnyDepth L BufferLaw
  pub offsets : AtAnyDepth L OffsetLaw
  pub masks : AtAnyDepth L MaskLaw
  pub empty_nodes : AtAnyDepth L EmptyLaw
  -- a chain of interleaves lays out as the direct one
  pub as_direct : (j : ℕ) (js : List ℕ) (ps : List Pair) → Interleaved L j js ps → NoRunEnds (column_in L j) →
      (fs : List ℕ) (ds : List Pair) → Direct lengths L j fs ds → SameLayout (column_in L j) (interleave (columns_in L fs) ds)

-- After any list of calls on a fresh shelf, whatever the pools' lengths.
abbrev pub EveryRunKeepsItsPromises : Type 0
EveryRunKeepsItsPromises = (lengths : Entries) (calls : List Call) → Kept lengths (after lengths empty calls)

-- Later calls, accepted or denied, leave every shelved column as it is, and its rows say what they said.
abbrev pub ShelvedColumnsStay : Type 0
ShelvedColumnsStay =
    (lengths : Entries) (calls more : List Call) (j : ℕ) →
    let L : Ledger = after lengths empty calls in
    let M : Ledger = after lengths L more in
    j < length (lines L) →
    (slice_index_or (lines M) j (filing []) ≡ slice_index_or (lines L) j (filing [])) × (column_in M j ≡ column_in L j) × ((k : ℕ) → says (buffer_in M) (column_in M j) k ≡ says (buffer_in L) (column_in L j) k)
