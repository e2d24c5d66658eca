-- What a shelf makes of a call of the wire form.
use Rattle.std.specs.Prelude.{◌≡◌, ℕ, List, [], ◌∷◌, ◌++◌, length, drop, Result, Ok, Err}
use Rattle.columns.specs.Ledger as ledger
use Rattle.denials.specs.declared.Denial.{Denial}
use Rattle.denials.specs.Said.{number_of, detail_of}
use Rattle.wire.specs.declared.answer.Answer.{Answer}
use Rattle.wire.specs.declared.answer.Answer.TheVariants.{Filed, Row, No, Halt}
use Rattle.wire.specs.declared.call.Call.{Call}
use Rattle.wire.specs.declared.call.Call.TheVariants.{File, Interleave, Read}
use Rattle.wire.specs.Told.{told}
use Rattle.shelf.specs.declared.owner.Shelf.{Shelf}
use Rattle.shelf.specs.Led.{Led, lengths_in, next_answer}

-- The ledger's answer to a filing or a reading, in the wire form.
abbrev pub in_wire : ledger.Answer → Answer
in_wire (ledger.added column) = Filed column
in_wire (ledger.wrote text) = Row (length text)
in_wire (ledger.refused d) = No (number_of d) (detail_of d)

-- The text that is written stands in front of what the buffer had; with no text the buffer is left as it is.
abbrev pub with_text : ledger.Answer → (before : List ℕ) → List ℕ
with_text (ledger.added column) before = before
with_text (ledger.wrote text) before = text ++ drop (length text) before
with_text (ledger.refused d) before = before

-- A filing: whatever calls led to the shelf, it is one call more, and the ledger of those calls answers it. A denial leaves
-- the pools as they were; no pool gets longer or shorter, and the slip is left as it is.
pub record Files (parcel : List ℕ) (before after : Shelf) (a : Answer) : Type 0 where
  pub led : (calls : List ledger.Call) → Led calls before → Led (calls ++ ledger.adds (ledger.filing parcel) ∷ []) after
  pub answers : (calls : List ledger.Call) → Led calls before → a ≡ in_wire (next_answer before calls (ledger.adds (ledger.filing parcel)))
  pub denied : (number detail : ℕ) → a ≡ No number detail → after.pools ≡ before.pools
  pub lent : lengths_in after ≡ lengths_in before
  pub slip : after.slip ≡ before.slip

-- A reading: whatever calls led to the shelf, the ledger of those calls answers it, and its text is what is written.
pub record Reads (column row : ℕ) (s : Shelf) (text rewritten : List ℕ) (a : Answer) : Type 0 where
  pub answers : (calls : List ledger.Call) → Led calls s → a ≡ in_wire (next_answer s calls (ledger.reads column row (length text)))
  pub written : (calls : List ledger.Call) → Led calls s → rewritten ≡ with_text (next_answer s calls (ledger.reads column row (length text))) text

-- Parcels are filed and rows are read; an interleaving is not served, and changes nothing.
abbrev pub Serves : Call → (before after : Shelf) → (text rewritten : List ℕ) → Answer → Type 0
Serves (File parcel) before after text rewritten a = Files parcel.now before after a × (rewritten ≡ text)
Serves (Interleave columns pairs) before after text rewritten a = (a ≡ Halt) × (after ≡ before) × (rewritten ≡ text)
Serves (Read column row) before after text rewritten a = Reads column row before text rewritten a × (after ≡ before)

-- An answer, or the denial in its place.
abbrev pub answer_of : Result Answer Denial → Answer
answer_of (Ok a) = a
answer_of (Err d) = told d
