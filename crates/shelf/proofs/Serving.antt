-- The answers of the wire form, from those of a filing and of a reading.
use Rattle.std.proofs.Common.{◌≡◌, ℕ, List, [], ◌∷◌, ◌++◌, Ok, Err, length, Result, ap}
use Rattle.columns.specs.Ledger as ledger
use Rattle.denials.specs.declared.Denial.{Denial}
use Rattle.denials.specs.Said.{number_of, detail_of}
use Rattle.wire.specs.declared.answer.Answer.{Answer}
use Rattle.wire.specs.declared.answer.Answer.TheVariants.{Filed, Row, No}
use Rattle.wire.specs.Told.{told}
use Rattle.reading.specs.Answers.{Gives}
use Rattle.shelf.specs.declared.owner.Shelf.{Shelf}
use Rattle.shelf.specs.Answers.{answered, Left}
use Rattle.shelf.specs.Led.{Led, lengths_in, next_answer}
use Rattle.shelf.specs.Served.{Files, Reads, in_wire, with_text}

-- The answer of a filing.
abbrev pub filed : Result ℕ Denial → Answer
filed (Ok column) = Filed column
filed (Err d) = told d

in_wire_filed : (r : Result ℕ Denial) (a : ledger.Answer) → answered r ≡ a → filed r ≡ in_wire a
in_wire_filed (Ok column) a is = ap in_wire is
in_wire_filed (Err d) a is = ap in_wire is

left_if_denied : (r : Result ℕ Denial) (s t : Shelf) → Left r s.pools t.pools → (number detail : ℕ) → filed r ≡ No number detail → t.pools ≡ s.pools
left_if_denied (Ok column) s t left number detail is = cc
left_if_denied (Err d) s t left number detail is = left

pub files : (r : Result ℕ Denial) (parcel : List ℕ) (s t : Shelf) →
    ((calls : List ledger.Call) → Led calls s → Led (calls ++ ledger.adds (ledger.filing parcel) ∷ []) t) →
    ((calls : List ledger.Call) → Led calls s → answered r ≡ next_answer s calls (ledger.adds (ledger.filing parcel))) →
    Left r s.pools t.pools → lengths_in t ≡ lengths_in s → t.slip ≡ s.slip → Files parcel s t (filed r)
files r parcel s t led answers left lent slip =
    record {
      led = led;
      answers = λ calls l. in_wire_filed r (next_answer s calls (ledger.adds (ledger.filing parcel))) (answers calls l);
      denied = left_if_denied r s t left;
      lent = lent;
      slip = slip;
    }

-- The answer of a reading, and the text that it leaves.
abbrev pub read : Result ℕ Denial → Answer
read (Ok n) = Row n
read (Err d) = told d

answer_read : (r : Result ℕ Denial) (a : ledger.Answer) (text rewritten : List ℕ) → Gives r a text rewritten → read r ≡ in_wire a
answer_read (Ok n) (ledger.added column) text rewritten h = absurd h
answer_read (Ok n) (ledger.wrote t) text rewritten h = ap Row h.count
answer_read (Ok n) (ledger.refused d) text rewritten h = absurd h
answer_read (Err e) (ledger.added column) text rewritten h = absurd h
answer_read (Err e) (ledger.wrote t) text rewritten h = absurd h
answer_read (Err e) (ledger.refused d) text rewritten h = ap (λ x. No (number_of x) (detail_of x)) h.0

text_read : (r : Result ℕ Denial) (a : ledger.Answer) (text rewritten : List ℕ) → Gives r a text rewritten → rewritten ≡ with_text a text
text_read (Ok n) (ledger.added column) text rewritten h = absurd h
text_read (Ok n) (ledger.wrote t) text rewritten h = h.front
text_read (Ok n) (ledger.refused d) text rewritten h = absurd h
text_read (Err e) (ledger.added column) text rewritten h = absurd h
text_read (Err e) (ledger.wrote t) text rewritten h = absurd h
text_read (Err e) (ledger.refused d) text rewritten h = h.1

pub reads : (r : Result ℕ Denial) (column row : ℕ) (s : Shelf) (text rewritten : List ℕ) →
    ((calls : List ledger.Call) → Led calls s → Gives r (next_answer s calls (ledger.reads column row (length text))) text rewritten) →
    Reads column row s text rewritten (read r)
reads r column row s text rewritten gives =
    let next : List ledger.Call → ledger.Answer = λ calls. next_answer s calls (ledger.reads column row (length text)) in
    record {
      answers = λ calls l. answer_read r (next calls) text rewritten (gives calls l);
      written = λ calls l. text_read r (next calls) text rewritten (gives calls l);
    }
