-- The calls that led to a shelf, and what their ledger answers next.
use Rattle.std.specs.Prelude.{List, length}
use Rattle.columns.specs.Pools.{Entries}
use Rattle.columns.specs.Ledger.{Call, Ledger, Answer, answer}
use Rattle.columns.specs.Ledger as ledgers
use Rattle.shelf.specs.declared.owner.Shelf.{Shelf}
use Rattle.shelf.specs.Stands.{Stands, lengths, ledger}

-- The shelf stands for these calls, made in order on a fresh one.
abbrev pub Led : List Call → Shelf → Type 0
Led calls s = Stands calls s.pools (length s.slip.now)

-- the ledger of the calls, which knows of the shelf only how long its pools are
abbrev pub ledger_of : Shelf → List Call → Ledger
ledger_of s calls = ledger s.pools (length s.slip.now) calls

abbrev pub lengths_in : Shelf → Entries
lengths_in s = lengths s.pools (length s.slip.now)

-- what the ledger of the calls answers to the next
abbrev pub next_answer : Shelf → List Call → Call → Answer
next_answer s calls call = answer (lengths_in s) (ledgers.shelf_of (ledger_of s calls)) call
