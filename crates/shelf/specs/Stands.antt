-- Pools as a list of calls on a fresh shelf leaves them.
use Rattle.std.specs.Prelude.{ℕ, List, [], ◌∷◌, ◌++◌}
use Rattle.std.specs.List.{AllByRecursion}
use Rattle.columns.specs.Pools.{Entries}
use Rattle.columns.specs.Ledger.{Call, Ledger, empty, lines, shelf_of, after}
use Rattle.columns.specs.Run.{OfBytes}
use Rattle.pools.specs.declared.pools.Pools.{Pools}
use Rattle.pools.specs.Marked.{lengths_of, entries}
use Rattle.pools.specs.Kept.{Ready}
use Rattle.pools.specs.Store.{store}
use Rattle.pools.specs.Shows.{Shows}

-- the lengths of pools 1 to 11, the slip being the last
abbrev pub lengths : Pools → (slip : ℕ) → Entries
lengths p slip = entries (lengths_of p) ++ slip ∷ []

-- the ledger that the calls make, fed the calls alone, the lengths known
abbrev pub ledger : Pools → (slip : ℕ) → List Call → Ledger
ledger p slip calls = after (lengths p slip) empty calls

-- The marks are in range, every parcel was one of bytes, and what lies below the marks is the ledger's shelf.
pub record Stands (calls : List Call) (p : Pools) (slip : ℕ) : Type 0 where
  pub ready : Ready p
  pub of_bytes : AllByRecursion OfBytes (lines (ledger p slip calls))
  pub shows : Shows (store p) (shelf_of (ledger p slip calls))

-- some calls led here
abbrev pub Reached : Pools → (slip : ℕ) → Type 0
Reached p slip = (calls : List Call) × Stands calls p slip
