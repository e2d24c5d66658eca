-- The answers to calls that would add a column, as the ledger gives them.
use Rattle.std.specs.Prelude.{◌≡◌, ℕ, Ok, Err, Result}
use Rattle.columns.specs.Ledger.{Answer, added, refused}
use Rattle.denials.specs.declared.Denial.{Denial}
use Rattle.denials.specs.Said.{said}
use Rattle.pools.specs.declared.pools.Pools.{Pools}

abbrev pub answered : Result ℕ Denial → Answer
answered (Ok column) = added column
answered (Err d) = refused (said d)

-- A denial leaves the pools as they were, down to their free entries.
abbrev pub Left : Result ℕ Denial → (before after : Pools) → Type 0
Left (Ok column) before after = Unit {0}
Left (Err d) before after = after ≡ before
