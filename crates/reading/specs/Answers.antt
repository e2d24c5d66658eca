-- The answers of a reading, and the shelf that it is of.
use Rattle.std.specs.Prelude.{◌≡◌, ℕ, ◌<◌, ◌≤◌, List, ◌++◌, length, take, drop, Some, None, Ok, Err, Option, Result}
use Rattle.columns.specs.Ledger.{Shelf, column_at, buffer_at, Answer, added, wrote, refused}
use Rattle.columns.specs.Limits.{most_levels, depth}
use Rattle.columns.specs.Sound.{Sound}
use Rattle.reading.specs.declared.ink.Full.{Full}
use Rattle.denials.specs.declared.Denial.{Denial}
use Rattle.denials.specs.Said.{said}
use Rattle.pools.specs.Store.{Store}
use Rattle.pools.specs.Shows.{Shows}

-- A text t, of n bytes, stands in front of what a buffer had.
pub record Stands (t : List ℕ) (n : ℕ) (before after : List ℕ) : Type 0 where
  pub count : n ≡ length t
  pub fits : length t ≤ length before
  pub front : after ≡ t ++ drop (length t) before

-- A text that is too long leaves the buffer as it was.
pub record TooLong (t before after : List ℕ) : Type 0 where
  pub longer : length before < length t
  pub same : after ≡ before

abbrev pub Placed : Option ℕ → (t before after : List ℕ) → Type 0
Placed (Some n) t before after = Stands t n before after
Placed None t before after = TooLong t before after

-- A text that is too long fills the buffer with its front.
pub record Overfull (t before after : List ℕ) : Type 0 where
  pub longer : length before < length t
  pub front : after ≡ take (length before) t

abbrev pub Filled : Result ℕ Full → (t before after : List ℕ) → Type 0
Filled (Ok n) t before after = Stands t n before after
Filled (Err e) t before after = Overfull t before after

-- The pools show a shelf whose columns are sound and not too deep.
pub record ShelfReadable (P : Store) (s : Shelf) : Type 0 where
  pub shows : Shows P s
  pub sound : (j : ℕ) → j < length s.columns → Sound (buffer_at s) (column_at s j)
  pub shallow : (j : ℕ) → j < length s.columns → depth (column_at s j) ≤ most_levels

-- The answer of the ledger: its text stands in the buffer, or its denial is given and the buffer is as it was.
abbrev pub Gives : Result ℕ Denial → Answer → (before after : List ℕ) → Type 0
Gives (Ok n) (added column) before after = ⊥
Gives (Ok n) (wrote t) before after = Stands t n before after
Gives (Ok n) (refused d) before after = ⊥
Gives (Err e) (added column) before after = ⊥
Gives (Err e) (wrote t) before after = ⊥
Gives (Err e) (refused d) before after = (said e ≡ d) × (after ≡ before)
