-- The laws of what is stored.
use Rattle.std.specs.Prelude.{◌≡◌, ℕ, ◌<◌, List, ◌++◌, length}
use Rattle.columns.specs.Column.{Column}
use Rattle.columns.specs.Pools.{Entries}
use Rattle.columns.specs.Ledger.{Shelf, fresh, column_at}
use Rattle.pools.specs.declared.records.Part.{Part}
use Rattle.pools.specs.declared.pools.Pools.{Pools}
use Rattle.pools.specs.Marked.{marked, no_marks}
use Rattle.pools.specs.Parts.{buffers_in}
use Rattle.pools.specs.Kept.{Kept}
use Rattle.pools.specs.Store.{Store, Extends, store, root_of}
use Rattle.pools.specs.Stored.{Stored}
use Rattle.pools.specs.Bare.{bare}
use Rattle.pools.specs.Shows.{Shows, Added, with_column}

-- What is stored stays stored while the pools only grow.
pub record StoredStays : Type 0 where
  pub column_stays : (P Q : Store) (i : ℕ) (c : Column) → Extends P Q → Stored P i c → Stored Q i c
  pub pools_stay : (p q : Pools) (i : ℕ) (c : Column) → Kept p q → Stored (store p) i c → Stored (store q) i c

-- A place stores one column, but for spare bits.
abbrev pub StoredIsOne : Type 0
StoredIsOne = (P : Store) (i : ℕ) (c d : Column) → Stored P i c → Stored P i d → bare c ≡ bare d

-- Pools with all marks 0 show the fresh shelf. Pools to which a column and data buffers were added show the shelf with
-- them, and each earlier column as it was.
pub record ShelfIsShown : Type 0 where
  pub fresh_shown : (p : Pools) → Shows (store (marked no_marks p)) fresh
  pub added_shown : (P Q : Store) (s : Shelf) (c : Column) (new : List Part) (taken : Entries) → Added P Q c new taken → Shows P s →
      Shows Q (with_column s c (s.buffers ++ buffers_in Q.bytes new) taken)
  pub others_stay : (P Q : Store) (s : Shelf) (j : ℕ) → Extends P Q → Shows P s → j < length s.columns → Stored Q (root_of Q j) (column_at s j)
