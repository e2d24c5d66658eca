-- What stands for the shelf, and what an examined parcel is.
use Rattle.std.specs.Prelude.{◌≡◌, ℕ, List, length, drop}
use Rattle.std.specs.List.{AllByRecursion}
use Rattle.columns.specs.Ledger.{Shelf}
use Rattle.columns.specs.Pools.{of_pool, filed_needs}
use Rattle.pools.specs.declared.records.Part.{Part}
use Rattle.pools.specs.Parts.{buffers_in}
use Rattle.parcels.specs.declared.draft.Draft.{Draft}
use Rattle.parcels.specs.Drafts.{Drafted, Outlined}
use Rattle.pools.specs.declared.entries.Entries.{Entries}
use Rattle.pools.specs.Marked.{listed}

-- The shelf has these data buffers, whose bytes lie in the pool of bytes, and these marks; its pools have these lengths.
pub record Stands (lengths : List ℕ) (s : Shelf) (bytes : List ℕ) (buffers : List Part) (long used : Entries) : Type 0 where
  pub held : s.buffers ≡ buffers_in bytes buffers
  pub ends : (pool : ℕ) → of_pool lengths pool ≡ of_pool (listed long) pool
  pub marks : (pool : ℕ) → of_pool s.marks pool ≡ of_pool (listed used) pool

-- The drafts outline the parcel's column, their parts lie in the parcel, and the needs are those of the column.
pub record Examined (shelved : List (List ℕ)) (parcel : List ℕ) (drafts : List Draft) (needs : Entries) : Type 0 where
  pub outlined : Outlined shelved parcel drafts
  pub drafted : AllByRecursion (Drafted parcel) drafts
  pub needed : listed needs ≡ filed_needs outlined.f.found (drop (length shelved) outlined.last.buffers)
