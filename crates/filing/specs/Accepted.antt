-- A parcel that is accepted.
use Rattle.std.specs.Prelude.{◌≡◌, ℕ, List, [], ◌∷◌, ◌++◌}
use Rattle.std.proofs.Math.Option.{none}
use Rattle.columns.specs.Parcel.{parcel_read}
use Rattle.columns.specs.Ledger.{Shelf, file_denial}
use Rattle.pools.specs.declared.pools.Pools.{Pools}
use Rattle.pools.specs.Marked.{lengths_of, entries}
use Rattle.pools.specs.Store.{store}
use Rattle.pools.specs.Shows.{Shows}
use Rattle.parcels.specs.declared.draft.Draft.{Draft}
use Rattle.parcels.specs.Drafts.{Outlined}

-- The pools show a shelf, the drafts are the parcel's nodes, and nothing denies it; the slip has so many entries.
pub record Accepted (p : Pools) (slip : ℕ) (s : Shelf) (parcel : List ℕ) (ds : List Draft) : Type 0 where
  pub shows : Shows (store p) s
  pub outlined : Outlined s.buffers parcel ds
  pub undenied : file_denial (entries (lengths_of p) ++ slip ∷ []) s (parcel_read s.buffers parcel) ≡ none
