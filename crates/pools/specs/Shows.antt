-- The shelf of the ledger that the pools stand for.
use Rattle.std.specs.Prelude.{◌≡◌, ℕ, ◌<◌, List, [], ◌∷◌, ◌++◌, map, length}
use Rattle.columns.specs.Column.{Column}
use Rattle.columns.specs.Pools.{Entries, of_pool, pools, plus}
use Rattle.columns.specs.Column.{at}
use Rattle.columns.specs.Ledger.{Shelf}
use Rattle.std.specs.List.{AllByRecursion}
use Rattle.pools.specs.declared.records.Part.{Part}
use Rattle.pools.specs.declared.records.ColumnEntry.{ColumnEntry}
use Rattle.pools.specs.Parts.{buffers_in, Inside}
use Rattle.pools.specs.Store.{Store, Extends, root_of}
use Rattle.pools.specs.Stored.{Stored}

-- Each column is stored where its entry says.
pub record ColumnsShown (P : Store) (columns : List Column) : Type 0 where
  pub count : length P.columns ≡ length columns
  pub stored : (j : ℕ) → j < length columns → Stored P (root_of P j) (at columns j)

-- Each data buffer lies in the byte pool, and these are their bytes.
pub record Shelved (P : Store) (buffers : List (List ℕ)) : Type 0 where
  pub inside : AllByRecursion (Inside P.bytes) P.buffers
  pub are : buffers_in P.bytes P.buffers ≡ buffers

-- how many entries of each pool are used; the slip is free between calls
abbrev pub counts : Store → Entries
counts P =
    length P.columns ∷ length P.nodes ∷ length P.bytes ∷ length P.shorts ∷ length P.words ∷ length P.longs
    ∷ length P.offsets ∷ length P.views ∷ length P.lists ∷ length P.buffers ∷ 0 ∷ []

pub record Shows (P : Store) (s : Shelf) : Type 0 where
  pub columns : ColumnsShown P s.columns
  pub buffers : Shelved P s.buffers
  pub marks : map (of_pool s.marks) pools ≡ counts P

-- Q is P with one more column, data buffers that lie at the parts `new`, and so many entries more.
pub record Added (P Q : Store) (c : Column) (new : List Part) (taken : Entries) : Type 0 where
  pub extends : Extends P Q
  pub entry : ColumnEntry
  pub columns : Q.columns ≡ P.columns ++ entry ∷ []
  pub stored : Stored Q entry.root c
  pub buffers : Q.buffers ≡ P.buffers ++ new
  pub inside : AllByRecursion (Inside Q.bytes) new
  pub counted : counts Q ≡ plus (counts P) taken

-- the shelf with one more column
abbrev pub with_column : Shelf → Column → (buffers : List (List ℕ)) → (taken : Entries) → Shelf
with_column s c buffers taken = record { columns = s.columns ++ c ∷ []; buffers = buffers; marks = plus s.marks taken }
