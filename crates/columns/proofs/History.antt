-- How a column came to be, as a tree of interleaves with filed columns at its leaves.
use Rattle.std.proofs.Common.{◌≡◌, ℕ, zero, suc, ◌<◌, List, [], ◌∷◌, map, length}
use Rattle.columns.specs.Column.{Column, nothing, rows_of, at}
use Rattle.columns.specs.Says.{span, says}
use Rattle.columns.specs.Gathering.{Pair, pair}
use Rattle.columns.specs.Interleave.{interleave}
use Rattle.columns.specs.Types.{SameType}
use Rattle.columns.specs.Sound.{Sound}
use Rattle.columns.specs.Promises.{Accepted}
use Rattle.columns.specs.Chain.{NoRunEnds, SameLayout}

-- How a column came to be: it was filed, or made from others by pairs.
mutual
  pub data History : Type 0 where
    filed : Column → History
    made : Histories → List Pair → History

  pub data Histories : Type 0 where
    none : Histories
    ◌also◌ : History → Histories → Histories

infixr 40 ◌also◌
unfoldable mutual
  pub column_of : History → Column
  column_of (filed c) = c
  column_of (made hs ps) = interleave (columns_of hs) ps

  pub columns_of : Histories → List Column
  columns_of none = []
  columns_of (h also hs) = column_of h ∷ columns_of hs

-- A filed row leads to itself; row k of an interleave leads to where its pair k leads.
unfoldable mutual
  pub leads_to : History → ℕ → Column × ℕ
  leads_to (filed c) r = (c, r)
  leads_to (made hs ps) k = source_leads hs (pair ps k).0 (pair ps k).1

  pub source_leads : Histories → ℕ → ℕ → Column × ℕ
  source_leads none a r = (nothing, r)
  source_leads (h also hs) zero r = leads_to h r
  source_leads (h also hs) (suc a) r = source_leads hs a r

-- Every interleave of the history was accepted.
module _ (data_buffer : ℕ → List ℕ) where
  unfoldable mutual
    pub WentWell : History → Type 0
    WentWell (filed c) = Sound data_buffer c
    WentWell (made hs ps) = (0 < length (columns_of hs)) × Accepted data_buffer (at (columns_of hs) 0) (columns_of hs) ps × AllWentWell hs

    pub AllWentWell : Histories → Type 0
    AllWentWell none = Unit {0}
    AllWentWell (h also hs) = WentWell h × AllWentWell hs

-- However a column was made, by whatever chain of interleaves, a direct interleave of filed columns by the rows that
-- its rows lead to has its offsets, views and buffer lists at every depth.
abbrev pub ChainsLayOutAsDirect : Type 0
ChainsLayOutAsDirect =
    (data_buffer : ℕ → List ℕ) (hs : Histories) (ps : List Pair) (F : List Column) (direct : List Pair) →
    WentWell data_buffer (made hs ps) → NoRunEnds (column_of (made hs ps)) →
    SameType (column_of (made hs ps)) (at F 0) →
    map (λ p. (at F p.0, p.1)) direct ≡ map (leads_to (made hs ps)) (span 0 (length ps)) →
    SameLayout (column_of (made hs ps)) (interleave F direct)

-- Every row says what the filed row says that it leads to.
abbrev pub RowsSayWhatTheyLeadTo : Type 0
RowsSayWhatTheyLeadTo =
    (data_buffer : ℕ → List ℕ) (h : History) → WentWell data_buffer h → (k : ℕ) → k < rows_of (column_of h) →
    says data_buffer (column_of h) k ≡ says data_buffer (leads_to h k).0 (leads_to h k).1
