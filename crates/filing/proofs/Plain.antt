-- What storing needs to know of an accepted parcel, and that it has at most one proof.
use Rattle.std.proofs.Common.{ℕ, ◌≤◌, List, map, length, Some, None, Option}
use mathlib.Core.HLevel.{Unit-prop}
use mathlib.Core.Logic.{∥∥₁_elim}
use native.Mathlib.Nat.{ℕ_set}
use native.Mathlib.Bridge.{le_prop}
use Rattle.std.specs.List.{AllByRecursion, AllByRecursion-prop}
use Rattle.columns.specs.Ledger.{Shelf}
use Rattle.pools.specs.declared.pool.Pool.{Pool}
use Rattle.pools.specs.declared.pools.Pools.{Pools}
use Rattle.pools.specs.declared.pools.Marks.{Marks}
use Rattle.pools.specs.Kept.{Ready}
use Rattle.pools.specs.Used.{Fit}
use Rattle.parcels.specs.declared.draft.Draft.{Draft}
use Rattle.parcels.specs.Drafts.{Drafted}
use Rattle.filing.specs.Row.{spans_of}
use Rattle.filing.specs.Counts.{children_in}
use Rattle.pools.specs.declared.records.Part.{Part}
use Rattle.soundness.specs.Sizes.{MaskFilled, Filled}
use Rattle.filing.specs.Filed.{Fits, takes_all}
use Rattle.filing.specs.Accepted.{Accepted}
use Rattle.filing.proofs.Accepting.{told, spans_low}

pub record Plain (p : Pools) (parcel : List ℕ) (ds : List Draft) : Type 0 where
  pub filled : AllByRecursion Filled ds
  pub column_room : Fit p.columns 1
  pub room : Fits p (takes_all parcel ds)
  pub low : AllByRecursion (λ (s : ℕ). s ≤ 256) (spans_of (map children_in ds))

fit_prop : {X : Type 0} (p : Pool X) (n : ℕ) → IsProp (Fit p n)
fit_prop p n = λ x y i. record { lent = le_prop x.lent y.lent i; capped = le_prop x.capped y.capped i }

fits_prop : (p : Pools) (m : Marks) → IsProp (Fits p m)
fits_prop p m = λ x y i.
    record {
      columns = fit_prop p.columns m.columns x.columns y.columns i;
      nodes = fit_prop p.nodes m.nodes x.nodes y.nodes i;
      bytes = fit_prop p.bytes m.bytes x.bytes y.bytes i;
      shorts = fit_prop p.shorts m.shorts x.shorts y.shorts i;
      words = fit_prop p.words m.words x.words y.words i;
      longs = fit_prop p.longs m.longs x.longs y.longs i;
      offsets = fit_prop p.offsets m.offsets x.offsets y.offsets i;
      views = fit_prop p.views m.views x.views y.views i;
      lists = fit_prop p.lists m.lists x.lists y.lists i;
      buffers = fit_prop p.buffers m.buffers x.buffers y.buffers i;
    }

mask_filled_prop : (mask : Option Part) (rows : ℕ) → IsProp (MaskFilled rows mask)
mask_filled_prop None rows = Unit-prop
mask_filled_prop (Some p) rows = ℕ_set _ _

filled_prop : (d : Draft) → IsProp (Filled d)
filled_prop d = λ x y i. record { mask = mask_filled_prop d.parts.mask d.head.rows x.mask y.mask i; body = ℕ_set _ _ x.body y.body i }

plain_prop : (p : Pools) (parcel : List ℕ) (ds : List Draft) → IsProp (Plain p parcel ds)
plain_prop p parcel ds = λ x y i.
    record {
      filled = AllByRecursion-prop Filled filled_prop ds x.filled y.filled i;
      column_room = fit_prop p.columns 1 x.column_room y.column_room i;
      room = fits_prop p (takes_all parcel ds) x.room y.room i;
      low = AllByRecursion-prop (λ (s : ℕ). s ≤ 256) (λ s. le_prop) (spans_of (map children_in ds)) x.low y.low i;
    }

pub plain : (p : Pools) (parcel : List ℕ) (ds : List Draft) → Ready p → AllByRecursion (Drafted parcel) ds → length ds ≤ 256 →
    ∥ ((s : Shelf) × (slip : ℕ) × Accepted p slip s parcel ds) ∥₁ → Plain p parcel ds
plain p parcel ds ready drafted few accepted =
    ∥∥₁_elim accepted (plain_prop p parcel ds) (λ a.
    let t = told p a.1 a.0 parcel ds ready drafted a.2 in
    record { filled = t.filled; column_room = t.column_room; room = t.room; low = spans_low p parcel ds t.c t.listed few })
