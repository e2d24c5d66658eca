-- What standing pools give those who read and add.
use Rattle.std.proofs.Common.{ℕ, List, arith}
use native.Mathlib.Bridge.{le_prop}
use Rattle.columns.specs.Ledger.{Call, shelf_of}
use Rattle.columns.specs.Run.{Kept}
use Rattle.columns.proofs.Parcel.{parcel_is_sound}
use Rattle.columns.proofs.Ledger.{every_run}
use Rattle.pools.specs.declared.pool.Pool.{Pool}
use Rattle.pools.specs.declared.pools.Pools.{Pools}
use Rattle.pools.specs.Kept as kept
use Rattle.pools.specs.Store.{store}
use Rattle.reading.specs.Answers.{ShelfReadable}
use Rattle.shelf.specs.Stands.{lengths, ledger, Stands}

standing_prop : {X : Type 0} (p : Pool X) → IsProp (kept.Standing p)
standing_prop p = λ x y i. record { fits = le_prop x.fits y.fits i; capped = le_prop x.capped y.capped i }

pub ready_prop : (p : Pools) → IsProp (kept.Ready p)
ready_prop p = λ x y i.
    record {
      columns = standing_prop p.columns x.columns y.columns i;
      nodes = standing_prop p.nodes x.nodes y.nodes i;
      bytes = standing_prop p.bytes x.bytes y.bytes i;
      shorts = standing_prop p.shorts x.shorts y.shorts i;
      words = standing_prop p.words x.words y.words i;
      longs = standing_prop p.longs x.longs y.longs i;
      offsets = standing_prop p.offsets x.offsets y.offsets i;
      views = standing_prop p.views x.views y.views i;
      lists = standing_prop p.lists x.lists y.lists i;
      buffers = standing_prop p.buffers x.buffers y.buffers i;
    }

promised : (p : Pools) (slip : ℕ) (calls : List Call) → Kept (lengths p slip) (ledger p slip calls)
promised p slip calls = every_run parcel_is_sound (lengths p slip) calls

-- Every column of the shelf is sound and at most eight levels deep.
pub readable : (p : Pools) (slip : ℕ) (calls : List Call) → Stands calls p slip → ShelfReadable (store p) (shelf_of (ledger p slip calls))
readable p slip calls s =
    let k = promised p slip calls in
    let n = k.line_is_column in
    record {
      shows = s.shows;
      sound = λ j h. k.sound j (omega arith);
      shallow = λ j h. (k.within_limits j (omega arith)).few_levels;
    }
