-- A fresh shelf stands for no calls.
use Rattle.std.proofs.Common.{ℕ, [], arith}
use Rattle.columns.specs.Ledger.{shelf_of}
use Rattle.pools.specs.declared.pool.Pool.{Pool}
use Rattle.pools.specs.declared.pools.Pools.{Pools}
use Rattle.pools.specs.Marked.{at_mark, marked, no_marks}
use Rattle.pools.specs.Kept.{Standing}
use Rattle.pools.proofs.Showing.{shows_fresh}
use Rattle.shelf.specs.Stands.{Stands}

unmarked : {X : Type 0} (p : Pool X) → Standing (at_mark 0 p)
unmarked p = record { fits = omega arith; capped = omega arith }

pub fresh_stands : (p : Pools) (slip : ℕ) → Stands [] (marked no_marks p) slip
unfolding shelf_of
fresh_stands p slip =
    record {
      ready =
          record {
            columns = unmarked p.columns;
            nodes = unmarked p.nodes;
            bytes = unmarked p.bytes;
            shorts = unmarked p.shorts;
            words = unmarked p.words;
            longs = unmarked p.longs;
            offsets = unmarked p.offsets;
            views = unmarked p.views;
            lists = unmarked p.lists;
            buffers = unmarked p.buffers;
          };
      of_bytes = tt;
      shows = shows_fresh p;
    }
