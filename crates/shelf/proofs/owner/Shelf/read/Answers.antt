use mathlib.Core.Logic.{∥∥₁_elim, ∥∥₁_map}
use Rattle.std.proofs.Common.{length}
use Rattle.columns.specs.Ledger.{shelf_of}
use Rattle.shelf.specs.Stands.{lengths, ledger}
use Rattle.shelf.proofs.Standing.{ready_prop, readable}
use Rattle.shelf.proofs.owner.Shelf.read.Goals as goal

pub read-requires : goal.read-requires
read-requires c =
    let p = c.args.self.now.pools in
    let slip = length c.args.self.now.slip.now in
    record {
      ready = ∥∥₁_elim c.args.self.now.reached (ready_prop p) (λ r. r.1.ready);
      given = ∥∥₁_map c.args.self.now.reached (λ r. (shelf_of (ledger p slip r.0), readable p slip r.0 r.1));
    }

pub returns : goal.returns
returns c = λ calls s.
    let p = c.args.self.now.pools in
    let slip = length c.args.self.now.slip.now in
    c.read.ensures (lengths p slip) (shelf_of (ledger p slip calls)) (readable p slip calls s)
