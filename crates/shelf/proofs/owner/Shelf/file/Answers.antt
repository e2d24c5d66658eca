use Rattle.std.proofs.Common.{[], ◌∷◌, ◌++◌}
use mathlib.Core.Logic.{∥∥₁_map}
use Rattle.columns.specs.Ledger.{adds, filing}
use Rattle.shelf.proofs.owner.Shelf.file.Goals as goal

pub invariant_of-self : goal.invariant_of-self
invariant_of-self c =
    record { reached = ∥∥₁_map c.args.self.now.reached (λ r. (r.0 ++ adds (filing c.args.parcel.now) ∷ [], c.file_into.ensures.stands r.0 r.1)) }
