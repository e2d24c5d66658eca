use Rattle.std.proofs.Common.{[], length, sym, refl, subst}
use Rattle.shelf.specs.Stands.{Stands}
use Rattle.shelf.proofs.Fresh.{fresh_stands}
use Rattle.shelf.proofs.owner.Shelf.new.Goals as goal

pub returns : goal.returns
returns c =
    record {
      stands = subst (λ p. Stands [] p (length c.args.slip.now)) (sym c.emptied.ensures) (fresh_stands c.args.pools (length c.args.slip.now));
      lent = c.emptied.ensures;
      slip_lent = refl;
    }

pub invariant_of-result : goal.invariant_of-result
invariant_of-result c = record { reached = ∣ ([], subst (λ p. Stands [] p (length c.args.slip.now)) (sym c.emptied.ensures) (fresh_stands c.args.pools (length c.args.slip.now))) ∣₁ }
