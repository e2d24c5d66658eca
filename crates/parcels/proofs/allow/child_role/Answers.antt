use Rattle.parcels.proofs.Allowing.{rest_free}
use Rattle.parcels.proofs.allow.child_role.Goals as goal

pub returns-in_default : goal.returns-in_default
returns-in_default c = λ said _. rest_free c.args.format said c.args.rows c.args.k c.in_default.not-Map c.in_default.not-RunEnds
