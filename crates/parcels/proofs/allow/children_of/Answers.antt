use Rattle.std.proofs.Common.{sym}
use lib.ListN.{length-replicate}
use Rattle.columns.specs.Heads.{free}
use Rattle.parcels.proofs.allow.children_of.Goals as goal

pub returns-in-Struct : goal.returns-in-Struct
returns-in-Struct c = λ rows. rw c.in-Struct.is (sym (length-replicate c.args.said free))
