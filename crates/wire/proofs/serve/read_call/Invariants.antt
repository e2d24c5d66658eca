use Rattle.std.proofs.Common.{◌-◌, ◌≤◌, take}
use Rattle.wire.specs.Calls.{OneCall}
use Rattle.wire.proofs.serve.read_call.Given as goal

abbrev pub invariant-loop-lacks : goal.invariant-loop-lacks
invariant-loop-lacks g l = (l.filled ≤ 65536) × OneCall (take l.filled l.held)

abbrev pub decreases-loop-lacks : goal.decreases-loop-lacks
decreases-loop-lacks g l = 65536 - l.filled
