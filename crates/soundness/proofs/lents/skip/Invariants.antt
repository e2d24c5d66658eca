use Rattle.std.proofs.Common.{◌≡◌}
use Rattle.parcels.specs.Lent.{place_of}
use Rattle.soundness.proofs.lents.skip.Given as goal

abbrev pub invariant-loop-k : goal.invariant-loop-k
invariant-loop-k l = l.at ≡ place_of l.parcel l.start l._k
