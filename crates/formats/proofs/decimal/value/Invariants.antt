use Rattle.std.proofs.Common.{◌≡◌, ◌^◌, ◌<◌, drop}
use Rattle.formats.specs.Spelled.{digits_from as go}
use Rattle.formats.proofs.decimal.value.Given as goal

abbrev pub invariant-loop-b : goal.invariant-loop-b
invariant-loop-b l = (go (drop l.b-index l.digits) l.n ≡ go l.digits 0) × (l.n < 2 ^ 32)
