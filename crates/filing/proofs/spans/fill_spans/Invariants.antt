use Rattle.std.proofs.Common.{◌≡◌, map, drop}
use Rattle.filing.specs.Row.{spans_of}
use Rattle.filing.specs.Counts.{children_in}
use Rattle.filing.proofs.spans.fill_spans.Given as goal

abbrev pub invariant-loop-i : goal.invariant-loop-i
invariant-loop-i l = drop l.i l.spans ≡ spans_of (drop l.i (map children_in l.drafts))
