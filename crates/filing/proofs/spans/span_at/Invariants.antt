use Rattle.std.proofs.Common.{◌≡◌, ◌+◌, ◌-◌, drop}
use Rattle.filing.specs.Row.{spanned}
use Rattle.filing.proofs.spans.span_at.Given as goal

abbrev pub invariant-loop-k : goal.invariant-loop-k
invariant-loop-k l = l.span + spanned (l.children - l._k) (drop (l.at + l.span) l.spans) ≡ 1 + spanned l.children (drop (l.at + 1) l.spans)
