use Rattle.std.proofs.Common.{◌≡◌, ℕ, ◌+◌, ◌-◌, drop, slice_index, sym, ap, ◌∙◌, arith, rules}
use Rattle.filing.specs.Row.{spanned}
use Rattle.filing.proofs.Spanning.{spanned_more, spanned_none}
use Rattle.filing.proofs.spans.span_at.Goals as goal

-- the next child's size
child : (c : goal.After-unwrap_or-span) → c.unwrap_or-span.result ≡ slice_index c.args.spans.now (c.args.at + c.loop-k.span)
child c = search rules

-- what is left, with the next child's size
next : (c : goal.After-unwrap_or-span)
    → c.unwrap_or-span.result + spanned (c.args.children - (c.loop-k._k + 1)) (drop (c.args.at + c.loop-k.span + c.unwrap_or-span.result) c.args.spans.now)
    ≡ spanned (c.args.children - c.loop-k._k) (drop (c.args.at + c.loop-k.span) c.args.spans.now)
next c =
    ap (λ (v : ℕ). v + spanned (c.args.children - (c.loop-k._k + 1)) (drop (c.args.at + c.loop-k.span + v) c.args.spans.now)) (child c)
    ∙ spanned_more c.args.spans.now (c.args.at + c.loop-k.span) c.loop-k._k c.args.children c.loop-k-test.true

pub overflow_add-span : goal.overflow_add-span
overflow_add-span c = omega (arith, next c, c.loop-k.invariant, c.requires.few)

pub loop-k-preserved : goal.loop-k-preserved
loop-k-preserved c =
    let e : c.args.at + c.loop-k.span + c.unwrap_or-span.result ≡ c.args.at + (c.loop-k.span + c.unwrap_or-span.result) = omega arith in
    let n = ap (λ (i : ℕ). c.unwrap_or-span.result + spanned (c.args.children - (c.loop-k._k + 1)) (drop i c.args.spans.now)) (sym e) ∙ next c in
    omega (arith, n, c.loop-k.invariant)

pub returns : goal.returns
returns c =
    omega (
      arith,
      c.loop-k.invariant,
      spanned_none c.args.children c.loop-k._k (drop (c.args.at + c.loop-k.span) c.args.spans.now) (omega (arith, c.loop-k-test.false)),
    )
