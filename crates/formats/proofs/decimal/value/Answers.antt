use Rattle.std.proofs.Common.{◌≡◌, ℕ, ◌+◌, ◌*◌, drop, Some, None, sym, ap, ◌∙◌, arith}
use Rattle.std.proofs.lemmas.List.{at_drop_all}
use Rattle.formats.specs.Spelled.{digit_of, capped}
use Rattle.formats.specs.Spelled.{digits_from as go}
use Rattle.formats.proofs.Decimals.{go_bad, go_on, capped_small}
use Rattle.formats.proofs.decimal.value.Goals as goal

pub returns-in_err-d : goal.returns-in_err-d
returns-in_err-d c =
    c.from_residual.ensures
    ∙ sym (go_bad c.args.digits.now c.loop-b.b-index c.loop-b.n c.loop-b-test.true (c.in_err-d.ensures ∙ ap digit_of c.from.ensures))
    ∙ c.loop-b.invariant.0

pub returns-in_err-n : goal.returns-in_err-n
returns-in_err-n c =
    c.from_residual-in_err-n.ensures
    ∙ sym (go_on c.args.digits.now c.loop-b.b-index c.loop-b.n c.in_ok-d.d None c.loop-b-test.true (c.in_ok-d.ensures ∙ ap digit_of c.from.ensures) (c.in_err-n.ensures ∙ ap (λ (x : ℕ). capped (10 * x + c.from-in-loop-b-2.result)) c.from-in-loop-b.ensures ∙ ap (λ (y : ℕ). capped (10 * c.loop-b.n + y)) c.from-in-loop-b-2.ensures))
    ∙ c.loop-b.invariant.0

pub loop-b-preserved : goal.loop-b-preserved
loop-b-preserved c = (
  sym (go_on c.args.digits.now c.loop-b.b-index c.loop-b.n c.in_ok-d.d (Some c.in_ok-n.n) c.loop-b-test.true (c.in_ok-d.ensures ∙ ap digit_of c.from.ensures) (c.in_ok-n.ensures ∙ ap (λ (x : ℕ). capped (10 * x + c.from-in-loop-b-2.result)) c.from-in-loop-b.ensures ∙ ap (λ (y : ℕ). capped (10 * c.loop-b.n + y)) c.from-in-loop-b-2.ensures))
      ∙ c.loop-b.invariant.0,
  capped_small _ _ c.in_ok-n.ensures,
)

pub returns : goal.returns
returns c =
    let e : go (drop c.loop-b.b-index c.args.digits.now) c.loop-b.n ≡ Some c.loop-b.n =
    at_drop_all (λ l. go l c.loop-b.n) c.args.digits.now c.loop-b.b-index (omega arith) in
    sym e ∙ c.loop-b.invariant.0
