use Rattle.std.proofs.Common.{ℕ, ◌-◌, length, get_or, take, drop, Option, ap, ◌∙◌, rules}
use Rattle.formats.specs.declared.format.Tick.{Tick}
use Rattle.formats.specs.Spelled.{meant, tick_of, timed_of, stamp_of, fixed_of, prim_of}
use Rattle.formats.proofs.Spellings.{spelled_stamp, spelled_fixed, spelled_timed}
use Rattle.formats.proofs.format.long.Goals as goal

pub returns-in_err-n-in-43 : goal.returns-in_err-n-in-43
returns-in_err-n-in-43 c =
    ap meant c.from_residual-in_err-n-in-43.ensures
    ∙ ap fixed_of c.in_err-n-in-43.ensures ∙ spelled_fixed c.args.format.now (search rules) (search rules) (search rules) (search rules)

pub returns-in_ok-unit-in-116 : goal.returns-in_ok-unit-in-116
returns-in_ok-unit-in-116 c =
    let f = c.args.format.now in
    ap (λ (o : Option Tick). stamp_of o (take (length f - 4) (drop 4 f))) (c.in_ok-unit-in-116.ensures ∙ ap tick_of c.from-in-116.ensures)
    ∙ spelled_stamp f (search rules) (search rules) (search rules) (search rules)

pub returns-in_ok-n-in-43 : goal.returns-in_ok-n-in-43
returns-in_ok-n-in-43 c =
    ap fixed_of c.in_ok-n-in-43.ensures ∙ spelled_fixed c.args.format.now (search rules) (search rules) (search rules) (search rules)

pub returns-in_ok-family-in-116-2 : goal.returns-in_ok-family-in-116-2
returns-in_ok-family-in-116-2 c =
    ap prim_of c.in_ok-family-in-116-2.ensures
    ∙ ap (λ (u : ℕ). prim_of (timed_of u c.from-in-116-2.result)) c.from.ensures
    ∙ ap (λ (u : ℕ). prim_of (timed_of (get_or c.args.format.now 1 0) u)) c.from-in-116-2.ensures
    ∙ spelled_timed c.args.format.now (search rules) (search rules)
