use Rattle.std.proofs.Common.{◌/◌, ◌%◌, ◌^◌, eqb, ap, ◌∙◌}
use Rattle.pools.proofs.Reading.{bit_read}
use Rattle.rows.proofs.values.bit_at.Goals as goal

pub returns-clause-told : goal.returns-clause-told
returns-clause-told c = λ rows bits spare lie h.
    c.bit.ensures ∙ ap (λ b. eqb (b / 2 ^ (c.args.row % 8) % 2) 1) (c.get.ensures 0) ∙ bit_read lie c.args.row h
