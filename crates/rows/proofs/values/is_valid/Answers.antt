use Rattle.std.proofs.Common.{sym, ap, ◌∙◌}
use Rattle.pools.specs.Used.{used}
use Rattle.pools.specs.Bits.{mask_bit}
use Rattle.pools.proofs.Reading.{valid_read}
use Rattle.rows.proofs.values.is_valid.Goals as goal

pub returns-in-Some-clause-told : goal.returns-in-Some-clause-told
returns-in-Some-clause-told c = λ rows bits spare lie h.
    c.bit_at.ensures.is ∙ sym (ap (λ m. mask_bit (used c.args.bytes.now) m c.args.row) c.in-Some.is) ∙ valid_read (used c.args.bytes.now) c.args.mask rows bits spare lie c.args.row h
