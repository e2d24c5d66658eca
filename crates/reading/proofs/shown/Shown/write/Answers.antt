use Rattle.std.proofs.Common.{rules}
use Rattle.reading.proofs.Pens.{pen_stands, pen_overfull, overfilled}
use Rattle.reading.proofs.shown.Shown.write.Goals as goal

pub returns-in_err-put_row : goal.returns-in_err-put_row
returns-in_err-put_row c = λ d q. overfilled c.from_residual.result _ _ _ c.from_residual.ensures.0 (pen_overfull _ _ c.put_row.new.ink _ (c.in_err-put_row.ensures d q) (search rules))

pub returns : goal.returns
returns c = λ d q. pen_stands _ _ c.put_row.new.ink _ (c.in_ok-put_row.ensures d q) (search rules)
