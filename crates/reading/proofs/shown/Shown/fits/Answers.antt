use Rattle.std.proofs.Common.{◌∙◌}
use Rattle.reading.proofs.Pens.{gauge_tells}
use Rattle.reading.proofs.shown.Shown.fits.Goals as goal

pub returns : goal.returns
returns c = λ d q. c.is_ok.ensures.value ∙ gauge_tells c.args.room _ c.put_row.new.ink _ (c.put_row.ensures d q)
