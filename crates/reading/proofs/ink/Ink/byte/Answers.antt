use Rattle.std.proofs.Common.{◌/◌, ◌%◌, true, [], ◌∷◌, ap, ◌∙◌}
use Rattle.columns.specs.Text.{hex_digit}
use Rattle.reading.specs.Inked.{inked}
use Rattle.reading.proofs.Inking.{step, last, refused_byte}
use Rattle.reading.proofs.ink.Ink.byte.Goals as goal

pub returns-in_err-put : goal.returns-in_err-put
returns-in_err-put g c =
    let ink = inked g.Self.Ink.room g.Self.Ink.marked (c.args.self.now, true) in
    refused_byte _ _ (c.args.self.now, true) c.put.new.self (hex_digit (c.args.byte / 16)) (hex_digit (c.args.byte % 16) ∷ []) c.from_residual.result c.from_residual.ensures.0
    (c.in_err-put.ensures ∙ ap ink c.digit.ensures)

pub returns : goal.returns
returns g c =
    let room = g.Self.Ink.room in let marked = g.Self.Ink.marked in
    last room marked (c.put.new.self, true) _ (hex_digit (c.args.byte % 16)) (c.put-2.ensures ∙ ap (inked room marked (c.put.new.self, true)) c.digit-2.ensures)
    ∙ step room marked (c.args.self.now, true) (c.put.new.self, true) (hex_digit (c.args.byte / 16)) (hex_digit (c.args.byte % 16) ∷ [])
    (c.in_ok-put.ensures ∙ ap (inked room marked (c.args.self.now, true)) c.digit.ensures)
