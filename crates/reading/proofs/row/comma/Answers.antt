use Rattle.std.proofs.Common.{Bool, true, [], ◌∷◌, cond, sym, ap, ◌∙◌}
use Rattle.reading.specs.Inked.{wrote}
use Rattle.reading.proofs.Inking.{wrote_none, last}
use Rattle.reading.proofs.row.comma.Goals as goal

pub returns-then-later : goal.returns-then-later
returns-then-later g c =
    let room = g.I.Ink.room in let marked = g.I.Ink.marked in
    last room marked (c.args.ink.now, true) _ 44 c.put.ensures ∙ ap (λ (b : Bool). wrote room marked (c.args.ink.now, true) (cond b (44 ∷ []) [])) (sym c.if-later.true)

pub returns-else-later : goal.returns-else-later
returns-else-later g c =
    let room = g.I.Ink.room in let marked = g.I.Ink.marked in
    sym (wrote_none room marked (c.args.ink.now, true)) ∙ ap (λ (b : Bool). wrote room marked (c.args.ink.now, true) (cond b (44 ∷ []) [])) (sym c.if-later.false)
