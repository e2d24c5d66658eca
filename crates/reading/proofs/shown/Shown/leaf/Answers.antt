use Rattle.std.proofs.Common.{true, sym, ap, ◌∙◌}
use Rattle.pools.specs.Store.{store}
use Rattle.reading.specs.Inked.{wrote}
use Rattle.reading.specs.Raw.{bit_text, leaf_text}
use Rattle.reading.proofs.Inking.{wrote_none, last}
use Rattle.reading.proofs.Views.{no_leaf}
use Rattle.reading.proofs.shown.Shown.leaf.Goals as goal

pub returns-in-Boolean : goal.returns-in-Boolean
returns-in-Boolean g c =
    last g.I.Ink.room g.I.Ink.marked (c.args.ink.now, true) _ c.letter.result c.put.ensures
    ∙ ap (wrote g.I.Ink.room g.I.Ink.marked (c.args.ink.now, true))
    (c.letter.ensures ∙ ap bit_text c.bit_at.ensures.is ∙ ap (λ k. leaf_text (store c.args.self.pools.now) c.args.node.now k c.args.row) (sym c.in-Boolean.is))

pub returns-in_default : goal.returns-in_default
returns-in_default g c =
    sym (wrote_none g.I.Ink.room g.I.Ink.marked (c.args.ink.now, true))
    ∙ ap (wrote g.I.Ink.room g.I.Ink.marked (c.args.ink.now, true))
    (sym (no_leaf (store c.args.self.pools.now) c.args.node.now c.args.node.now.kind c.args.row c.in_default.not-Primitive c.in_default.not-Boolean c.in_default.not-Text c.in_default.not-View))
