use Rattle.std.proofs.Common.{true, take, sym, ap, ◌∙◌}
use Rattle.columns.specs.Says.{view_text}
use Rattle.pools.specs.Parts.{part_of}
use Rattle.pools.specs.Store.{store}
use Rattle.reading.specs.Inked.{wrote}
use Rattle.reading.specs.Raw.{buffer_in, viewed, quoted, inline}
use Rattle.reading.proofs.Views.{inline_is, buffered_is, is_short, long_text}
use Rattle.reading.proofs.shown.Shown.view_text.Goals as goal

pub returns-in-Inline : goal.returns-in-Inline
unfolding viewed
returns-in-Inline g c =
    let room = g.I.Ink.room in let marked = g.I.Ink.marked in
    let P = store c.args.self.pools.now in
    let i = inline_is c.args.view c.in-Inline.len c.in-Inline.ensures in
    c.short.ensures
    ∙ ap (λ n. wrote room marked (c.args.ink.now, true) (quoted (take n (inline c.args.view)))) i.1
    ∙ ap (λ v. wrote room marked (c.args.ink.now, true) (quoted (view_text (buffer_in P) (part_of P.lists c.args.node.now.buffers) v))) (sym (is_short c.args.view i.0))

pub returns-in-Buffered : goal.returns-in-Buffered
returns-in-Buffered g c =
    let P = store c.args.self.pools.now in
    let b = buffered_is c.args.view c.in-Buffered.len _ c.in-Buffered.position c.in-Buffered.offset c.in-Buffered.ensures in
    c.quoted.ensures
    ∙ ap (λ bs. wrote g.I.Ink.room g.I.Ink.marked (c.args.ink.now, true) (quoted bs))
    (c.part.ensures ∙ ap (part_of P.bytes) c.buffered_text-text.ensures.is ∙ long_text P c.args.node.now c.args.view b c.requires)
