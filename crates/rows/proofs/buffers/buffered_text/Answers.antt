use Rattle.std.proofs.Common.{◌+◌, [], get_or, sym, ap, ◌∙◌, subst}
use Rattle.columns.specs.Says.{slice}
use Rattle.pools.specs.declared.records.Part.{Part}
use Rattle.pools.specs.Store.{store, Lies, no_part}
use Rattle.rows.proofs.Buffered.{buffered_told}
use Rattle.rows.proofs.buffers.buffered_text.Goals as goal

pub returns-clause-told : goal.returns-clause-told
returns-clause-told c = λ listed shelved l s h within.
    let buffer = c.get-buffer.ensures no_part ∙ ap (λ b. get_or (store c.args.pools.now).buffers b no_part) c.buffer_number.ensures in
    let is = c.narrow.ensures ∙ ap (λ (p : Part). record { start = p.start + c.args.offset; len = c.args.len }) buffer in
    subst (λ (p : Part). Lies (store c.args.pools.now).bytes p (slice (get_or shelved (get_or listed c.args.position 0) []) c.args.offset c.args.len)) (sym is)
    (buffered_told (store c.args.pools.now) c.args.node.now c.args.position c.args.offset c.args.len c.requires.shelved listed shelved l s h within)
