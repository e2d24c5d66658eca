use Rattle.std.proofs.Common.{◌+◌, sym, ap, ◌∙◌, subst}
use Rattle.columns.specs.Says.{slice, offset_start, offset_length}
use Rattle.pools.specs.declared.records.Part.{Part}
use Rattle.pools.specs.Used.{used}
use Rattle.pools.specs.Store.{Lies}
use Rattle.rows.proofs.Ranging.{text_told}
use Rattle.rows.proofs.ranges.text_at.Goals as goal

pub returns-clause-told : goal.returns-clause-told
returns-clause-told c = λ bytes n os text h within.
    let is = c.narrow.ensures ∙ ap (λ (p : Part). record { start = c.args.node.now.text.start + p.start; len = p.len }) c.between-range.ensures in
    subst (λ (p : Part). Lies bytes p (slice n.text (offset_start n c.args.row) (offset_length n c.args.row))) (sym is)
    (text_told (used c.args.offsets.now) c.args.node.now c.args.row bytes n os text h within)
