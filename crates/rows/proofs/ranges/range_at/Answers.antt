use Rattle.std.proofs.Common.{sym, ◌∙◌}
use Rattle.pools.specs.Used.{used}
use Rattle.rows.proofs.Ranging.{offsets_range, range_told}
use Rattle.rows.proofs.ranges.range_at.Goals as goal

pub returns-in-Text-clause-told : goal.returns-in-Text-clause-told
returns-in-Text-clause-told c =
    range_told (used c.args.offsets.now) c.args.node.now c.args.row _ (c.between.ensures ∙ sym (offsets_range _ _ _ _ c.in-Text.is))
