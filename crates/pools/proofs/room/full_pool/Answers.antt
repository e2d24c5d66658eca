use Rattle.std.proofs.Common.{sym, ap, ◌∙◌}
use Rattle.pools.proofs.Short.{next, short_is}
use Rattle.pools.proofs.room.full_pool.Goals as goal

pub returns-in_err-place : goal.returns-in_err-place
returns-in_err-place c =
    c.from_residual.ensures ∙ ap next c.in_err-place.ensures
    ∙ sym (short_is c.by_pool.result c.by_pool-2.result c.by_pool-3.result c.args.lengths.now c.args.marks.now c.args.needs.now c.by_pool.ensures c.by_pool-2.ensures c.by_pool-3.ensures)

pub returns : goal.returns
returns c =
    ap next c.in_ok-place.ensures
    ∙ sym (short_is c.by_pool.result c.by_pool-2.result c.by_pool-3.result c.args.lengths.now c.args.marks.now c.args.needs.now c.by_pool.ensures c.by_pool-2.ensures c.by_pool-3.ensures)
