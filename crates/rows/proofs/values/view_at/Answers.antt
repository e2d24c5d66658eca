use Rattle.std.proofs.Common.{◌+◌, [], sym, ap, ◌∙◌}
use Rattle.std.proofs.lemmas.List.{get_or-map}
use Rattle.columns.specs.Column.{short}
use Rattle.pools.specs.Used.{used}
use Rattle.pools.specs.Store.{no_halves}
use Rattle.pools.specs.Held.{view_from}
use Rattle.rows.specs.Views.{parts_of, view_parts}
use Rattle.pools.proofs.Fronts.{segment_at}
use Rattle.rows.proofs.Viewing.{parts_seen}
use Rattle.rows.proofs.values.view_at.Goals as goal

pub returns-clause-told : goal.returns-clause-told
returns-clause-told c = λ rows vs lie h.
    c.from.ensures ∙ ap parts_of (c.value_at.ensures.is no_halves) ∙ sym (parts_seen _)
    ∙ ap view_parts
    (sym (get_or-map view_from (used c.args.views.now) (c.args.place + c.args.row) no_halves (short 0 []) c.requires)
    ∙ segment_at lie c.args.row (short 0 []) h)
