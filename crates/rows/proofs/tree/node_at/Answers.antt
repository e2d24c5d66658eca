use Rattle.std.proofs.Common.{List, get_or, sym, ap, ◌∙◌, subst}
use Rattle.columns.specs.Column.{node, children, width}
use Rattle.columns.specs.Limits.{node_count}
use Rattle.pools.specs.declared.records.Node.{Node}
use Rattle.pools.specs.Store.{no_node}
use Rattle.pools.specs.Held.{Held}
use Rattle.pools.proofs.Reading.{stored_node}
use Rattle.rows.proofs.tree.node_at.Goals as goal

pub returns-clause-told : goal.returns-clause-told
returns-clause-told c = λ P d same h.
    subst (λ (e : Node). Held P e (node d) (width (children d)) (node_count d))
    (ap (λ (es : List Node). get_or es c.args.place no_node) same ∙ sym (c.get.ensures no_node)) (stored_node P c.args.place d h).1
