use Rattle.std.proofs.Common.{◌+◌, List, get_or, sym, ap, ◌∙◌, subst}
use Rattle.columns.specs.Column.{rest}
use Rattle.pools.specs.declared.records.Node.{Node}
use Rattle.pools.specs.Store.{no_node}
use Rattle.pools.specs.Stored.{EachStored}
use Rattle.pools.proofs.Reading.{first_stored, rest_stored}
use Rattle.rows.proofs.tree.next_child.Goals as goal

pub returns-clause-told : goal.returns-clause-told
returns-clause-told c = λ P ds same l h.
    let span = c.from.ensures ∙ ap (λ (e : Node). e.span) (c.get.ensures no_node) in (
      first_stored P c.args.place ds l h,
      subst (λ place. EachStored P place (rest ds))
          (ap (λ (es : List Node). c.args.place + (get_or es c.args.place no_node).span) same ∙ sym (ap (λ n. c.args.place + n) span))
          (rest_stored P c.args.place ds l h),
    )
