use Rattle.std.proofs.Common.{sym, ap, ◌∙◌}
use Rattle.formats.specs.declared.kind.Kind.{Kind}
use Rattle.admission.specs.Needs.{kind_entries}
use Rattle.admission.proofs.needs.kind_needs.Goals as goal

pub returns-in-Primitive : goal.returns-in-Primitive
returns-in-Primitive c =
    c.width_needs.ensures ∙ sym (ap (λ (K : Kind). kind_entries K c.args.base c.args.rows c.args.text c.args.list c.args.new) c.in-Primitive.is)
