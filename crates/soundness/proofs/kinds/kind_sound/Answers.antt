use Rattle.std.proofs.Common.{sym, ap, ◌∙◌}
use Rattle.formats.specs.Kinds.{layout}
use Rattle.soundness.proofs.Held.{views_sound}
use Rattle.soundness.proofs.kinds.kind_sound.Goals as goal

pub returns-in-View : goal.returns-in-View
returns-in-View c = λ more u.
    c.sound_views.ensures
    ∙ sym (views_sound c.args.node.parcel.now c.args.shelved.bytes.now c.args.shelved.buffers.now c.args.node.draft c.args.node.drafted more (ap layout c.in-View.is) u)
