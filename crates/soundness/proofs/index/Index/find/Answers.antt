use Rattle.std.proofs.Common.{ℕ, ◌+◌, ◌≤◌, length, sym, ap, ◌∙◌, subst}
use Rattle.parcels.specs.Lent.{data_size}
use Rattle.parcels.proofs.Lents.{readable_at}
use Rattle.parcels.specs.declared.sent.Sent.{Sent}
use Rattle.soundness.specs.declared.sent.DataBuffer.{DataBuffer}
use Rattle.soundness.specs.Buffers.{buffer_in}
use Rattle.soundness.proofs.Buffers.{sent_is}
use Rattle.soundness.proofs.Finding.{steps_readable, found_is}
use Rattle.soundness.proofs.index.Index.find.Goals as goal

pub skip-at-requires : goal.skip-at-requires
skip-at-requires c =
    let s = c.args.self.now in
    steps_readable s.node.parcel.now s.node.draft.parts.lent s.places s.indexed c.args.position c.requires s.node.drafted.lent

pub sent_at-requires : goal.sent_at-requires
sent_at-requires c =
    let s = c.args.self.now in
    let parcel = s.node.parcel.now in
    let lent = s.node.draft.parts.lent in
    let e = c.skip-at.ensures ∙ found_is parcel lent s.places s.indexed c.args.position c.requires in
    subst (λ (n : ℕ). n + data_size parcel n ≤ length parcel) (sym e) (readable_at parcel lent.start lent.len c.args.position s.node.drafted.lent c.requires)

pub returns : goal.returns
returns c =
    let s = c.args.self.now in
    let parcel = s.node.parcel.now in
    let lent = s.node.draft.parts.lent in
    let at = c.skip-at.result in
    let e = c.skip-at.ensures ∙ found_is parcel lent s.places s.indexed c.args.position c.requires in
    ap (λ (x : Sent). let b : DataBuffer = record { at = at; sent = x } in b) (sent_is parcel at c.sent_at.result c.sent_at.ensures) ∙ ap (buffer_in parcel) e
