use Rattle.std.proofs.Common.{◌≡◌, ℕ, ◌-◌, List, length, take, drop, sym, ap, ◌∙◌, subst}
use Rattle.std.proofs.lemmas.List.{take_rest}
use Rattle.columns.specs.Sound.{little_endian}
use Rattle.soundness.specs.declared.sent.DataBuffer.{DataBuffer}
use Rattle.soundness.specs.Sources.{Told, sources, source_at}
use Rattle.soundness.proofs.Buffers.{told_at}
use Rattle.soundness.proofs.Finding.{long_view}
use Rattle.soundness.proofs.views.sound_view.Goals as goal

pub source-text-requires : goal.source-text-requires
source-text-requires c =
    let n = c.args.index.now.node in
    let lent = n.draft.parts.lent in
    subst (Told n.parcel.now) (sym c.find.ensures) (told_at n.parcel.now lent.start lent.len c.first_of-position.result n.drafted.lent c.if-position-index.false)

pub returns : goal.returns
returns c =
    let n = c.args.index.now.node in
    let parcel = n.parcel.now in
    let lent = n.draft.parts.lent in
    let bytes = c.args.shelved.bytes.now in
    let buffers = c.args.shelved.buffers.now in
    let view = c.args.view.now in
    let text = c.source-text.result.now in
    let rest : (l : List ℕ) (i n : ℕ) → n ≡ little_endian (take 4 (take (length l - i) (drop i l))) → n ≡ little_endian (take 4 (drop i l)) = λ l i n e. e ∙ ap (λ (k : List ℕ). little_endian (take 4 k)) (take_rest l i) in
    long_view (sources parcel bytes buffers lent) lent.len view c.first_of-len.result c.first_of-prefix.result c.first_of-position.result c.first_of-offset.result
    c.first_of-len.ensures (rest view 4 c.first_of-prefix.result c.first_of-prefix.ensures) (rest view 8 c.first_of-position.result c.first_of-position.ensures) (rest view 12 c.first_of-offset.result c.first_of-offset.ensures)
    c.if-len-le12.false c.if-position-index.false text (c.source-text.ensures ∙ ap (λ (b : DataBuffer). source_at parcel bytes buffers b.at) c.find.ensures) c.holds.result c.holds.ensures
