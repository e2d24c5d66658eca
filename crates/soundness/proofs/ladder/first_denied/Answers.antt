use Rattle.std.proofs.Common.{ℕ, List, ◌++◌, length, get_or, refl, ◌∙◌}
use Rattle.std.proofs.lemmas.List.{drop_more}
use Rattle.std.proofs.ByRecursion.{All-get_or}
use Rattle.pools.specs.Parts.{buffers_in}
use Rattle.parcels.specs.Drafts.{Drafted}
use Rattle.soundness.specs.Ladder.{data_of, unshelved_in}
use Rattle.soundness.proofs.Missing.{missing_of}
use Rattle.soundness.proofs.Rungs.{blank, rung_start, rung_all, rung_missing, rung_unsound, rung_more, unlifted_none}
use Rattle.soundness.proofs.ladder.first_denied.Goals as goal

pub loop-i-init : goal.loop-i-init
loop-i-init c = rung_start c.args.nodes.parcel.now (length c.args.shelved.buffers.now) (buffers_in c.args.shelved.bytes.now c.args.shelved.buffers.now) c.args.nodes.drafts.now

pub invariant_of-node-in-loop-i : goal.invariant_of-node-in-loop-i
invariant_of-node-in-loop-i c = record { drafted = All-get_or (Drafted c.args.nodes.parcel.now) c.args.nodes.drafts.now c.loop-i.i blank c.loop-i-test.true c.args.nodes.drafted }

pub returns-in-Some : goal.returns-in-Some
returns-in-Some c =
    let D = c.args.nodes.drafts.now in
    let i = c.loop-i.i in
    let bs : List (List ℕ) = buffers_in c.args.shelved.bytes.now c.args.shelved.buffers.now ++ c.loop-i.invariant.more in
    let d = get_or D i blank in
    let k = All-get_or (Drafted c.args.nodes.parcel.now) D i blank c.loop-i-test.true c.args.nodes.drafted in
    let l = c.lent.result in
    rung_missing c.args.nodes.parcel.now (length c.args.shelved.buffers.now) (buffers_in c.args.shelved.bytes.now c.args.shelved.buffers.now) D i c.loop-i.invariant d k (drop_more D i blank c.loop-i-test.true) c.in-Some.number
    (missing_of (length c.args.shelved.buffers.now) l.parcel.now c.args.nodes.parcel.now l.at d.parts.lent.start l.left d.parts.lent.len c.missing.result c.lent.ensures.among c.lent.ensures.first c.lent.ensures.count c.missing.ensures (length bs) ∙ c.in-Some.is)

pub returns-then-not-sound : goal.returns-then-not-sound
returns-then-not-sound c =
    let D = c.args.nodes.drafts.now in
    let i = c.loop-i.i in
    let d = get_or D i blank in
    let bs : List (List ℕ) = buffers_in c.args.shelved.bytes.now c.args.shelved.buffers.now ++ c.loop-i.invariant.more in
    let k = All-get_or (Drafted c.args.nodes.parcel.now) D i blank c.loop-i-test.true c.args.nodes.drafted in
    let l = c.lent.result in
    let e = missing_of (length c.args.shelved.buffers.now) l.parcel.now c.args.nodes.parcel.now l.at d.parts.lent.start l.left d.parts.lent.len c.missing.result c.lent.ensures.among c.lent.ensures.first c.lent.ensures.count c.missing.ensures (length bs) ∙ c.in_default.is in
    let u = unlifted_none (unshelved_in (length c.args.shelved.buffers.now) (data_of c.args.nodes.parcel.now bs d)) e in
    rung_unsound c.args.nodes.parcel.now (length c.args.shelved.buffers.now) (buffers_in c.args.shelved.bytes.now c.args.shelved.buffers.now) D i c.loop-i.invariant d k (drop_more D i blank c.loop-i-test.true) e _ (c.if-not-sound.ensures c.loop-i.invariant.more u) refl

pub loop-i-preserved : goal.loop-i-preserved
loop-i-preserved c =
    let D = c.args.nodes.drafts.now in
    let i = c.loop-i.i in
    let d = get_or D i blank in
    let bs : List (List ℕ) = buffers_in c.args.shelved.bytes.now c.args.shelved.buffers.now ++ c.loop-i.invariant.more in
    let k = All-get_or (Drafted c.args.nodes.parcel.now) D i blank c.loop-i-test.true c.args.nodes.drafted in
    let l = c.lent.result in
    let e = missing_of (length c.args.shelved.buffers.now) l.parcel.now c.args.nodes.parcel.now l.at d.parts.lent.start l.left d.parts.lent.len c.missing.result c.lent.ensures.among c.lent.ensures.first c.lent.ensures.count c.missing.ensures (length bs) ∙ c.in_default.is in
    let u = unlifted_none (unshelved_in (length c.args.shelved.buffers.now) (data_of c.args.nodes.parcel.now bs d)) e in
    rung_more c.args.nodes.parcel.now (length c.args.shelved.buffers.now) (buffers_in c.args.shelved.bytes.now c.args.shelved.buffers.now) D i c.loop-i.invariant d k (drop_more D i blank c.loop-i-test.true) e _ (c.if-not-sound.ensures c.loop-i.invariant.more u) refl

pub returns : goal.returns
returns c = rung_all c.args.nodes.parcel.now (length c.args.shelved.buffers.now) (buffers_in c.args.shelved.bytes.now c.args.shelved.buffers.now) c.args.nodes.drafts.now c.loop-i.i c.loop-i.invariant c.loop-i-test.false
