use Rattle.std.proofs.Common.{ℕ, Bool, true, ◌&&◌, List, ◌++◌, ap, ◌∙◌}
use Rattle.columns.specs.Sent.{Data}
use Rattle.columns.specs.SoundTests.{fills, role_sound}
use Rattle.pools.specs.Parts.{buffers_in}
use Rattle.parcels.specs.Reads.{sent_of}
use Rattle.parcels.specs.Roles.{role_of}
use Rattle.parcels.specs.Drafts.{kind_in, head_in, node_in}
use Rattle.soundness.specs.Ladder.{data_of, kind_sound_in}
use Rattle.soundness.proofs.sound.sound.Goals as goal

pub returns-then-role_sound : goal.returns-then-role_sound
returns-then-role_sound c = λ more u.
    let parcel = c.args.node.parcel.now in
    let d = c.args.node.draft in
    let bs : List (List ℕ) = buffers_in c.args.shelved.bytes.now c.args.shelved.buffers.now ++ more in
    let ds : List Data = data_of parcel bs d in
    let F : Bool = fills (kind_in parcel d) (head_in parcel d) (sent_of parcel d.parts ds) in
    let K : Bool = kind_sound_in parcel bs d in
    c.kind_sound.ensures more u
    ∙ ap (λ (b : Bool). b && true && K) (c.if-not-filled.ensures.is ds)
    ∙ ap (λ (b : Bool). F && b && K) (c.if-role_sound.ensures ds)

pub returns-then-not-filled : goal.returns-then-not-filled
returns-then-not-filled c = λ more u.
    let parcel = c.args.node.parcel.now in
    let d = c.args.node.draft in
    let bs : List (List ℕ) = buffers_in c.args.shelved.bytes.now c.args.shelved.buffers.now ++ more in
    let ds : List Data = data_of parcel bs d in
    let R : Bool = role_sound (role_of d.role) (node_in parcel d ds) in
    let K : Bool = kind_sound_in parcel bs d in
    ap (λ (b : Bool). b && R && K) (c.if-not-filled.ensures.is ds)
