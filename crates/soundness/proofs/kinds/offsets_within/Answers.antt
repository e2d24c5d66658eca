use Rattle.std.proofs.Common.{ℕ, ◌+◌, List, ap, ◌∙◌}
use Rattle.columns.specs.SoundTests.{offsets_sound}
use Rattle.formats.specs.Spelled.{bytes_of}
use Rattle.parcels.specs.Reads.{within}
use Rattle.soundness.specs.Walks.{all_values}
use Rattle.soundness.proofs.Chunks.{values_all, some_bytes}
use Rattle.soundness.proofs.Fills.{length_within}
use Rattle.soundness.proofs.kinds.offsets_within.Goals as goal

pub returns : goal.returns
returns c =
    let n = c.args.node in
    let w = bytes_of c.args.width in
    let body = n.draft.parts.body in
    let S : List ℕ → _ = λ os. offsets_sound w os c.args.bound in
    c.sound_offsets.ensures ∙ ap (λ (b : List ℕ). S (all_values w b)) c.body.ensures
    ∙ ap S (values_all w (n.draft.head.rows + 1) (within n.parcel.now body) (some_bytes c.args.width) (length_within n.parcel.now body n.drafted.parts.body ∙ c.requires))
