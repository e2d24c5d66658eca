use Rattle.std.proofs.Common.{rules, ◌≡◌, ℕ, List, ◌/◌, length, ap, ◌∙◌, arith}
use Rattle.std.proofs.lemmas.Iterator.Search.{all_from_yields_List}
use Rattle.columns.specs.Checks.{all_of}
use Rattle.columns.specs.Contents.{views_in}
use Rattle.parcels.specs.Reads.{within}
use Rattle.soundness.specs.Sources.{sources, view_fine}
use Rattle.soundness.proofs.Chunks.{all_views, views_chain, all_same}
use Rattle.soundness.proofs.Fills.{length_within}
use Rattle.soundness.proofs.views.sound_views.Goals as goal

pub returns : goal.returns
returns c =
    let node = c.args.node in
    let parcel = node.parcel.now in
    let body = node.draft.parts.body in
    let lent = node.draft.parts.lent in
    let test = view_fine (sources parcel c.args.shelved.bytes.now c.args.shelved.buffers.now lent) lent.len in
    let e = c.chunks_exact.ensures.rest ∙ c.body.ensures in
    let bytes : List ℕ = within parcel body in
    let rows : length bytes / 16 ≡ node.draft.head.rows = omega (arith, length_within parcel body node.drafted.parts.body, c.requires) in
    all_from_yields_List test _ _ c.all.result c.all.ensures.ran (views_chain c.chunks_exact.result c.chunks_exact.ensures.size) (λ x b q k. search rules)
    ∙ all_same test (all_views c.chunks_exact.result.rest.now)
    ∙ ap (λ (l : List ℕ). all_of test (all_views l)) e
    ∙ ap (λ (n : ℕ). all_of test (views_in n bytes)) rows
