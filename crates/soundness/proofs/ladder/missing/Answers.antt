use Rattle.std.proofs.Common.{rules, ◌∙◌, sym}
use Rattle.soundness.specs.declared.data_buffers.DataBuffers.{DataBuffers}
use Rattle.soundness.specs.Buffers.{buffers_from}
use Rattle.soundness.specs.Ladder.{beyond_of}
use Rattle.soundness.proofs.Mapped.{find_mapped}
use Rattle.soundness.proofs.Missing.{missing_is}
use Rattle.soundness.proofs.ladder.missing.Goals as goal

pub returns : goal.returns
returns c = λ next.
    let l = c.args.lent in
    missing_is l.parcel.now c.args.before l.at next l.left
    ∙ sym (find_mapped {S = DataBuffers} (λ s. buffers_from s.parcel.now s.at s.left) _ _ (λ b. beyond_of b.sent c.args.before) (λ x r q k. search rules) l c.find_map.new.self c.find_map.result c.find_map.ensures.ran c.find_map.ensures.runs)
