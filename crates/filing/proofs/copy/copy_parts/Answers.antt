use Rattle.std.proofs.Common.{◌≡◌, ℕ, ◌+◌, List, ◌++◌, length, ap, ◌∙◌, ap₂, arith, length-append}
use Rattle.pools.specs.declared.records.Part.{Part}
use Rattle.parcels.specs.Reads.{within}
use Rattle.filing.specs.Masks.{mask_len, mask_sent}
use Rattle.filing.specs.News.{plan_in}
use Rattle.filing.proofs.Fitting.{part_length, mask_length, plain_within}
use Rattle.filing.proofs.copy.copy_parts.Goals as goal

pub copy_mask-requires : goal.copy_mask-requires
copy_mask-requires c =
    let F : List ℕ = within c.args.node.parcel.now c.args.node.draft.head.format in
    let M : List ℕ = mask_sent c.args.node.parcel.now c.args.node.draft.parts.mask in
    let L : List ℕ = within c.args.node.parcel.now (plan_in c.args.node.draft).plain in
    let size = length-append F (M ++ L) in
    let rest = length-append M L in
    let mask = mask_length c.args.node.parcel.now c.args.node.draft.parts.mask c.args.node.drafted.parts.mask in
    let first : length c.of.result.now ≡ length F = ap length c.of.ensures in
    let mark = c.copy_part.ensures.added.mark in
    record { lent = omega (arith, c.requires.lent, c.copy_part.ensures.added.len); capped = omega (arith, c.requires.capped) }

pub returns-clause-plain : goal.returns-clause-plain
returns-clause-plain c =
    let h = c.args.node.drafted in
    let d = c.args.node.draft in
    let format : length c.of.result.now ≡ d.head.format.len = ap length c.of.ensures ∙ part_length c.args.node.parcel.now d.head.format h.head in
    let mask = mask_length c.args.node.parcel.now d.parts.mask h.parts.mask in
    let plain : length c.plain_bytes.result.now ≡ (plan_in d).plain.len = ap length c.plain_bytes.ensures ∙ part_length c.args.node.parcel.now (plan_in d).plain (plain_within c.args.node.parcel.now d.kind d.parts d.head.rows h.parts) in
    let start : c.copy_mask.new.bytes.mark ≡ c.args.bytes.now.mark + d.head.format.len + mask_len d.parts.mask = omega (arith, c.copy_part.ensures.added.mark, c.copy_mask.ensures.added.mark) in
    c.copy_part-2.ensures.lies ∙ ap₂ (λ (n k : ℕ). (let p : Part = record { start = n; len = k } in p)) start plain
