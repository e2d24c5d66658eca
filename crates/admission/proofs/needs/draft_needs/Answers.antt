use Rattle.std.proofs.Common.{ℕ, ◌+◌, ◌<◌, ◌≤◌, ◌≡◌, List, map, length, sym, ◌∙◌, subst, arith}
use Rattle.std.specs.List.{AllByRecursion}
use Rattle.columns.specs.Pools.{sum_of}
use Rattle.parcels.specs.Lent.{brought_from}
use Rattle.admission.proofs.Counting.{kind_low}
use Rattle.admission.proofs.needs.draft_needs.Goals as goal

pub brought-new-requires : goal.brought-new-requires
brought-new-requires c = omega (arith, c.lent.ensures.count, c.args.node.drafted.parts.few)

pub returns : goal.returns
returns c =
    let d = c.args.node.draft in
    let parcel = c.args.node.parcel.now in
    let g = c.args.node.drafted in
    let b = c.brought-new.ensures in
    let l = c.lent.result in
    let o = c.lent.ensures in
    let of_is : (f : List ℕ → ℕ → ℕ → ℕ) → f l.parcel.now l.at l.left ≡ f parcel d.parts.lent.start d.parts.lent.len = λ f. cc (o.among, o.first, o.count) in
    let rows = c.rows-rows.ensures in
    let base : ℕ = c.mask_bytes.result + d.head.format.len + c.brought-new.result.bytes in
    let low : base < 140737490000000 = omega (arith, b.low, c.mask_bytes.ensures.low, g.name) in
    let count = b.count ∙ of_is (λ p a n. length (brought_from p a n)) in
    let bytes = b.bytes ∙ of_is (λ p a n. sum_of (map length (brought_from p a n))) in
    record {
      is = c.kind_needs.ensures ∙ cc (rows, c.mask_bytes.ensures.is, count, bytes);
      low =
          subst (AllByRecursion (λ (v : ℕ). v ≤ 281474976710656)) (sym c.kind_needs.ensures)
          (kind_low base c.rows-rows.result d.parts.text.len d.parts.lent.len c.brought-new.result.count low (omega (arith, rows, g.rows)) g.parts.brief g.parts.few b.few d.kind);
    }
