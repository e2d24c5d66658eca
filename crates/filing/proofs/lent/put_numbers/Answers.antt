use Rattle.std.proofs.Common.{◌<◌, arith}
use Rattle.std.proofs.ByRecursion.{All-from_get_or}
use Rattle.columns.specs.Widths.{Bytes}
use Rattle.filing.proofs.Lending.{named_small, numbering_start, numbering_next}
use Rattle.filing.proofs.lent.put_numbers.Goals as goal

pub loop-buffer-init : goal.loop-buffer-init
loop-buffer-init c = numbering_start c.args.parcel.now c.args.lists.now c.args.first c.args.lent _ (cc) c.requires.inside c.requires.room c.requires.few

pub overflow_cast-number : goal.overflow_cast-number
overflow_cast-number c =
    let small : Bytes c.args.parcel.now = All-from_get_or (λ b. b < 256) c.args.parcel.now 0 (λ i h. omega (arith, c.type_inv.parcel i)) in
    omega (
      arith,
      named_small c.args.parcel.now c.in-Some.buffer c.in-Named.number small (numbering_next c.in-Some.buffer c.in-Some.ensures.steps c.loop-buffer.invariant).told.0 c.in-Named.is,
    )
