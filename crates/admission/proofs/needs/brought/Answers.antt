use Rattle.std.proofs.Common.{ap, ◌∙◌, arith}
use Rattle.admission.proofs.Counting.{one_bytes, new_in, size_in, count_is, count_few, sum_is, sum_low}
use Rattle.admission.proofs.needs.brought.Goals as goal

pub overflow_add-total : goal.overflow_add-total
overflow_add-total c = let l = c.args.lent in omega (arith, count_few l.parcel.now l.at l.left)

pub overflow_add-total-in-Brought : goal.overflow_add-total-in-Brought
overflow_add-total-in-Brought c =
    let l = c.args.lent in
    omega (arith, sum_low l.parcel.now l.at l.left l.listed c.requires, ap size_in c.in-Some.ensures.steps, ap one_bytes c.in-Brought.is)

pub returns : goal.returns
returns c =
    let l = c.args.lent in
    let e = c.in-None.ensures.steps.0 in
    let f = count_few l.parcel.now l.at l.left in
    let s = sum_low l.parcel.now l.at l.left l.listed c.requires in
    record {
      count = omega (arith, ap new_in e) ∙ count_is l.parcel.now l.at l.left;
      bytes = omega (arith, ap size_in e) ∙ sum_is l.parcel.now l.at l.left l.listed;
      few = omega (arith, f, ap new_in e);
      low = omega (arith, s, ap size_in e);
    }
