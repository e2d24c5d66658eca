use Rattle.std.proofs.Common.{◌≡◌, ℕ, ◌≤◌, length, take, sym, Err, subst, arith, rules}
use Rattle.std.proofs.lemmas.List.{length-take-le}
use Rattle.wire.specs.Calls.{OneCall, extent_of}
use Rattle.wire.specs.declared.call.Unread.TheVariants.{CutOff}
use Rattle.wire.proofs.Reaching.{one_call_on, lacks_room, front_on}
use Rattle.wire.proofs.serve.read_call.Goals as goal

pub loop-lacks-preserved : goal.loop-lacks-preserved
loop-lacks-preserved g c =
    let filled : ℕ = c.loop-lacks.filled in
    let got : ℕ = c.in_ok-got.got in
    let inside : filled ≤ length c.loop-lacks.held = search rules in
    let read : got ≤ length c.read.new.buf = c.in_ok-got.ensures.bound.0 in
    let wanted : length c.read.new.buf ≡ c.in-Err-CutOff.lacks = search rules in
    let lacks : extent_of (take filled c.loop-lacks.held) ≡ Err (CutOff c.in-Err-CutOff.lacks) = sym (rw c.in-Err-CutOff.field-0-is at c.in-Err-CutOff.ensures) in
    let room = lacks_room (take filled c.loop-lacks.held) c.in-Err-CutOff.lacks lacks in
    let front = length-take-le filled c.loop-lacks.held inside in
    let more = length-take-le got c.read.new.buf read in (
      omega arith,
      subst OneCall (sym (front_on filled _ got c.loop-lacks.held c.read.new.buf inside read))
          (one_call_on (take filled c.loop-lacks.held) (take got c.read.new.buf) c.in-Err-CutOff.lacks lacks (omega arith)),
    )
