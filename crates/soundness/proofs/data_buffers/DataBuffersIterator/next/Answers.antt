use Rattle.std.proofs.Common.{◌≡◌, ℕ, ◌-◌, sym, true, subst, arith}
use Rattle.parcels.specs.Lent.{readable}
use Rattle.soundness.proofs.Buffers.{buffers_none, buffers_next, length_buffers, next_readable}
use Rattle.soundness.proofs.data_buffers.DataBuffersIterator.next.Goals as goal

pub returns-then-self-eq0-clause-steps : goal.returns-then-self-eq0-clause-steps
returns-then-self-eq0-clause-steps c =
    let e = buffers_none c.args.self.now.parcel.now c.args.self.now.at c.args.self.now.left c.if-self-eq0.true in (e, e)

pub sent_at-sent-requires : goal.sent_at-sent-requires
sent_at-sent-requires c = (next_readable c.args.self.now.parcel.now c.args.self.now.at c.args.self.now.left (omega arith) c.args.self.now.listed).0

pub after-self-requires : goal.after-self-requires
after-self-requires c = (next_readable c.args.self.now.parcel.now c.args.self.now.at c.args.self.now.left (omega arith) c.args.self.now.listed).0

pub invariant_of-self : goal.invariant_of-self
invariant_of-self c =
    let s = c.args.self.now in
    record { listed = subst (λ (n : ℕ). readable s.parcel.now n (s.left - 1) ≡ true) (sym c.after-self.ensures) (next_readable s.parcel.now s.at s.left (omega arith) s.listed).1 }

pub returns-clause-steps : goal.returns-clause-steps
returns-clause-steps c =
    let s = c.args.self.now in
    buffers_next s.parcel.now s.at s.left c.after-self.result c.sent_at-sent.result (omega arith) c.sent_at-sent.ensures c.after-self.ensures

pub returns-clause-goes : goal.returns-clause-goes
returns-clause-goes c =
    let s = c.args.self.now in
    record {
      on = λ _. (tt, tt, omega (arith, length_buffers s.parcel.now s.at s.left, length_buffers s.parcel.now c.after-self.result (s.left - 1)));
      keeps = tt;
      rests = λ _. tt;
    }
