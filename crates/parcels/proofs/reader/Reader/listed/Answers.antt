use Rattle.std.proofs.Common.{rules, refl, arith}
use Rattle.denials.specs.Said.{said}
use Rattle.parcels.proofs.Walk.{walked_start, walked_more, walked_denied, walked_all}
use Rattle.parcels.proofs.reader.Reader.listed.Goals as goal

pub loop-k-init : goal.loop-k-init
loop-k-init c =
    let r = c.args.self.now in
    record { walked = λ bs. walked_start r.parcel.now r.place bs c.args.count; same = record { parcel = refl; nodes = refl }; parcel = refl }

pub returns-in-Err-clause-reads : goal.returns-in-Err-clause-reads
returns-in-Err-clause-reads c =
    let r = c.args.self.now in
    let i = c.loop-k.invariant in
    λ bs.
    let w = i.walked bs in
    walked_denied r.parcel.now r.place bs c.args.count c.loop-k._k c.loop-k.list.place w (said c.in-Err.denial) c.loop-k-test.true
    (rw i.same.parcel at (c.in-Err.ensures.reads w.held))

pub loop-k-preserved : goal.loop-k-preserved
loop-k-preserved c =
    let r = c.args.self.now in
    let i = c.loop-k.invariant in
    let e = c.in_default.ensures in
    record {
      walked = λ bs.
          let w = i.walked bs in
          walked_more r.parcel.now r.place bs c.args.count c.loop-k._k c.loop-k.list.place c.data_buffer.new.self.place w c.loop-k-test.true (rw i.same.parcel at (e.reads w.held));
      same = search rules;
      parcel = i.parcel;
    }

pub returns-clause-reads : goal.returns-clause-reads
returns-clause-reads c =
    let r = c.args.self.now in
    λ bs. walked_all r.parcel.now r.place bs c.args.count c.loop-k._k c.loop-k.list.place (c.loop-k.invariant.walked bs) (omega arith)
