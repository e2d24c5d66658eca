use Rattle.std.proofs.Common.{◌≡◌, drop, sym, ap, ◌∙◌}
use Rattle.columns.specs.Sent.{buffer_length}
use Rattle.parcels.proofs.Reading.{buffer_long}
use Rattle.parcels.proofs.reader.Reader.buffer.Goals as goal

pub returns-clause-reads : goal.returns-clause-reads
returns-clause-reads c =
    let r = c.args.self.now in
    let l = rw c.in_ok-len.ensures.ok_part at c.length_of.ensures in
    let e : c.in_ok-len.len ≡ buffer_length (drop r.place.at r.parcel.now) = l.1 ∙ ap buffer_length c.ahead.ensures in
    let s = c.in_ok-sent.ensures in
    λ bs. rw (s.reads.0, s.reads.1, s.parcel) (sym (buffer_long r.parcel.now r.place bs c.in_ok-len.len e s.reads.2))
