use Rattle.std.proofs.Common.{◌+◌, refl}
use Rattle.parcels.specs.declared.sent.Sent.TheVariants.{Brought, Named}
use Rattle.parcels.proofs.Reading.{sent_read, sent_named}
use Rattle.parcels.proofs.reader.Reader.data_buffer.Goals as goal

pub returns-in_ok-item-in-Brought-clause-reads : goal.returns-in_ok-item-in-Brought-clause-reads
returns-in_ok-item-in-Brought-clause-reads c =
    let r = c.args.self.now in
    let z = c.in_ok-item-in-Brought.ensures.reads in
    let l = rw (c.in_ok-sent.ensures.ok_part, c.in-Brought.is) at c.read.ensures in
    rw z.1 (sent_read r.parcel.now r.place c.ahead.result.now c.ahead.ensures (Brought c.in-Brought.len) l.1 (4 + c.in-Brought.len) refl z.2)

pub returns-in_ok-item-in-Brought-clause-names : goal.returns-in_ok-item-in-Brought-clause-names
returns-in_ok-item-in-Brought-clause-names c =
    let r = c.args.self.now in
    let l = rw (c.in_ok-sent.ensures.ok_part, c.in-Brought.is) at c.read.ensures in
    sent_named r.parcel.now r.place c.ahead.result.now c.ahead.ensures (Brought c.in-Brought.len) l.1 (4 + c.in-Brought.len) refl c.in_ok-item-in-Brought.ensures.reads.2

pub returns-in_ok-item-in-Named-clause-reads : goal.returns-in_ok-item-in-Named-clause-reads
returns-in_ok-item-in-Named-clause-reads c =
    let r = c.args.self.now in
    let z = c.in_ok-item-in-Named.ensures.reads in
    let l = rw (c.in_ok-sent.ensures.ok_part, c.in-Named.is) at c.read.ensures in
    rw z.1 (sent_read r.parcel.now r.place c.ahead.result.now c.ahead.ensures (Named c.in-Named.field-0) l.1 4 refl z.2)
