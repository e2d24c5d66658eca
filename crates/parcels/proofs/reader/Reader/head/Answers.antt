use Rattle.std.proofs.Common.{◌≡◌, ◌+◌, ◌≤◌, length, sym, ◌∙◌, rules}
use Rattle.columns.specs.Says.{slice}
use Rattle.columns.specs.Reading.{big_endian}
use Rattle.parcels.proofs.Reading.{head_long, label_is, rows_are}
use Rattle.parcels.proofs.reader.Reader.head.Goals as goal

pub returns-clause-reads : goal.returns-clause-reads
returns-clause-reads c =
    let r = c.args.self.now in
    let x = c.in_ok-first.field-0 in
    let b = c.in_ok-first.ensures in
    let f = c.in_ok-format.ensures in
    let i : r.place.at + 8 + c.from.result ≤ length r.parcel.now = rw (b.reads.1, b.parcel) at f.reads.2 in
    let l : c.from_be_bytes.result ≡ big_endian (slice x 1 2) = c.from_be_bytes.ensures ∙ label_is x (search rules) in
    let h : c.from_be_bytes-2.result ≡ big_endian (slice x 4 4) = c.from_be_bytes-2.ensures ∙ rows_are x (search rules) in
    λ bs. rw (f.reads.0, f.reads.1, f.parcel, b.reads.1, b.parcel, l, h) (sym (head_long r.parcel.now r.place bs x c.from.result b.reads.0 c.from.ensures i))
