use Rattle.std.proofs.Common.{rules, ◌≡◌, take, drop, ap, ◌∙◌}
use Rattle.std.proofs.lemmas.Result.{err_from_is_err_and}
use Rattle.columns.specs.Reading.{big_endian}
use Rattle.parcels.proofs.Reading.{count_is}
use Rattle.parcels.proofs.Walk.{lent_open, lent_told}
use Rattle.parcels.proofs.reader.Reader.lent_if.Goals as goal

pub returns-in_err-listed-clause-reads : goal.returns-in_err-listed-clause-reads
returns-in_err-listed-clause-reads c =
    let r = c.args.self.now in
    let p = err_from_is_err_and c.from_residual-in_err-listed.result c.from_residual-in_err-listed.ensures.1 in
    let b = c.in_ok-bytes.ensures in
    let n : c.from-len.result ≡ big_endian (take 2 (drop r.place.at r.parcel.now)) = c.from-len.ensures ∙ c.from_be_bytes.ensures ∙ count_is c.in_ok-bytes.field-0 (search rules) ∙ ap big_endian b.reads.0 in
    rw (p.1, p.2) λ bs.
    lent_open r.parcel.now r.place bs c.args.wanted c.from-len.result c.bytes.new.self.place c.if-not-wanted.false n b.reads.1 b.reads.2
    ∙ (rw b.parcel at (c.in_err-listed.ensures.reads bs))

pub returns-clause-reads : goal.returns-clause-reads
returns-clause-reads c =
    let r = c.args.self.now in
    let b = c.in_ok-bytes.ensures in
    let e = c.in_ok-listed.ensures in
    let n : c.from-len.result ≡ big_endian (take 2 (drop r.place.at r.parcel.now)) = c.from-len.ensures ∙ c.from_be_bytes.ensures ∙ count_is c.in_ok-bytes.field-0 (search rules) ∙ ap big_endian b.reads.0 in
    λ bs.
    lent_told r.parcel.now r.place bs c.args.wanted c.from-len.result c.bytes.new.self.place c.listed.new.self.place c.if-not-wanted.false n b.reads.1 b.reads.2
    e.same.nodes (rw b.parcel at (e.reads bs))
