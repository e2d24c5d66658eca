use Rattle.std.proofs.Common.{rules, ◌≡◌, [], sym, ◌∙◌}
use Rattle.std.proofs.lemmas.Result.{err_from_is_err_and}
use Rattle.denials.specs.declared.Denial.TheVariants.{Unknown}
use Rattle.denials.specs.Said.{said}
use Rattle.parcels.specs.Roles.{role_of}
use Rattle.parcels.proofs.Opening.{begin_denied, begin_unknown, begin_misplaced, begin_facts, begin_cut, begin_opened}
use Rattle.parcels.proofs.reader.Reader.begin.Goals as goal

pub returns-in_err-head-clause-reads : goal.returns-in_err-head-clause-reads
returns-in_err-head-clause-reads c =
    let r = c.args.self.now in
    let p = err_from_is_err_and c.from_residual.result c.from_residual.ensures.1 in
    rw (p.1, p.2) λ bs before. begin_denied r.parcel.now r.place bs before c.args.levels (role_of c.args.role) (said c.in_err-head.field-0.0) (c.in_err-head.ensures.reads bs)

pub returns-in_err-format-clause-reads : goal.returns-in_err-format-clause-reads
returns-in_err-format-clause-reads c =
    let r = c.args.self.now in
    let h = c.in_ok-head.head in
    let k = c.in_ok-head.ensures.kept in
    let p = err_from_is_err_and c.from_residual-in_err-format.result c.from_residual-in_err-format.ensures.1 in
    let u : c.in_err-format.field-0.0 ≡ Unknown r.place.nodes = search rules in
    rw (p.1, p.2, u) λ bs before.
    begin_unknown r.parcel.now r.place bs h c.head.new.self.place (rw k.parcel at (c.in_ok-head.ensures.reads bs)) k.nodes before c.args.levels (role_of c.args.role)
    (rw (c.in_err-format.ensures.ok_part, c.of.ensures, k.parcel) at c.read_format.ensures)

pub returns-then-not-allowed-clause-reads : goal.returns-then-not-allowed-clause-reads
returns-then-not-allowed-clause-reads c =
    let r = c.args.self.now in
    let h = c.in_ok-head.head in
    let k = c.in_ok-head.ensures.kept in
    λ bs before.
    begin_misplaced r.parcel.now r.place bs h c.head.new.self.place (rw k.parcel at (c.in_ok-head.ensures.reads bs)) k.nodes c.in_ok-format.format (rw (c.in_ok-format.ensures.ok_part, c.of.ensures, k.parcel) at c.read_format.ensures) before c.args.levels (role_of c.args.role)
    (sym c.allowed.ensures ∙ c.if-not-allowed.true)

pub returns-in_err-parts-clause-reads : goal.returns-in_err-parts-clause-reads
returns-in_err-parts-clause-reads c =
    let r = c.args.self.now in
    let h = c.in_ok-head.head in
    let k = c.in_ok-head.ensures.kept in
    let s = c.sends.result in
    let p = err_from_is_err_and c.from_residual-in_err-parts.result c.from_residual-in_err-parts.ensures.1 in
    rw (p.1, p.2) λ bs before.
    begin_cut r.parcel.now r.place bs h c.head.new.self.place (rw k.parcel at (c.in_ok-head.ensures.reads bs)) k.nodes c.in_ok-format.format (rw (c.in_ok-format.ensures.ok_part, c.of.ensures, k.parcel) at c.read_format.ensures) c.args.levels (role_of c.args.role)
    (sym c.allowed.ensures ∙ c.if-not-allowed.false) (s.body, s.text, s.lent) c.sends.ensures before (said c.in_err-parts.field-0.0) (rw k.parcel at (c.in_err-parts.ensures.reads bs))

pub returns-clause-reads : goal.returns-clause-reads
returns-clause-reads c =
    let r = c.args.self.now in
    let h = c.in_ok-head.head in
    let k = c.in_ok-head.ensures.kept in
    let s = c.sends.result in
    λ bs.
    begin_opened r.parcel.now r.place bs h c.head.new.self.place (rw k.parcel at (c.in_ok-head.ensures.reads bs)) k.nodes c.in_ok-format.format (rw (c.in_ok-format.ensures.ok_part, c.of.ensures, k.parcel) at c.read_format.ensures) c.args.levels (role_of c.args.role)
    (sym c.allowed.ensures ∙ c.if-not-allowed.false) (s.body, s.text, s.lent) c.sends.ensures c.in_ok-parts.parts c.parts.new.self.place k.brought (rw k.parcel at (c.in_ok-parts.ensures.reads bs))

pub returns-clause-inside : goal.returns-clause-inside
returns-clause-inside c =
    let r = c.args.self.now in
    let h = c.in_ok-head.head in
    let i = c.in_ok-head.ensures.inside in
    let k = c.in_ok-head.ensures.kept in
    let x = c.in_ok-parts.ensures in
    let f = begin_facts r.parcel.now r.place [] h c.head.new.self.place (rw k.parcel at (c.in_ok-head.ensures.reads [])) k.nodes c.in_ok-format.format (rw (c.in_ok-format.ensures.ok_part, c.of.ensures, k.parcel) at c.read_format.ensures) c.args.levels (role_of c.args.role) (sym c.allowed.ensures ∙ c.if-not-allowed.false) in
    record { parts = rw k.parcel at x.inside; head = i.0; name = i.1; rows = f.rows; nodes = x.same.nodes ∙ k.nodes; few = rw x.same.nodes f.few; deep = f.deep; format = rw (c.in_ok-format.ensures.ok_part, c.of.ensures, k.parcel) at c.read_format.ensures; children = f.children }
