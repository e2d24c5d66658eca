use Rattle.std.proofs.Common.{length, sym, ap, ◌∙◌}
use Rattle.std.proofs.lemmas.Result.{err_from_is_err_and}
use Rattle.columns.specs.Reading.{denied}
use Rattle.denials.specs.declared.Denial.{Denial}
use Rattle.denials.specs.Said.{said}
use Rattle.parcels.proofs.Outline.{outline_denied, outline_left, outlined}
use Rattle.parcels.proofs.node.outline.Goals as goal

pub returns-in_err-node-clause-reads : goal.returns-in_err-node-clause-reads
returns-in_err-node-clause-reads c =
    let p = err_from_is_err_and c.from_residual.result c.from_residual.ensures.1 in
    let n = c.new-reader.ensures in
    rw (p.1, p.2) λ shelved. outline_denied shelved c.args.parcel.now (said c.in_err-node.field-0.0) (rw (n.parcel, n.place) at (c.in_err-node.ensures.reads shelved (length shelved)))

pub returns-in_err-at_end-clause-reads : goal.returns-in_err-at_end-clause-reads
returns-in_err-at_end-clause-reads c =
    let p = err_from_is_err_and c.from_residual-in_err-at_end.result c.from_residual-in_err-at_end.ensures.1 in
    let n = c.new-reader.ensures in
    let e = c.in_ok-node.ensures in
    let d = c.in_err-at_end.ensures in
    rw (p.1, p.2) λ shelved.
    outline_left shelved c.args.parcel.now c.in_ok-node.field-0 c.node.new.self.place c.node.new.drafts (rw (n.parcel, n.place) at (e.reads shelved (length shelved)))
    (rw (e.parcel, n.parcel) at d.1)
    ∙ ap (λ (x : Denial). denied (said x)) (sym d.0)

pub returns-clause-reads : goal.returns-clause-reads
returns-clause-reads c =
    let n = c.new-reader.ensures in
    let e = c.in_ok-node.ensures in
    λ shelved.
    outlined shelved c.args.parcel.now c.in_ok-node.field-0 c.node.new.self.place c.node.new.drafts (rw (n.parcel, n.place) at (e.reads shelved (length shelved)))
    (rw (e.parcel, n.parcel) at c.in_ok-at_end.ensures)
