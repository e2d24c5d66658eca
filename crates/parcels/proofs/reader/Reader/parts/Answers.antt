use Rattle.std.proofs.Common.{◌≡◌, rules, refl, ◌∙◌}
use Rattle.std.proofs.lemmas.Result.{err_from_is_err_and}
use Rattle.parcels.specs.Reads.{or_empty}
use Rattle.parcels.proofs.Walk.{sent_told}
use Rattle.parcels.proofs.reader.Reader.parts.Goals as goal

pub returns-in_err-buffer_if-clause-reads : goal.returns-in_err-buffer_if-clause-reads
returns-in_err-buffer_if-clause-reads c =
    let p = err_from_is_err_and c.from_residual-in_err-buffer_if.result c.from_residual-in_err-buffer_if.ensures.1 in
    rw (p.1, p.2) λ bs. rw (← c.in_ok-mask.ensures.reads bs, ← c.in_err-buffer_if.ensures.or_empty bs)

pub returns-in_err-buffer_if-2-clause-reads : goal.returns-in_err-buffer_if-2-clause-reads
returns-in_err-buffer_if-2-clause-reads c =
    let p = err_from_is_err_and c.from_residual-in_err-buffer_if-2.result c.from_residual-in_err-buffer_if-2.ensures.1 in
    rw (p.1, p.2) λ bs. rw (← c.in_ok-mask.ensures.reads bs, ← c.in_ok-buffer_if.ensures.or_empty bs, ← c.in_err-buffer_if-2.ensures.or_empty bs)

pub returns-in_err-lent-clause-reads : goal.returns-in_err-lent-clause-reads
returns-in_err-lent-clause-reads c =
    let p = err_from_is_err_and c.from_residual-in_err-lent.result c.from_residual-in_err-lent.ensures.1 in
    rw (p.1, p.2) λ bs.
    rw (← c.in_ok-mask.ensures.reads bs, ← c.in_ok-buffer_if.ensures.or_empty bs, ← c.in_ok-buffer_if-2.ensures.or_empty bs, c.in_err-lent.ensures.reads bs)

pub returns-clause-reads : goal.returns-clause-reads
returns-clause-reads c =
    let r = c.args.self.now in
    let k = c.in_ok-mask.ensures.kept in
    let l = c.in_ok-buffer_if.ensures.kept in
    let m = c.in_ok-buffer_if-2.ensures.kept in
    let b : or_empty c.in_ok-buffer_if.field-0 ≡ c.unwrap_or_default-body.result = search rules in
    let t : or_empty c.in_ok-buffer_if-2.field-0 ≡ c.unwrap_or_default-text.result = search rules in
    λ bs.
    sent_told r.parcel.now r.place c.buffer_if-3.new.self.place c.lent_if.new.self.place bs _ c.args.sends.lent _ (m.brought ∙ l.brought ∙ k.brought)
    (rw (← c.in_ok-mask.ensures.reads bs, ← c.in_ok-buffer_if.ensures.or_empty bs, ← c.in_ok-buffer_if-2.ensures.or_empty bs, m.parcel, l.parcel, k.parcel, b, t) refl)
    (rw (m.parcel, l.parcel, k.parcel) at (c.in_ok-lent.ensures.reads bs))
