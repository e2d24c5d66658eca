use Rattle.std.proofs.Common.{ℕ, List, ap}
use mathlib.Core.Option as math
use Rattle.std.proofs.lemmas.Result.{err_from_is_err_and}
use Rattle.columns.specs.Reading.{Outcome, onward, give}
use Rattle.parcels.proofs.reader.Reader.buffer_if.Goals as goal

pub returns-in_err-buffer-clause-reads : goal.returns-in_err-buffer-clause-reads
returns-in_err-buffer-clause-reads c =
    let p = err_from_is_err_and c.from_residual.result c.from_residual.ensures.1 in
    rw (p.1, p.2, c.if-wanted.true) λ bs. ap (λ (o : Outcome (List ℕ)). onward o (λ b. give (math.some b))) (c.in_err-buffer.ensures.reads bs)

pub returns-in_ok-buffer-clause-reads : goal.returns-in_ok-buffer-clause-reads
returns-in_ok-buffer-clause-reads c =
    rw c.if-wanted.true λ bs. ap (λ (o : Outcome (List ℕ)). onward o (λ b. give (math.some b))) (c.in_ok-buffer.ensures.reads bs)

pub returns-in_err-buffer-clause-or_empty : goal.returns-in_err-buffer-clause-or_empty
returns-in_err-buffer-clause-or_empty c =
    let p = err_from_is_err_and c.from_residual.result c.from_residual.ensures.1 in
    rw (p.1, p.2, c.if-wanted.true) c.in_err-buffer.ensures.reads

pub returns-in_ok-buffer-clause-or_empty : goal.returns-in_ok-buffer-clause-or_empty
returns-in_ok-buffer-clause-or_empty c = rw c.if-wanted.true c.in_ok-buffer.ensures.reads
