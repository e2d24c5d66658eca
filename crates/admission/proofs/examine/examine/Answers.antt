use Rattle.std.proofs.Common.{ℕ, length, take, sym, ap, ◌∙◌}
use native.Mathlib.Nat.{sub-zero}
use Rattle.std.proofs.lemmas.Result.{err_from_is_err_and}
use Rattle.columns.specs.Checks.{first_denial}
use Rattle.columns.specs.Pools.{plus, one_column}
use Rattle.pools.specs.Parts.{buffers_in}
use Rattle.denials.specs.Said.{said}
use Rattle.parcels.specs.Drafts.{checks_of}
use Rattle.admission.specs.Needs.{drafts_need}
use Rattle.admission.proofs.Deciding.{needed_is, denied_by_node, denied_room, accepted}
use Rattle.admission.proofs.examine.examine.Goals as goal

pub returns-in_err-first_denied : goal.returns-in_err-first_denied
returns-in_err-first_denied c =
    let p = err_from_is_err_and c.from_residual-in_err-first_denied.result c.from_residual-in_err-first_denied.ensures.1 in
    let parcel = c.args.parcel.now in
    let bytes = c.args.shelved.bytes.now in
    let buffers = c.args.shelved.buffers.now in
    let n = c.in_ok-nodes.nodes in
    let X = c.outline.new.drafts in
    rw (p.1, p.2)
    record {
      answers = λ ends s S.
          denied_by_node parcel bytes buffers (take n X) (c.in_ok-nodes.ensures.reads (buffers_in bytes buffers)) c.args.lengths c.args.marks ends s S (said c.in_err-first_denied.field-0.0)
          (ap (λ (m : ℕ). first_denial (checks_of parcel (length buffers) (buffers_in bytes buffers) 0 (take m X))) (sym (sub-zero n)) ∙ c.in_err-first_denied.ensures);
      drafted = tt;
    }

pub returns-in-Some : goal.returns-in-Some
returns-in-Some c =
    let parcel = c.args.parcel.now in
    let bytes = c.args.shelved.bytes.now in
    let buffers = c.args.shelved.buffers.now in
    let n = c.in_ok-nodes.nodes in
    let X = c.outline.new.drafts in
    let O = c.in_ok-nodes.ensures.reads (buffers_in bytes buffers) in
    let e = c.needs-needed.ensures ∙ ap (λ (m : ℕ). plus one_column (drafts_need parcel (take m X))) (sub-zero n) in
    record {
      answers = λ ends s S.
          denied_room parcel bytes buffers (take n X) O c.args.lengths c.args.marks ends s S
          (ap (λ (m : ℕ). first_denial (checks_of parcel (length buffers) (buffers_in bytes buffers) 0 (take m X))) (sym (sub-zero n)) ∙ c.in_ok-first_denied.ensures)
          c.needs-needed.result (needed_is parcel bytes buffers (take n X) O c.needs-needed.result c.in_ok-nodes.ensures.inside.1 e) c.in-Some.pool (sym c.in-Some.ensures);
      drafted = tt;
    }

pub returns : goal.returns
returns c =
    let parcel = c.args.parcel.now in
    let bytes = c.args.shelved.bytes.now in
    let buffers = c.args.shelved.buffers.now in
    let n = c.in_ok-nodes.nodes in
    let X = c.outline.new.drafts in
    let O = c.in_ok-nodes.ensures.reads (buffers_in bytes buffers) in
    let e = c.needs-needed.ensures ∙ ap (λ (m : ℕ). plus one_column (drafts_need parcel (take m X))) (sub-zero n) in
    let q = needed_is parcel bytes buffers (take n X) O c.needs-needed.result c.in_ok-nodes.ensures.inside.1 e in
    record {
      answers = λ ends s S.
          accepted parcel bytes buffers (take n X) O c.args.lengths c.args.marks ends s S
          (ap (λ (m : ℕ). first_denial (checks_of parcel (length buffers) (buffers_in bytes buffers) 0 (take m X))) (sym (sub-zero n)) ∙ c.in_ok-first_denied.ensures)
          c.needs-needed.result q (sym c.in_default.ensures);
      drafted = (c.in_ok-nodes.ensures.inside.0, record { outlined = O; drafted = c.in_ok-nodes.ensures.inside.1; needed = q });
    }
