use Rattle.std.proofs.Common.{ℕ, ◌<◌, List, [], ◌∷◌, ◌++◌, length, sym, refl, ap, ◌∙◌, arith, length-take, w8, Fits}
use mathlib.Core.Logic.{∥∥₁_elim, ∥∥₁_map}
use Rattle.std.proofs.lemmas.List.{length-take-le}
use Rattle.std.proofs.ByRecursion.{All-from_get_or}
use Rattle.std.proofs.lemmas.Result.{err_from_is_err_and}
use Rattle.columns.specs.Ledger.{Call, added, filing, shelf_of, unless_denied}
use Rattle.pools.proofs.Keeping.{ready_after}
use Rattle.denials.specs.Said.{said}
use Rattle.pools.specs.Marked.{entries, listed}
use Rattle.shelf.specs.Stands.{Stands, lengths, ledger}
use Rattle.shelf.proofs.Standing.{ready_prop}
use Rattle.shelf.proofs.Nexts.{denied_stands, accepted_stands}
use Rattle.shelf.proofs.Filing.{to_examine, within_bytes, to_store, same_lengths}
use Rattle.shelf.proofs.files.file_into.Goals as goal

of_byte : {n : ℕ} → Fits w8 n → n < 256
of_byte f = omega arith

pub used-requires : goal.used-requires
used-requires c = (∥∥₁_elim c.requires (ready_prop c.args.pools.now) (λ r. r.1.ready)).bytes

pub used-requires-2 : goal.used-requires-2
used-requires-2 c = (∥∥₁_elim c.requires (ready_prop c.args.pools.now) (λ r. r.1.ready)).buffers

pub invariant_of-shelved : goal.invariant_of-shelved
invariant_of-shelved c = record { inside = within_bytes c.args.pools.now c.args.slip _ _ c.used.ensures c.used-2.ensures c.requires }

pub returns-in_err-accepted : goal.returns-in_err-accepted
returns-in_err-accepted c =
    let e = err_from_is_err_and c.from_residual.result c.from_residual.ensures.1 in
    let p = c.args.pools.now in
    let slip = c.args.slip in
    let parcel = c.args.parcel.now in
    let why = λ (calls : List Call) (s : Stands calls p slip).
    c.in_err-accepted.ensures.answers (lengths p slip) (shelf_of (ledger p slip calls)) (to_examine p slip _ _ _ _ c.used.ensures c.used-2.ensures (ap (λ m. entries m ++ slip ∷ []) c.lengths.ensures) (ap listed c.from-marks.ensures ∙ ap (λ m. entries m ++ 0 ∷ []) c.marks.ensures) s) in
    rw (e.1, e.2)
    record {
      stands = λ calls s. denied_stands (filing parcel) (said c.in_err-accepted.field-0.0) (sym (why calls s)) s;
      answers = λ calls s. ap (λ o. unless_denied o (added (length (shelf_of (ledger p slip calls)).columns))) (why calls s);
      denied = refl;
      lent = refl;
    }

pub overflow_cast-column : goal.overflow_cast-column
overflow_cast-column c =
    let r = ∥∥₁_elim c.requires (ready_prop c.args.pools.now) (λ r. r.1.ready) in
    let h = r.columns.capped in
    omega arith

pub invariant_of-nodes : goal.invariant_of-nodes
invariant_of-nodes c = record { drafted = c.in_ok-accepted.ensures.drafted.1.drafted }

pub store-requires : goal.store-requires
store-requires c =
    let p = c.args.pools.now in
    let slip = c.args.slip in
    let parcel = c.args.parcel.now in
    let x = c.in_ok-accepted.ensures.drafted in
    record {
      ready = ∥∥₁_elim c.requires (ready_prop p) (λ r. r.1.ready);
      few = omega (arith, length-take c.in_ok-accepted.accepted.nodes c.examine.new.drafts);
      accepted = ∥∥₁_map c.requires (λ r. (
        shelf_of (ledger p slip r.0),
        slip,
        to_store p slip _ _ parcel _ c.used.ensures c.used-2.ensures x.1.outlined
            (c.in_ok-accepted.ensures.answers (lengths p slip) (shelf_of (ledger p slip r.0)) (to_examine p slip _ _ _ _ c.used.ensures c.used-2.ensures (ap (λ m. entries m ++ slip ∷ []) c.lengths.ensures) (ap listed c.from-marks.ensures ∙ ap (λ m. entries m ++ 0 ∷ []) c.marks.ensures) r.1))
            r.1,
      ));
    }

pub returns : goal.returns
returns c =
    let p = c.args.pools.now in
    let slip = c.args.slip in
    let parcel = c.args.parcel.now in
    let x = c.in_ok-accepted.ensures.drafted in
    let shown = c.store.ensures.shown in
    let free = λ (calls : List Call) (s : Stands calls p slip).
    c.in_ok-accepted.ensures.answers (lengths p slip) (shelf_of (ledger p slip calls)) (to_examine p slip _ _ _ _ c.used.ensures c.used-2.ensures (ap (λ m. entries m ++ slip ∷ []) c.lengths.ensures) (ap listed c.from-marks.ensures ∙ ap (λ m. entries m ++ 0 ∷ []) c.marks.ensures) s) in
    record {
      stands = λ calls s.
          accepted_stands (filing parcel) (sym (free calls s)) (same_lengths c.store.ensures.kept)
          (All-from_get_or (λ b. b < 256) parcel 0 (λ i h. of_byte (c.type_inv.parcel i)))
          (ready_after c.store.ensures.kept)
          (shown (shelf_of (ledger p slip calls)) slip (to_store p slip _ _ parcel _ c.used.ensures c.used-2.ensures x.1.outlined (free calls s) s))
          s;
      answers = λ calls s.
          ap added (sym (length-take-le p.columns.mark _ s.ready.columns.fits) ∙ s.shows.columns.count)
          ∙ ap (λ o. unless_denied o (added (length (shelf_of (ledger p slip calls)).columns))) (free calls s);
      denied = tt;
      lent = ap (λ m. entries m ++ slip ∷ []) (same_lengths c.store.ensures.kept);
    }
