use Rattle.std.proofs.Common.{ℕ, ◌+◌, ◌≤◌, length, sym, refl, ap, ◌∙◌, subst}
use Rattle.parcels.specs.Lent.{data_size, place_of}
use Rattle.parcels.proofs.Lents.{readable_at, place_more}
use Rattle.soundness.proofs.lents.skip.Goals as goal

pub loop-k-init : goal.loop-k-init
unfolding place_of
loop-k-init c = refl

pub after-at-requires : goal.after-at-requires
after-at-requires c =
    let parcel = c.args.parcel.now in
    subst (λ (n : ℕ). n + data_size parcel n ≤ length parcel) (sym c.loop-k.invariant) (readable_at parcel c.args.start c.args.count c.loop-k._k c.requires c.loop-k-test.true)

pub loop-k-preserved : goal.loop-k-preserved
loop-k-preserved c =
    let parcel = c.args.parcel.now in
    c.after-at.ensures ∙ ap (λ (n : ℕ). n + data_size parcel n) c.loop-k.invariant ∙ sym (place_more parcel c.args.start c.loop-k._k)
