use Rattle.std.proofs.Common.{◌≡◌, ℕ, ◌+◌, ◌*◌, ◌^◌, ◌<◌, ◌≤◌, List, [], ◌∷◌, ◌++◌, get_or, sym, ap, ◌∙◌, subst, arith}
use Rattle.std.specs.List.{AllByRecursion}
use Rattle.std.proofs.lemmas.List.{drop_more}
use Rattle.std.proofs.ByRecursion.{All-get_or, All-weaker}
use Rattle.columns.specs.Pools.{plus}
use Rattle.pools.specs.Marked.{listed}
use Rattle.parcels.specs.Drafts.{Drafted}
use Rattle.admission.specs.Needs.{needed}
use Rattle.soundness.proofs.Rungs.{blank}
use Rattle.admission.proofs.Counting.{plus_most, all_below, add_more, add_all}
use Rattle.admission.proofs.needs.needs.Goals as goal

pub invariant_of-node : goal.invariant_of-node
invariant_of-node c = record { drafted = All-get_or (Drafted c.args.nodes.parcel.now) c.args.nodes.drafts.now c.loop-draft.draft-index blank c.loop-draft-test.true c.args.nodes.drafted }

pub add-total-requires : goal.add-total-requires
add-total-requires c =
    let i = c.loop-draft.draft-index in
    let t = c.loop-draft.total in
    let o = c.draft_needs.result in
    let low : i ≤ 256 = omega arith in
    All-weaker (λ (v : ℕ). v ≤ i * 281474976710656 + 1 + 281474976710656) (λ (v : ℕ). v < 2 ^ 64) (λ v p. omega arith) (plus (needed t) (needed o))
    (plus_most (i * 281474976710656 + 1) 281474976710656 t o c.loop-draft.invariant.1 c.draft_needs.ensures.low)

pub loop-draft-preserved : goal.loop-draft-preserved
loop-draft-preserved c =
    let D = c.args.nodes.drafts.now in
    let i = c.loop-draft.draft-index in
    let t = c.loop-draft.total in
    let o = c.draft_needs.result in
    let sum : needed c.add-total.result ≡ plus (needed t) (needed o) = ap (λ (l : List ℕ). l ++ 0 ∷ []) c.add-total.ensures in (
      sym (add_more c.args.nodes.parcel.now D i t o c.add-total.result (get_or D i blank) (drop_more D i blank c.loop-draft-test.true) c.draft_needs.ensures.is sum) ∙ c.loop-draft.invariant.0,
      subst (AllByRecursion (λ (v : ℕ). v ≤ (i + 1) * 281474976710656 + 1)) (sym sum)
          (all_below (i * 281474976710656 + 1 + 281474976710656) ((i + 1) * 281474976710656 + 1) (plus (needed t) (needed o)) (omega arith)
          (plus_most (i * 281474976710656 + 1) 281474976710656 t o c.loop-draft.invariant.1 c.draft_needs.ensures.low)),
    )

pub returns : goal.returns
returns c =
    ap listed c.from.ensures ∙ add_all c.args.nodes.parcel.now c.args.nodes.drafts.now c.loop-draft.draft-index c.loop-draft.total c.loop-draft-test.false ∙ c.loop-draft.invariant.0
