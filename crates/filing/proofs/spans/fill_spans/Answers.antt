use Rattle.std.proofs.Common.{◌≡◌, ℕ, ◌+◌, ◌-◌, ◌<◌, ◌≤◌, List, map, length, get_or, drop, sym, ap, ◌∙◌, subst, arith}
use lib.ListN.{length-map}
use Rattle.std.proofs.lemmas.List.{get_or-map}
use Rattle.parcels.specs.declared.draft.Draft.{Draft}
use Rattle.filing.specs.Row.{spanned, spans_of}
use Rattle.filing.specs.Counts.{children_in}
use Rattle.filing.proofs.Spanning.{spans_more, span_few, spans_start}
use Rattle.filing.proofs.spans.fill_spans.Goals as goal

-- the sizes after a place, and the child count there
after : (ds : List Draft) (ss : List ℕ) (i : ℕ) → 0 < i → drop i ss ≡ spans_of (drop i (map children_in ds)) → drop (i - 1 + 1) ss ≡ spans_of (drop (i - 1 + 1) (map children_in ds))
after ds ss i h e = subst (λ (k : ℕ). drop k ss ≡ spans_of (drop k (map children_in ds))) (let z : i ≡ i - 1 + 1 = omega arith in z) e

count : (ds : List Draft) (i : ℕ) (d : Draft) → i < length ds → (get_or ds i d).head.children ≡ get_or (map children_in ds) i 0
count ds i d h = sym (get_or-map children_in ds i d 0 h)

pub loop-i-init : goal.loop-i-init
loop-i-init c =
    spans_start (map children_in c.args.drafts.now) c.args.spans.now (length c.args.drafts.now) (omega (arith, length-map c.args.drafts.now children_in)) (omega (arith, c.requires.same))

pub span_at-requires-clause-few : goal.span_at-requires-clause-few
span_at-requires-clause-few c =
    let l : c.loop-i.i - 1 < length c.args.drafts.now = omega (arith, c.loop-i.auto.i, c.loop-i-test.true) in
    subst (λ (k : ℕ). 1 + spanned k (drop (c.loop-i.i - 1 + 1) c.loop-i.spans) ≤ 256) (sym (count c.args.drafts.now (c.loop-i.i - 1) _ l))
    (span_few (map children_in c.args.drafts.now) c.loop-i.spans (c.loop-i.i - 1) (omega (arith, l, length-map c.args.drafts.now children_in)) c.requires.few
    (after c.args.drafts.now c.loop-i.spans c.loop-i.i c.loop-i-test.true c.loop-i.invariant))

pub loop-i-preserved : goal.loop-i-preserved
loop-i-preserved c =
    let l : c.loop-i.i - 1 < length c.args.drafts.now = omega (arith, c.loop-i.auto.i, c.loop-i-test.true) in
    spans_more (map children_in c.args.drafts.now) c.loop-i.spans (c.loop-i.i - 1) (omega (arith, l, length-map c.args.drafts.now children_in)) (omega (arith, l, c.requires.same, c.loop-i.auto.spans))
    (after c.args.drafts.now c.loop-i.spans c.loop-i.i c.loop-i-test.true c.loop-i.invariant) c.span_at.result
    (c.span_at.ensures ∙ ap (λ (k : ℕ). 1 + spanned k (drop (c.loop-i.i - 1 + 1) c.loop-i.spans)) (count c.args.drafts.now (c.loop-i.i - 1) _ l))
