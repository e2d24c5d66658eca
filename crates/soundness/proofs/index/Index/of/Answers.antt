use Rattle.std.proofs.Common.{◌≡◌, ℕ, ◌+◌, ◌*◌, ◌/◌, Bool, cond, sym, refl, ap, ◌∙◌, subst, inl, arith}
use Rattle.std.proofs.Math.Nat.{lt_of_mul-lt-mul_right}
use Rattle.std.proofs.lemmas.List.{length-set}
use Rattle.parcels.specs.Lent.{place_of}
use Rattle.soundness.specs.declared.sent.DataBuffer.{DataBuffer}
use Rattle.soundness.specs.Buffers.{buffers_from}
use Rattle.soundness.proofs.Finding.{Stepping, kept_few, marks_more, step_more, step_end, step_fits}
use Rattle.soundness.proofs.index.Index.of.Goals as goal

pub loop-k-init : goal.loop-k-init
loop-k-init c =
    let parcel = c.args.node.parcel.now in
    let lent = c.args.node.draft.parts.lent in
    let stride : ℕ = lent.len / 256 + 1 in
    let t = c.into_iter-k-iterator.result in
    let l = c.lent.result in
    let g = c.into_iter-k-iterator.ensures.into_iter_gives in
    let e = c.enumerate-k-items.ensures in
    let o = c.lent.ensures in
    let b = c.step_by.ensures in
    let none : t.count ≡ 0 = ap (λ x. x.count) g ∙ e.count in
    let step = ap (λ x. x.iter) g ∙ e.source in
    let same : buffers_from l.parcel.now l.at l.left ≡ buffers_from parcel lent.start lent.len = cc (o.among, o.first, o.count) in
    let walk : Stepping parcel lent.start lent.len stride t.iter t.count =
    record {
      past = 0;
      left = ap (λ x. buffers_from x.iter.parcel.now x.iter.at x.iter.left) step ∙ ap (λ x. buffers_from x.parcel.now x.at x.left) b.source ∙ same;
      gap = ap (λ x. x.gap + 1) step ∙ omega (arith, b.step_minus_one);
      next =
          (let z : cond t.iter.first 0 t.iter.gap ≡ 0 = ap (λ x. cond x.first 0 x.gap) step ∙ ap (λ (f : Bool). cond f 0 c.step_by.result.gap) b.first_take in
          let y : t.count * stride ≡ 0 * stride = ap (λ (n : ℕ). n * stride) none in
          omega (arith, z, y));
    } in
    record {
      can = (tt, tt, inl (step_fits parcel lent.start lent.len stride t.iter t.iter t.count walk _ (omega (arith, none)) c.args.node.drafted.parts.few));
      finite = tt;
      walk = walk;
      known = λ j h. absurd (omega (arith, none, h));
      size = refl;
    }

pub offset_bounds-marks-k : goal.offset_bounds-marks-k
offset_bounds-marks-k c =
    let lent = c.args.node.draft.parts.lent in
    let s = c.in-Some.ensures.steps in
    let m = step_more c.args.node.parcel.now lent.start lent.len (lent.len / 256 + 1) c.loop-k.k-iterator.iter c.next.new.self.iter c.loop-k.k-iterator.count c.loop-k.invariant.walk c.in-Some.buffer s.0 in
    let f = kept_few (lent.len / 256 + 1) lent.len c.loop-k.k-iterator.count refl m.0 in
    omega (arith, s.1)

pub bounds-marks-k : goal.bounds-marks-k
bounds-marks-k c =
    let lent = c.args.node.draft.parts.lent in
    let s = c.in-Some.ensures.steps in
    let m = step_more c.args.node.parcel.now lent.start lent.len (lent.len / 256 + 1) c.loop-k.k-iterator.iter c.next.new.self.iter c.loop-k.k-iterator.count c.loop-k.invariant.walk c.in-Some.buffer s.0 in
    let f = kept_few (lent.len / 256 + 1) lent.len c.loop-k.k-iterator.count refl m.0 in
    omega (arith, s.1)

pub loop-k-preserved : goal.loop-k-preserved
loop-k-preserved c =
    let parcel = c.args.node.parcel.now in
    let lent = c.args.node.draft.parts.lent in
    let stride : ℕ = lent.len / 256 + 1 in
    let i = c.loop-k.invariant in
    let s = c.in-Some.ensures.steps in
    let n = c.loop-k.k-iterator.count in
    let t = c.next.new.self in
    let m = step_more parcel lent.start lent.len stride c.loop-k.k-iterator.iter t.iter n i.walk c.in-Some.buffer s.0 in
    let f = kept_few stride lent.len n refl m.0 in
    let walk : Stepping parcel lent.start lent.len stride t.iter t.count = subst (Stepping parcel lent.start lent.len stride t.iter) (sym s.2) m.2 in
    let at : c.in-Some.buffer.at ≡ place_of parcel lent.start (c.in-Some.k * stride) = ap (λ (b : DataBuffer). b.at) m.1 ∙ ap (λ (k : ℕ). place_of parcel lent.start (k * stride)) (sym s.1) in
    record {
      can = (tt, tt, inl (step_fits parcel lent.start lent.len stride t.iter t.iter t.count walk _ (omega (arith, s.2, f)) c.args.node.drafted.parts.few));
      finite = tt;
      walk = walk;
      known = λ j h.
          marks_more parcel lent.start stride c.in-Some.k c.in-Some.buffer.at c.loop-k.marks at (λ j l. i.known j (omega (arith, l, s.1))) (omega (arith, i.size, s.1, f)) j (omega (arith, h, s.1, s.2));
      size = length-set c.loop-k.marks c.in-Some.k c.in-Some.buffer.at ∙ i.size;
    }

pub invariant_of-result : goal.invariant_of-result
invariant_of-result c =
    let i = c.loop-k.invariant in
    let lent = c.args.node.draft.parts.lent in
    let stride : ℕ = lent.len / 256 + 1 in
    let t = c.loop-k.k-iterator in
    let l = step_end c.args.node.parcel.now lent.start lent.len stride t.iter c.next.new.self.iter t.count i.walk c.in-None.ensures.steps.0 in
    record { indexed = record { stride = refl; known = λ j h. i.known j (lt_of_mul-lt-mul_right stride (omega (arith, h, l))); size = i.size } }
