use Rattle.std.proofs.Common.{true, false, sym, subst, ◌<◌, ◌∙◌}
use Rattle.formats.specs.Spelled.{bytes_of}
use Rattle.soundness.proofs.Chunks.{walk_stops, walk_goes}
use Rattle.soundness.proofs.values.last_of.Goals as goal

pub returns-then-not-follows : goal.returns-then-not-follows
returns-then-not-follows g c = λ test k.
    let s = c.in-Some.ensures.steps.1 in
    let i = c.loop-entry.invariant in
    let w = bytes_of c.args.width in
    let p : 0 < w = subst (λ n. 0 < n) i.size i.can in
    let low = c.loop-entry.low in
    let next = c.first_value-next.result in
    let fails = sym (k low next false c.if-not-follows.ensures) in
    sym (walk_stops test w low next c.loop-entry.entry-iterator.rest.now c.in-Some.entry.now c.next.new.self.rest.now p s.0 (s.1 ∙ i.size) c.first_value-next.ensures fails) ∙ i.left test k

pub loop-entry-preserved : goal.loop-entry-preserved
loop-entry-preserved g c =
    let s = c.in-Some.ensures.steps in
    let i = c.loop-entry.invariant in
    let w = bytes_of c.args.width in
    let p : 0 < w = subst (λ n. 0 < n) i.size i.can in
    let low = c.loop-entry.low in
    let next = c.first_value-next.result in
    record {
      callable = i.callable;
      can = subst (λ n. 0 < n) (sym s.0) i.can;
      finite = tt;
      size = s.0 ∙ i.size;
      left = λ test k.
          let holds = sym (k low next true c.if-not-follows.ensures) in
          sym (walk_goes test w low next c.loop-entry.entry-iterator.rest.now c.in-Some.entry.now c.next.new.self.rest.now p s.1.0 (s.1.1 ∙ i.size) c.first_value-next.ensures holds) ∙ i.left test k;
    }
