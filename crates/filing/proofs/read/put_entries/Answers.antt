use Rattle.std.proofs.Common.{ℕ, List, ◌≡◌, ◌<◌, ◌++◌, length, take, sym, ap, ◌∙◌, subst}
use Rattle.std.proofs.lemmas.List.{take_at}
use Rattle.std.specs.Slice.Iter.{chunks_exact_rest}
use Rattle.pools.specs.Laid.{entries_in}
use Rattle.filing.proofs.Numbers.{laying_next, laying_room, laying_end}
use Rattle.filing.proofs.read.put_entries.Goals as goal

pub set-requires : goal.set-requires
set-requires g c =
    let s = c.in-Some.ensures.steps in
    let i = c.loop-entry.invariant in
    laying_room i.laying.0 _ c.in-Some.entry.now (chunks_exact_rest c.next.new.self) (subst (λ n. 0 < n) i.size i.can) s.1.0 (s.1.1 ∙ i.size) i.laying.1

pub loop-entry-preserved : goal.loop-entry-preserved
loop-entry-preserved g c =
    let s = c.in-Some.ensures.steps in
    let i = c.loop-entry.invariant in
    let all = entries_in (λ (b : List ℕ). g.T.Laid.told (take g.T.Laid.SIZE b)) g.T.Laid.SIZE c.args.count c.args.body.now in
    let after = chunks_exact_rest c.next.new.self in
    let size : length c.in-Some.entry.now ≡ g.T.Laid.SIZE = s.1.1 ∙ i.size in
    let told : c.first_of.result ≡ g.T.Laid.told (take g.T.Laid.SIZE (c.in-Some.entry.now ++ after)) =
    c.first_of.ensures ∙ ap g.T.Laid.told (sym (take_at c.in-Some.entry.now after g.T.Laid.SIZE size)) in
    let some : 0 < g.T.Laid.SIZE = subst (λ n. 0 < n) i.size i.can in
    record {
      can = subst (λ n. 0 < n) (sym s.0) i.can;
      finite = tt;
      size = s.0 ∙ i.size;
      laying = laying_next {all = all} i.laying.0 _ c.in-Some.entry.now after c.from.result _ some s.1.0 size (subst (λ x. g.E.From.from_gives x c.from.result) told c.from.ensures) c.set.ensures i.laying.1;
    }

pub returns-clause-added : goal.returns-clause-added
returns-clause-added g c =
    let s = c.in-None.ensures.steps in
    let i = c.loop-entry.invariant in
    laying_end i.laying.0 _ (subst (λ n. length (chunks_exact_rest c.loop-entry.entry-iterator) < n) i.size s.1.0) i.laying.1
