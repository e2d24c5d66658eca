use Rattle.std.proofs.Common.{◌<◌, arith}
use Rattle.std.proofs.ByRecursion.{All-from_get_or}
use Rattle.std.proofs.lemmas.Iterator.{empty_from_Zip}
use Rattle.columns.specs.Widths.{Bytes}
use Rattle.filing.proofs.Filing.{storing_next, storing_room, storing_more, storing_end}
use Rattle.filing.proofs.nodes.put_nodes.Goals as goal

pub put_node-requires-clause-room : goal.put_node-requires-clause-room
put_node-requires-clause-room c =
    let next = c.in-Some.ensures.steps in
    storing_room _ _ (storing_next c.in-Some.draft.now c.in-Some.span.now next.0 next.1 c.loop-draft.invariant)

pub loop-draft-preserved : goal.loop-draft-preserved
loop-draft-preserved c =
    let next = c.in-Some.ensures.steps in
    let small : Bytes c.args.parcel.now = All-from_get_or (λ b. b < 256) c.args.parcel.now 0 (λ i h. omega (arith, c.type_inv.parcel i)) in
    storing_more _ _ (storing_next c.in-Some.draft.now c.in-Some.span.now next.0 next.1 c.loop-draft.invariant) _ small c.put_node.ensures

pub returns : goal.returns
returns c =
    let spent = empty_from_Zip _ c.next.new.self _ c.in-None.is c.next.ensures.steps c.loop-draft.invariant.long in
    storing_end _ _ spent.0 spent.1 c.loop-draft.invariant
