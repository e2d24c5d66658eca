use Rattle.std.proofs.Common.{◌≡◌, ◌+◌, ◌*◌, ◌≤◌, drop}
use Rattle.std.specs.List.{AllByRecursion}
use Rattle.columns.specs.Pools.{plus, one_column}
use Rattle.admission.specs.Needs.{needed, drafts_need}
use Rattle.admission.proofs.needs.needs.Given as goal

abbrev pub invariant-loop-draft : goal.invariant-loop-draft
invariant-loop-draft l =
    (plus (needed l.total) (drafts_need l.nodes.parcel.now (drop l.draft-index l.nodes.drafts.now)) ≡ plus one_column (drafts_need l.nodes.parcel.now l.nodes.drafts.now))
    × AllByRecursion (λ v. v ≤ l.draft-index * 281474976710656 + 1) (needed l.total)
