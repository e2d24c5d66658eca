use Rattle.std.proofs.Common.{leb, rules}
use Rattle.std.proofs.lemmas.List.Sorted.{IsPartitionedBy-leb, IsPartitionPoint-from_clause}
use Rattle.rows.proofs.Entries.{rises_by, point_entry}
use Rattle.rows.proofs.runs.run_of.Goals as goal

pub returns : goal.returns
returns g c = λ number gives rises.
    let xs = c.args.ends.now in
    let point = IsPartitionPoint-from_clause (λ x. leb (number x) c.args.row) xs _ c.partition_point.ensures.partitioned (IsPartitionedBy-leb number xs c.args.row (rises_by number xs rises)) (λ a r q k. search rules) in
    point_entry number xs c.partition_point.result c.args.row rises c.partition_point.ensures.bound point
