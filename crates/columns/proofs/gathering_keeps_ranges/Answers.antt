use Rattle.columns.proofs.gathering_keeps_ranges.Goals as goal
use Rattle.columns.proofs.ListKind.{lists_are_list_kinds, gathering_keeps_ranges, gathering_examples}

pub returns : goal.returns
returns c = record { kinds = lists_are_list_kinds; gathering = gathering_keeps_ranges; examples = gathering_examples }
