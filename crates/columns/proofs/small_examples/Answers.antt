use Rattle.columns.proofs.small_examples.Goals as goal
use Rattle.columns.proofs.Shown.{small_examples}

pub returns : goal.returns
returns c = small_examples
