use Rattle.columns.proofs.soundness_test_is_exact.Goals as goal
use Rattle.columns.proofs.Exact.{soundness_test_is_exact}

pub returns : goal.returns
returns c = soundness_test_is_exact
