use Rattle.flow.proofs.Tests.{best_by_test_lem}
use Rattle.flow.proofs.best_by_test.Goals as goal

pub returns : goal.returns
returns c = best_by_test_lem
