use Rattle.drawing.proofs.Certify.{list_by_test_lem}
use Rattle.drawing.proofs.list_by_test.Goals as goal

pub returns : goal.returns
returns g c = list_by_test_lem g.met.D.Delay.laws
