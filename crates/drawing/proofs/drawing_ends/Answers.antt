use Rattle.drawing.proofs.Whole.{drawing_ends_lem}
use Rattle.drawing.proofs.drawing_ends.Goals as goal

pub returns : goal.returns
returns g c = drawing_ends_lem g.met.D.Delay.laws
