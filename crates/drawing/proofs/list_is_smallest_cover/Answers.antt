use Rattle.drawing.proofs.Whole.{list_is_smallest_cover_lem}
use Rattle.drawing.proofs.list_is_smallest_cover.Goals as goal

pub returns : goal.returns
returns g c = list_is_smallest_cover_lem g.met.D.Delay.laws
