use Rattle.cover.proofs.Whole.{one_best_loads_lem}
use Rattle.cover.proofs.one_best_loads.Goals as goal

pub returns : goal.returns
returns g c = one_best_loads_lem g.met.D.Delay.laws
