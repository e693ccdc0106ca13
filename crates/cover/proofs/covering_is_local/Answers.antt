use Rattle.cover.proofs.Whole.{covering_is_local_lem}
use Rattle.cover.proofs.covering_is_local.Goals as goal

pub returns : goal.returns
returns g c = covering_is_local_lem g.met.D.Delay.laws
