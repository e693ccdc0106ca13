use Rattle.cover.proofs.Whole.{no_shorter_list_lem}
use Rattle.cover.proofs.no_shorter_list.Goals as goal

pub returns : goal.returns
returns g c = no_shorter_list_lem g.met.D.Delay.laws
