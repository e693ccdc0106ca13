use Rattle.cover.proofs.Whole.{witness_of_cut, witness_exists_lem}
use Rattle.cover.proofs.witness_exists.Goals as goal

pub returns : goal.returns
returns g c = record { of_cut = witness_of_cut g.met.D.Delay.laws; exists = witness_exists_lem g.met.D.Delay.laws }
