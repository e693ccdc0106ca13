use Rattle.cover.proofs.Whole.{loads_are_arc_loads_lem, load_within_total}
use Rattle.cover.proofs.loads_are_arc_loads.Goals as goal

pub returns : goal.returns
returns g c = record { same = loads_are_arc_loads_lem g.met.D.Delay.laws; within = load_within_total g.met.D.Delay.laws }
