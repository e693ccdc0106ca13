use Rattle.circuit.proofs.Claims.{spreads_are_sound, paths_are_pairs}
use Rattle.circuit.proofs.spreads_stand.Goals as goal

pub returns : goal.returns
returns g c = record { sound = spreads_are_sound g.met.D.Delay.laws; pairs = paths_are_pairs g.D.Delay.kind }
