use Rattle.wiring.proofs.Turning.{turning}
use Rattle.wiring.proofs.turn_round.Goals as goal

pub returns-clause-turning : goal.returns-clause-turning
returns-clause-turning g c = turning (g.W.Wiring.net c.args.under.now)
