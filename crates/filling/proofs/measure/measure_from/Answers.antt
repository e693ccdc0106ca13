use Rattle.std.proofs.Common.{subst}
use Rattle.wiring.specs.Views.{turned_net}
use Rattle.lengths.specs.Tables.{HoldsTo}
use Rattle.filling.proofs.measure.measure_from.Goals as goal

pub turn_back-requires-clause-turned : goal.turn_back-requires-clause-turned
turn_back-requires-clause-turned g c =
    subst (λ w. HoldsTo g.D.Delay.kind (turned_net (g.W.Wiring.net w)) c.measure_to.new.to.table.now) c.turn_round-turned.ensures.under c.measure_to.ensures.filled
