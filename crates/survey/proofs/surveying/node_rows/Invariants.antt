use Rattle.std.proofs.Common.{vec_items}
use Rattle.lengths.specs.Pairs.{PairKept}
use Rattle.survey.specs.Surveyed.{NodeTold, Rows}
use Rattle.survey.proofs.surveying.node_rows.Given as goal

abbrev pub invariant-loop-node : goal.invariant-loop-node
invariant-loop-node g l =
    Rows (NodeTold g.D.Delay.kind (g.W.Wiring.net l.w)) (vec_items l.rows) l.node
    × PairKept l.initial.lengths l.lengths
