use Rattle.flow.specs.Table.{entering}
use Rattle.marks.specs.Marks.{reached_of}
use Rattle.marks.specs.Shown.{shown}
use Rattle.loads.proofs.Witness.{Filled}
use Rattle.loads.proofs.cut.Cut.write_witness.Given as goal

abbrev pub invariant-loop-k : goal.invariant-loop-k
invariant-loop-k l = Filled (entering (shown l.self.arcs) (reached_of l.self.nodes.now)) l.k l.count l.initial.row l.row
