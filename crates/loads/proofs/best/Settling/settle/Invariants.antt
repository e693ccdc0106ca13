use Rattle.marks.specs.Marks.{load_of}
use Rattle.marks.specs.Shown.{shown}
use Rattle.loads.specs.Kept.{Kept}
use Rattle.loads.specs.Settle.{SettledTo}
use Rattle.loads.proofs.best.Settling.settle.Given as goal

abbrev pub invariant-loop-k : goal.invariant-loop-k
invariant-loop-k l = Kept l.fn.self l.self × SettledTo (shown l.fn.self.arcs) (load_of l.self.loads.now) l.k
