use Rattle.marks.specs.Marks.{load_of}
use Rattle.marks.specs.Shown.{shown}
use Rattle.loads.specs.Kept.{Kept}
use Rattle.loads.specs.Settle.{SettledTo}
use Rattle.loads.proofs.best.Settling.settle_lead.Given as goal

abbrev pub invariant-loop-self : goal.invariant-loop-self
invariant-loop-self l = Kept l.fn.self l.self × SettledTo (shown l.fn.self.arcs) (load_of l.self.loads.now) l.k

abbrev pub decreases-loop-self : goal.decreases-loop-self
decreases-loop-self l = load_of l.self.loads.now l.k
