use Rattle.std.proofs.Common.{◌≤◌}
use Rattle.flow.specs.Loads.{total}
use Rattle.flow.proofs.Exist.{Begun}
use Rattle.marks.specs.Marks.{load_of}
use Rattle.marks.specs.Shown.{shown}
use Rattle.loads.specs.Stays.{Stays}
use Rattle.loads.proofs.first.Raising.first_loads.Given as goal

abbrev pub invariant-loop-k : goal.invariant-loop-k
invariant-loop-k l =
    Stays l.fn.self l.self
    × Begun (shown l.fn.self.arcs) (load_of l.self.loads.now) l.k
    × (total (shown l.fn.self.arcs) (load_of l.self.loads.now) ≤ l.k)
