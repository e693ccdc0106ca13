use Rattle.std.proofs.Common.{◌≡◌, ℕ, true}
use Rattle.flow.specs.Ways.{step_to}
use Rattle.marks.specs.Marks.{load_of}
use Rattle.marks.specs.Shown.{shown}
use Rattle.loads.specs.Raise.{RaisedOn}
use Rattle.loads.specs.Stays.{Stays}
use Rattle.loads.specs.Steps.{over}
use Rattle.loads.proofs.Raises.{still}
use Rattle.loads.proofs.first.Raising.raise_on.Given as goal

abbrev pub invariant-loop-v : goal.invariant-loop-v
invariant-loop-v l =
    Stays l.fn.self l.self
    × RaisedOn (shown l.fn.self.arcs) (load_of l.fn.self.loads.now) (load_of l.self.loads.now) l.along
    (step_to (shown l.fn.self.arcs) (over l.fn.from.place l.along)) l.v
    × ((i : ℕ) × ((shown l.fn.self.arcs).arc i ≡ true) × (l.v ≡ step_to (shown l.fn.self.arcs) (over i l.along)))

abbrev pub decreases-loop-v : goal.decreases-loop-v
decreases-loop-v l = still (shown l.fn.self.arcs) l.along l.v
