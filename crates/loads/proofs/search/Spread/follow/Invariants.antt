use Rattle.std.proofs.Common.{◌≡◌, ◌++◌}
use Rattle.std.specs.List.{All}
use Rattle.marks.specs.Follow.{arcs_of}
use Rattle.marks.specs.Left.{left}
use Rattle.marks.specs.Marks.{load_of}
use Rattle.marks.specs.Shown.{shown}
use Rattle.loads.specs.Went.{Went}
use Rattle.loads.proofs.Searches.{Made}
use Rattle.loads.proofs.search.Spread.follow.Given as goal

abbrev pub invariant-loop-place : goal.invariant-loop-place
invariant-loop-place l =
    (goal.iterator-loop-place).can_next l.place-iterator × (goal.iterator-loop-place).is_finite l.place-iterator
    × Went l.fn.self l.self
    × (arcs_of l.fn.self.arcs.marks.now l.along l.v ≡ l.yielded ++ left l.place-iterator)
    × All (Made (shown l.fn.self.arcs) (load_of l.fn.self.loads.now) l.fn.self.low l.self.nodes.now l.along) l.yielded
