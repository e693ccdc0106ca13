use Rattle.std.proofs.Common.{ℕ, ◌-◌, ◌<◌, ◌≤◌}
use Rattle.marks.specs.Marks.{load_of}
use Rattle.marks.specs.Shown.{shown}
use Rattle.loads.specs.Search.{Finished, queued_at}
use Rattle.loads.specs.Went.{Went}
use Rattle.loads.proofs.search.Spread.run.Given as goal

abbrev pub invariant-loop-done : goal.invariant-loop-done
invariant-loop-done l =
    Went l.fn.self l.self
    × ((i : ℕ) → i < l.done → Finished (shown l.fn.self.arcs) (load_of l.fn.self.loads.now) l.fn.self.low l.self.nodes.now (queued_at l.self.nodes.now i))
    × (l.done ≤ l.self.count)

abbrev pub decreases-loop-done : goal.decreases-loop-done
decreases-loop-done l = l.fn.self.arcs.nodes - l.done
