use Rattle.std.proofs.Common.{◌≡◌, ◌*◌, ◌≤◌}
use Rattle.wiring.specs.Loads.{sum_where}
use Rattle.flow.specs.Table.{begins}
use Rattle.marks.specs.Marks.{load_of}
use Rattle.marks.specs.Shown.{shown}
use Rattle.listing.proofs.count.count_paths.Given as goal

abbrev pub invariant-loop-place : goal.invariant-loop-place
invariant-loop-place l =
    (l.paths ≡ sum_where l.place (begins (shown l.arcs) l.arcs.source) (load_of l.left))
    × (l.paths ≤ l.place * 65535)
