use Rattle.std.proofs.Common.{length}
use Rattle.marks.specs.Marks.{load_of}
use Rattle.listing.specs.Shows.{types_in}
use Rattle.listing.specs.Row.{unwritten}
use Rattle.listing.proofs.Starts.{Seeks}
use Rattle.listing.proofs.Lists.{ListWay}
use Rattle.listing.proofs.linked.LinkedWiring.write_list.Given as goal

abbrev pub invariant-loop-start : goal.invariant-loop-start
invariant-loop-start g l =
    ListWay (g.W.Wiring.net l.self.wiring.now) (types_in l.self.links) (load_of l.fn.left) l.initial.words (load_of l.left) l.words l.paths
    × Seeks (g.W.Wiring.net l.self.wiring.now) (types_in l.self.links) (load_of l.left) l.from

abbrev pub decreases-loop-start : goal.decreases-loop-start
decreases-loop-start g l = length (unwritten l.words)
