use Rattle.std.proofs.Common.{length}
use Rattle.marks.specs.Marks.{load_of}
use Rattle.listing.specs.Row.{unwritten}
use Rattle.listing.proofs.CoreWalking.{CoreWay}
use Rattle.listing.proofs.links.Links.write_core.Given as goal

abbrev pub invariant-loop-next : goal.invariant-loop-next
invariant-loop-next l = CoreWay l.self.arcs (load_of l.left) l.start l.fn.row l.row l.lead

abbrev pub decreases-loop-next : goal.decreases-loop-next
decreases-loop-next l = length (unwritten l.row)
