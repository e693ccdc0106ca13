use Rattle.std.proofs.Common.{◌≡◌, false, ◌++◌}
use Rattle.lengths.specs.Tables.{entry}
use Rattle.marks.specs.Follow.{arcs_of}
use Rattle.marks.specs.Left.{left}
use Rattle.filling.proofs.Measuring.{BestIn}
use Rattle.filling.proofs.measure.ByLinksMeasure.length_at.Given as goal

abbrev pub invariant-loop-k : goal.invariant-loop-k
invariant-loop-k g l =
    let K = g.D.Delay.kind in
    (arcs_of l.self.places.now false l.v ≡ l.yielded ++ left l.k-iterator)
    × BestIn K (g.W.Wiring.net l.self.under.now) (entry K l.table) l.v l.yielded l.best
