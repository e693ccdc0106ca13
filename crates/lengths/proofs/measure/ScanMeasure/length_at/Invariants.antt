use Rattle.std.proofs.Common.{◌≡◌}
use Rattle.lengths.specs.Tables.{entry}
use Rattle.lengths.specs.Steps.{offer}
use Rattle.lengths.proofs.Best.{BestBelow}
use Rattle.lengths.proofs.measure.ScanMeasure.length_at.Given as goal

abbrev pub invariant-loop-place : goal.invariant-loop-place
invariant-loop-place g l =
    let K = g.D.Delay.kind in
    BestBelow K (g.W.Wiring.net l.self.under.now) (λ e. e.head ≡ l.v) (offer K (entry K l.table)) l.place l.best
