use Rattle.lengths.specs.Check.{KeepsBelow}
use Rattle.lengths.proofs.check.check.Given as goal

abbrev pub invariant-loop-place : goal.invariant-loop-place
invariant-loop-place g l = KeepsBelow g.D.Delay.kind (g.W.Wiring.net l.w) l.place
