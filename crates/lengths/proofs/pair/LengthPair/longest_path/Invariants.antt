use Rattle.wiring.specs.Lengths.{through_by}
use Rattle.lengths.specs.Tables.{entry}
use Rattle.lengths.specs.Asked.{Filled}
use Rattle.lengths.specs.Pairs.{PairKept}
use Rattle.lengths.proofs.Best.{BestBelow}
use Rattle.lengths.proofs.pair.LengthPair.longest_path.Given as goal

abbrev pub invariant-loop-place : goal.invariant-loop-place
invariant-loop-place g l =
    let K = g.D.Delay.kind in let N = g.W.Wiring.net l.w in let to = l.initial.self.to.table.now in let from = l.initial.self.from.table.now in
    (Filled K N to from → BestBelow K N (λ e. Unit {0}) (through_by K (entry K to) (entry K from)) l.place l.best)
    × PairKept l.initial.self l.self
