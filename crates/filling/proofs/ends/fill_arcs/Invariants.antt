use Rattle.std.proofs.Common.{ℕ, ◌<◌, get_or}
use Rattle.wiring.specs.Lengths.{marks_of}
use Rattle.lengths.specs.Tables.{entry}
use Rattle.lengths.specs.Pairs.{PairKept}
use Rattle.marks.specs.Marks.{blank}
use Rattle.filling.specs.Ends.{EndsOf}
use Rattle.filling.proofs.ends.fill_arcs.Given as goal

abbrev pub invariant-loop-k : goal.invariant-loop-k
invariant-loop-k g l =
    let K = g.D.Delay.kind in let N = g.W.Wiring.net l.w in
    ((j : ℕ) → j < l.k → EndsOf N (marks_of K N (entry K l.initial.lengths.to.table.now) (entry K l.initial.lengths.from.table.now)) j (get_or l.places j blank).arc)
    × PairKept l.initial.lengths l.lengths
