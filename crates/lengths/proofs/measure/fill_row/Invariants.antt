use Rattle.std.proofs.Common.{◌≡◌, drop}
use Rattle.lengths.specs.Tables.{entry}
use Rattle.lengths.proofs.Filling.{Each}
use Rattle.lengths.proofs.measure.fill_row.Given as goal

abbrev pub invariant-loop-v : goal.invariant-loop-v
invariant-loop-v g l =
    let K = g.D.Delay.kind in let N = g.M.Measure.net l.measure in
    Each K N (entry K l.table) l.v × (drop N.nodes l.table ≡ drop N.nodes l.initial.table)
