use Rattle.std.proofs.Common.{vec_items}
use Rattle.lengths.specs.Pairs.{FilledIn}
use Rattle.survey.specs.Surveyed.{PlaceTold, Rows}
use Rattle.survey.proofs.surveying.place_rows.Given as goal

abbrev pub invariant-loop-place : goal.invariant-loop-place
invariant-loop-place g l =
    let K = g.D.Delay.kind in let N = g.W.Wiring.net l.w in
    Rows (PlaceTold K N) (vec_items l.rows) l.place × FilledIn K N l.lengths
