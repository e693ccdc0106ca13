use Rattle.std.proofs.Common.{◌≡◌, ◌<◌, length, ◌∙◌, subst, arith, drop-set-lt}
use Rattle.lengths.specs.Tables.{entry}
use Rattle.lengths.proofs.Filling.{Each, fill_step, holds_to}
use Rattle.lengths.proofs.measure.fill_row.Goals as goal

pub loop-v-preserved : goal.loop-v-preserved
loop-v-preserved g c =
    let K = g.D.Delay.kind in let N = g.M.Measure.net c.args.measure.now in
    let v = c.loop-v.v in let xs = c.loop-v.table in
    let inside : v < N.nodes = omega arith in
    let room : v < length xs = omega arith in (
      fill_step K N (g.met.M.Measure.sound c.args.measure.now c.requires.ready) xs v c.length_at-d.result room c.loop-v.invariant.0 c.length_at-d.ensures,
      drop-set-lt N.nodes xs v c.length_at-d.result inside ∙ c.loop-v.invariant.1,
    )

pub returns-clause-filled : goal.returns-clause-filled
returns-clause-filled g c =
    let K = g.D.Delay.kind in let N = g.M.Measure.net c.args.measure.now in
    let end : c.loop-v.v ≡ N.nodes = omega arith in
    holds_to K N (g.met.M.Measure.sound c.args.measure.now c.requires.ready) g.met.D.Delay.laws c.loop-v.table (subst (Each K N (entry K c.loop-v.table)) end c.loop-v.invariant.0)
