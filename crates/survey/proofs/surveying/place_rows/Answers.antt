use Rattle.std.proofs.Common.{vec_items, rules}
use Rattle.survey.specs.Surveyed.{PlaceTold}
use Rattle.survey.proofs.Rowing.{rows_more}
use Rattle.survey.proofs.surveying.place_rows.Goals as goal

pub loop-place-preserved : goal.loop-place-preserved
loop-place-preserved g c =
    let items = c.in_ok-push.ensures.items in (
      simp items (rows_more (PlaceTold g.D.Delay.kind (g.W.Wiring.net c.args.w.now)) (vec_items c.loop-place.rows) c.loop-place.place c.place_row.result c.loop-place.invariant.0 c.place_row.ensures.row),
      search rules,
    )
