use Rattle.std.proofs.Common.{◌<◌, vec_items, sym, ap, ◌∙◌, subst, arith}
use Rattle.wiring.specs.Lengths.{To, From}
use Rattle.lengths.specs.Tables.{entry}
use Rattle.survey.specs.declared.NodeRow.{NodeRow}
use Rattle.survey.specs.Surveyed.{NodeTold}
use Rattle.survey.proofs.Rowing.{rows_more}
use Rattle.survey.proofs.surveying.node_rows.Goals as goal

pub loop-node-preserved : goal.loop-node-preserved
loop-node-preserved g c =
    let K = g.D.Delay.kind in let N = g.W.Wiring.net c.args.w.now in
    let inv = c.loop-node.invariant in let v = c.loop-node.node in
    let inside : v < N.nodes = omega arith in
    let items = c.in_ok-push.ensures.items in
    let to_read = c.at.ensures.read ∙ ap (λ xs. entry K xs v) inv.1.to.0 in
    let from_read = c.at-in-loop-node.ensures.read ∙ ap (λ xs. entry K xs v) inv.1.from.0 in
    let row : NodeRow g.row.D.Denot = record { to = c.at.result; from = c.at-in-loop-node.result } in
    let told : NodeTold K N v row = record {
      to_is = subst (To K N v) (sym to_read) (c.requires.to_is.longest v inside);
      from_is = subst (From K N v) (sym from_read) (c.requires.from_is.longest v inside);
    } in (
      simp items (rows_more (NodeTold K N) (vec_items c.loop-node.rows) v row inv.0 told),
      record {
        to = (c.at.ensures.kept.0 ∙ inv.1.to.0, c.at.ensures.kept.1 ∙ inv.1.to.1);
        from = (c.at-in-loop-node.ensures.kept.0 ∙ inv.1.from.0, c.at-in-loop-node.ensures.kept.1 ∙ inv.1.from.1);
      },
    )
