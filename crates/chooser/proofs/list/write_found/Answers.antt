use Rattle.std.proofs.Common.{◌-◌, List, length, sym, ap, ◌∙◌, subst}
use Rattle.flow.specs.Table.{Table}
use Rattle.flow.specs.Loads.{Best}
use Rattle.marks.specs.declared.mark.Mark.{Mark}
use Rattle.marks.specs.Marks.{classes, load_of}
use Rattle.cover.specs.Arcs.{arc_table}
use Rattle.cover.proofs.Arcs.{best_to_arcs}
use Rattle.chooser.proofs.Shown.{arcs_right}
use Rattle.chooser.proofs.Listing.{in_view}
use Rattle.chooser.proofs.list.write_found.Goals as goal

pub arcs_of-requires-clause-sound : goal.arcs_of-requires-clause-sound
arcs_of-requires-clause-sound g c =
    let R = c.requires in let ps = c.args.places.now in let n = length c.args.nodes.now in
    arcs_right R.sound R.two (classes ps) ps R.arcs n (n - 1) R.nodes (ap (λ k. k - 1) R.nodes)

pub mark_cut-requires-clause-best : goal.mark_cut-requires-clause-best
mark_cut-requires-clause-best g c =
    let R = c.requires in let A = c.arcs_of.ensures in let ps = c.args.places.now in let N = g.W.Wiring.net c.args.w.now in
    let seen = in_view g.met.D.Delay.laws R c.arcs_of.result A.places A.shown ∙ ap (λ (qs : List Mark). arc_table N (classes qs)) A.places in
    subst (λ (T : Table). Best T (load_of c.args.loads.now)) (sym seen)
    (best_to_arcs R.sound (classes ps) (load_of c.args.loads.now) R.best)
