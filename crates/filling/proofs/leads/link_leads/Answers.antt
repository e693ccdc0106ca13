use Rattle.std.proofs.Common.{arith}
use Rattle.filling.proofs.Placing.{arcs_inside}
use Rattle.filling.proofs.leads.link_leads.Goals as goal

pub link_arcs-requires-clause-within : goal.link_arcs-requires-clause-within
link_arcs-requires-clause-within g c k a =
    let b = arcs_inside (g.W.Wiring.net c.args.w.now) c.requires.sound c.fill_leads.new.places c.fill_leads.ensures k a in (omega arith, omega arith)
