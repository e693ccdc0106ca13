use Rattle.loads.proofs.Searches.{links_stay}
use Rattle.loads.proofs.best.Settling.forget.Goals as goal

pub invariant_of-self-clause-linked : goal.invariant_of-self-clause-linked
invariant_of-self-clause-linked c =
    let a = c.args.self.now in
    let made = c.forget_queued in
    links_stay a.arcs.marks.now a.nodes.now made.new.nodes made.auto.nodes made.ensures.out made.ensures.into a.linked

pub invariant_of-self-in-None-clause-linked : goal.invariant_of-self-in-None-clause-linked
invariant_of-self-in-None-clause-linked c =
    let a = c.args.self.now in
    let made = c.forget_all in
    links_stay a.arcs.marks.now a.nodes.now made.new.nodes made.auto.nodes made.ensures.out made.ensures.into a.linked
