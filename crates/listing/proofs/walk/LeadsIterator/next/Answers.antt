use Rattle.std.proofs.Common.{refl}
use Rattle.listing.specs.Shows.{types_in}
use Rattle.listing.proofs.Known.{shows_known}
use Rattle.listing.proofs.Showing.{Onward, node_within, step_ends, step_leads}
use Rattle.listing.proofs.walk.LeadsIterator.next.Given.{Over}
use Rattle.listing.proofs.walk.LeadsIterator.next.Goals.{After-beyond-self}
use Rattle.listing.proofs.walk.LeadsIterator.next.Goals as goal

pub link_of-requires : goal.link_of-requires
link_of-requires g c =
    let s = c.args.self.now in let L = g.met.D.Delay.laws in
    node_within L s.linked.now.links (shows_known L s.linked.now.shows) s.along s.node s.reached

pub returns-in_err-lead-clause-steps : goal.returns-in_err-lead-clause-steps
returns-in_err-lead-clause-steps g c =
    let s = c.args.self.now in let L = g.met.D.Delay.laws in
    rw c.from_residual.ensures (
      step_ends L s.linked.now.links (shows_known L s.linked.now.shows) s.along s.node s.reached c.link_of.result c.link_of.ensures c.in_err-lead.was,
      refl,
      refl,
    )

-- the lead that is named leads on
on : (g : Over) (c : After-beyond-self g) →
    Onward (g.W.Wiring.net c.args.self.now.linked.now.wiring.now) (types_in c.args.self.now.linked.now.links) c.args.self.now.along
    c.args.self.now.node c.in_ok-lead.lead c.beyond-self.result
on g c =
    let s = c.args.self.now in let L = g.met.D.Delay.laws in
    step_leads L s.linked.now.links (shows_known L s.linked.now.shows) s.along s.node s.reached c.link_of.result c.link_of.ensures
    c.in_ok-lead.was c.beyond-self.ensures

pub invariant_of-self : goal.invariant_of-self
invariant_of-self g c = record { reached = (on g c).reached }

pub returns : goal.returns
returns g c =
    let n = on g (goal.at.returns g c).After-beyond-self in
    record { steps = (n.step, refl, refl); goes = record { on = λ _. (tt, tt, n.fewer); keeps = tt; rests = λ _. tt } }
