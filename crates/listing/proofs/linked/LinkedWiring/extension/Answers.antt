use Rattle.std.proofs.Common.{inl, refl, arith}
use Rattle.listing.specs.Shows.{types_in}
use Rattle.listing.specs.Walks.{way}
use Rattle.listing.proofs.Known.{shows_known}
use Rattle.listing.proofs.Walking.{steps_end}
use Rattle.listing.proofs.Showing.{outer_told, outer_on, extends_by, extends_none}
use Rattle.listing.proofs.linked.LinkedWiring.extension.Goals as goal

pub invariant_of-leads : goal.invariant_of-leads
invariant_of-leads g c =
    let s = c.args.self.now in let H = shows_known g.met.D.Delay.laws s.shows in
    record { reached = (outer_on s.links H c.args.along c.args.place c.if-is_outer.ensures c.beyond-node.ensures).0 }

pub count-requires-clause-fits : goal.count-requires-clause-fits
count-requires-clause-fits g c =
    let s = c.args.self.now in let H = shows_known g.met.D.Delay.laws s.shows in
    let on = outer_on s.links H c.args.along c.args.place c.if-is_outer.ensures c.beyond-node.ensures in
    inl (omega arith)

pub returns-then-is_outer : goal.returns-then-is_outer
returns-then-is_outer g c =
    let s = c.args.self.now in let H = shows_known g.met.D.Delay.laws s.shows in let ran = c.count.ensures.ran in
    let on = outer_on s.links H c.args.along c.args.place c.if-is_outer.ensures c.beyond-node.ensures in
    let bound = c.count.ensures.bound in
    let w = steps_end (λ t. t.linked.now) (λ t. t.along) (λ t. t.node) (λ t b. way (g.W.Wiring.net t.wiring.now) (types_in t.links) b) _ refl ran.0 ran.1 in
    extends_by (g.W.Wiring.net s.wiring.now) (types_in s.links) c.args.along c.args.place c.beyond-node.result c.count.result
    (outer_told s.links H c.args.along c.args.place c.if-is_outer.ensures) c.beyond-node.ensures
    (record { leads = ran.0; stop = w.0; walk = w.1; number = ran.2; short = omega arith })

pub returns-else-is_outer : goal.returns-else-is_outer
returns-else-is_outer g c =
    let s = c.args.self.now in let H = shows_known g.met.D.Delay.laws s.shows in
    extends_none (g.W.Wiring.net s.wiring.now) (types_in s.links) c.args.along c.args.place
    (outer_told s.links H c.args.along c.args.place c.if-is_outer.ensures)
