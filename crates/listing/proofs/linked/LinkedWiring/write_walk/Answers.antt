use Rattle.std.proofs.Common.{arith}
use Rattle.listing.specs.Shows.{types_in}
use Rattle.listing.specs.Walks.{way}
use Rattle.listing.proofs.Rows.{wrote_more, wrote_room}
use Rattle.listing.proofs.Walking.{steps_end, steps_fewer}
use Rattle.listing.proofs.linked.LinkedWiring.write_walk.Goals as goal

pub push-requires : goal.push-requires
push-requires g c =
    let f = c.requires.fits in let y = c.loop-lead in
    let fewer = steps_fewer (λ t. t.linked.now) (λ t. t.along) (λ t. t.node) (λ t b. way (g.W.Wiring.net t.wiring.now) (types_in t.links) b)
    _ c.into_iter-lead-iterator.ensures.into_iter_gives y.yielded y.lead-iterator c.next.new.self y.yielded_by c.in-Some.ensures.steps f.leads f.stop f.walk in
    omega (arith, wrote_room y.invariant.2, f.room)

pub loop-lead-preserved : goal.loop-lead-preserved
loop-lead-preserved g c = (tt, tt, wrote_more c.loop-lead.invariant.2 c.push.ensures)

pub returns : goal.returns
returns g c =
    let y = c.loop-lead in
    let w = steps_end (λ t. t.linked.now) (λ t. t.along) (λ t. t.node) (λ t b. way (g.W.Wiring.net t.wiring.now) (types_in t.links) b)
    _ c.into_iter-lead-iterator.ensures.into_iter_gives y.yielded (c.next.new.self, (y.lead-iterator, y.yielded_by, c.in-None.ensures.steps)) in
    record { leads = y.yielded; stop = w.0; walk = w.1; put = y.invariant.2 }
