use Rattle.std.proofs.Common.{ap, arith}
use Rattle.flow.specs.Table.{Table}
use Rattle.marks.specs.Marks.{load_of}
use Rattle.listing.specs.Shows.{types_in}
use Rattle.listing.proofs.Known.{shows_known}
use Rattle.listing.proofs.Weights.{summed_none, summed_more, summed_all}
use Rattle.listing.proofs.linked.LinkedWiring.count_words.Goals as goal

pub loop-place-init : goal.loop-place-init
loop-place-init g c = summed_none (g.W.Wiring.net c.args.self.now.wiring.now) (types_in c.args.self.now.links) (load_of c.args.left.now)

pub loop-place-preserved : goal.loop-place-preserved
loop-place-preserved g c =
    summed_more (g.W.Wiring.net c.args.self.now.wiring.now) (types_in c.args.self.now.links) (load_of c.args.left.now) c.loop-place.place
    c.loop-place.words c.cost.result (omega (arith, c.type_inv.left c.loop-place.place)) c.cost.ensures c.loop-place.invariant

pub returns : goal.returns
returns g c =
    let s = c.args.self.now in let H = shows_known g.met.D.Delay.laws s.shows in
    summed_all (g.W.Wiring.net s.wiring.now) (types_in s.links) H.sound (load_of c.args.left.now) c.loop-place.place
    c.loop-place.words (omega (arith, ap (λ (T : Table). T.places) H.arcs, c.requires)) c.loop-place.invariant
