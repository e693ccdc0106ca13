use Rattle.std.proofs.Common.{rules}
use Rattle.std.proofs.lemmas.Iterator.{YieldsList-from_map, YieldsList-from_slice}
use Rattle.std.proofs.lemmas.Iterator.Adapters.{items_from_extend}
use Rattle.probe.specs.Places.{lead_in}
use Rattle.probe.proofs.drawing_from.leads_of.Goals as goal

pub returns : goal.returns
returns g c =
    let all = items_from_extend c.extend.result c.extend.ensures.ran
    (YieldsList-from_map _ (lead_in g.D.Delay.kind) (YieldsList-from_slice c.args.places.now cc) c.map.ensures.closure (λ x r q k. search rules)) in
    search rules
