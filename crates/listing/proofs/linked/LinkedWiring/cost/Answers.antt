use Rattle.std.proofs.Common.{false, arith}
use Rattle.std.proofs.lemmas.Grind.{common_steps}
use Rattle.listing.proofs.Known.{shows_known}
use Rattle.listing.proofs.Showing.{outer_told}
use Rattle.listing.proofs.linked.LinkedWiring.cost.Goals as goal

pub returns : goal.returns
returns g c =
    let w = c.args.self.now in
    let is = outer_told w.links (shows_known g.met.D.Delay.laws w.shows) false c.args.place c.is_outer-starts.ensures in
    record {
      before = c.extension.result;
      after = c.extension-2.result;
      back = c.extension.ensures;
      fore = c.extension-2.ensures;
      sums = grind (arith, common_steps, is);
    }
