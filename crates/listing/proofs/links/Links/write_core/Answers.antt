use Rattle.marks.specs.Marks.{load_of}
use Rattle.listing.proofs.CoreWalking.{core_turn, core_ends}
use Rattle.listing.proofs.links.Links.write_core.Goals as goal

pub loop-next-preserved : goal.loop-next-preserved
loop-next-preserved c = core_turn c.args.self.arcs (load_of c.args.left.now) c.loop-next.invariant c.in-Some.ensures c.push-in-Some.ensures

pub returns : goal.returns
returns c = core_ends c.args.self.arcs (load_of c.args.left.now) c.loop-next.invariant c.in_default.ensures
