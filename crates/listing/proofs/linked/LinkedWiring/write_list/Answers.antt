use Rattle.std.proofs.Common.{rules, Some, None, length, ap, ◌∙◌, arith}
use Rattle.wiring.specs.Lists.{Lowest, begins}
use Rattle.marks.specs.Marks.{load_of}
use Rattle.listing.specs.Shows.{types_in}
use Rattle.listing.proofs.Known.{shows_known}
use Rattle.listing.proofs.Ready.{list_drawn}
use Rattle.listing.proofs.Starts.{seeks_all, seeks_arc, seeks_found, seeks_on}
use Rattle.listing.proofs.Lists.{list_start, next_fits, list_few, list_less, list_turn, list_none, list_end}
use Rattle.listing.proofs.linked.LinkedWiring.write_list.Given.{Over}
use Rattle.listing.proofs.linked.LinkedWiring.write_list.Goals.{In-Some}
use Rattle.listing.proofs.linked.LinkedWiring.write_list.Goals as goal

pub loop-start-init : goal.loop-start-init
loop-start-init g c =
    let s = c.args.self.now in let L = g.met.D.Delay.laws in let H = shows_known L s.shows in let left = load_of c.args.left.now in
    let d = list_drawn L H.sound H.types left c.requires.loads in (
      list_start (g.W.Wiring.net s.wiring.now) (types_in s.links) left c.new-words.result d.0 d.1 d.2
          (omega (arith, c.requires.room d.0 d.1, ap length c.new-words.ensures.unwritten)),
      seeks_all s.links H left c.link_of-from.result c.link_of-from.ensures,
    )

pub first_left-requires : goal.first_left-requires
first_left-requires g c =
    let s = c.args.self.now in
    seeks_arc s.links (shows_known g.met.D.Delay.laws s.shows) (load_of c.loop-start.left) c.loop-start.from c.loop-start.invariant.1

-- the start lead that is found is the lowest with something left
low : (g : Over) (c : In-Some g) →
    Lowest (begins (g.W.Wiring.net c.args.self.now.wiring.now) (types_in c.args.self.now.links) (load_of c.loop-start.left)) c.in-Some.start
low g c =
    let s = c.args.self.now in
    seeks_found s.links (shows_known g.met.D.Delay.laws s.shows) (load_of c.loop-start.left) c.loop-start.from (Some c.in-Some.start)
    c.loop-start.invariant.1 c.in-Some.ensures

pub write_path-requires : goal.write_path-requires
write_path-requires g c =
    let s = c.args.self.now in
    next_fits (g.W.Wiring.net s.wiring.now) (types_in s.links) c.loop-start.invariant.0 c.in-Some.start (low g (goal.at.write_path-requires g c).In-Some)

pub overflow_add-paths : goal.overflow_add-paths
overflow_add-paths g c =
    let s = c.args.self.now in let n = c.new-words.ensures in
    let few = list_few (g.W.Wiring.net s.wiring.now) (types_in s.links) c.loop-start.invariant.0 c.in-Some.start
    (low g (goal.at.overflow_add-paths g c).In-Some) in
    omega (arith, ap length n.written, ap length n.unwritten)

pub loop-start-smaller : goal.loop-start-smaller
loop-start-smaller g c =
    let s = c.args.self.now in
    list_less (g.W.Wiring.net s.wiring.now) (types_in s.links) c.loop-start.invariant.0 c.in-Some.start
    (low g (goal.at.loop-start-smaller g c).In-Some) c.write_path.ensures

pub loop-start-preserved : goal.loop-start-preserved
loop-start-preserved g c =
    let s = c.args.self.now in let H = shows_known g.met.D.Delay.laws s.shows in
    let put = c.write_path.ensures in let lowest = low g (goal.at.loop-start-preserved g c).In-Some in (
      list_turn (g.W.Wiring.net s.wiring.now) (types_in s.links) c.loop-start.invariant.0 c.in-Some.start lowest put,
      seeks_on s.links H (load_of c.loop-start.left) (load_of c.write_path.new.left) put.core c.in-Some.start put.left_is lowest,
    )

pub returns-clause-list : goal.returns-clause-list
returns-clause-list g c =
    let s = c.args.self.now in let H = shows_known g.met.D.Delay.laws s.shows in let n = c.new-words.ensures in
    let lent = c.loop-start.invariant.0.put.lent ∙ n.lent in
    list_end (g.W.Wiring.net s.wiring.now) (types_in s.links) c.loop-start.invariant.0
    (seeks_found s.links H (load_of c.loop-start.left) c.loop-start.from None c.loop-start.invariant.1 c.in_default.ensures)
    n.written n.unwritten (search rules) c.len.ensures

pub returns-clause-none : goal.returns-clause-none
returns-clause-none g c =
    let s = c.args.self.now in let H = shows_known g.met.D.Delay.laws s.shows in
    list_none (g.W.Wiring.net s.wiring.now) (types_in s.links) c.loop-start.invariant.0
    (seeks_found s.links H (load_of c.loop-start.left) c.loop-start.from None c.loop-start.invariant.1 c.in_default.ensures)
