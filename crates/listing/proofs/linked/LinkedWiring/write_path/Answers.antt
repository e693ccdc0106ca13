use Rattle.std.proofs.Common.{arith}
use Rattle.marks.specs.Marks.{load_of}
use Rattle.listing.proofs.Known.{shows_known}
use Rattle.listing.proofs.Paths.{start_arc, behind_reached, fits_core, fits_lower, fits_ahead, path_number, path_put}
use Rattle.listing.proofs.linked.LinkedWiring.write_path.Goals as goal

pub write_behind-requires-clause-reached : goal.write_behind-requires-clause-reached
write_behind-requires-clause-reached g c =
    let s = c.args.self.now in let H = shows_known g.met.D.Delay.laws s.shows in
    behind_reached s.links H (load_of c.args.left.now) c.args.start c.requires c.push.ensures c.beyond.ensures

pub write_core-stop-requires : goal.write_core-stop-requires
write_core-stop-requires g c =
    let s = c.args.self.now in let H = shows_known g.met.D.Delay.laws s.shows in let left = load_of c.args.left.now in
    record {
      arc = start_arc s.links H left c.args.start c.requires;
      fits = fits_core s.links H left c.args.start c.requires c.push.ensures c.beyond.ensures c.write_behind.ensures;
    }

pub lower-requires : goal.lower-requires
lower-requires g c =
    let s = c.args.self.now in let H = shows_known g.met.D.Delay.laws s.shows in
    fits_lower s.links H (load_of c.args.left.now) c.args.start c.requires c.push.ensures c.beyond.ensures c.write_behind.ensures
    c.write_core-stop.ensures c.len-from.result c.len-from.ensures c.words_from.result.now c.words_from.ensures

pub write_walk-requires : goal.write_walk-requires
write_walk-requires g c =
    let s = c.args.self.now in let H = shows_known g.met.D.Delay.laws s.shows in
    let a = fits_ahead s.links H (load_of c.args.left.now) c.args.start c.requires c.push.ensures c.beyond.ensures c.write_behind.ensures
    c.write_core-stop.ensures c.beyond-2.ensures in
    record { reached = a.0; fits = a.1 }

pub overflow_cast-leads : goal.overflow_cast-leads
overflow_cast-leads g c =
    let s = c.args.self.now in let H = shows_known g.met.D.Delay.laws s.shows in
    let n = path_number s.links H (load_of c.args.left.now) c.args.start c.requires c.push.ensures c.beyond.ensures c.write_behind.ensures
    c.write_core-stop.ensures c.beyond-2.ensures c.write_walk.ensures c.len-count.ensures c.len.ensures in
    omega (arith, c.requires.short)

pub returns : goal.returns
returns g c =
    let s = c.args.self.now in let H = shows_known g.met.D.Delay.laws s.shows in
    path_put s.links H (load_of c.args.left.now) c.args.start c.requires c.push.ensures c.beyond.ensures c.write_behind.ensures
    c.write_core-stop.ensures c.beyond-2.ensures c.write_walk.ensures c.len-count.ensures c.len.ensures c.set.ensures
    c.len-from.result c.len-from.ensures c.words_from.result.now c.words_from.ensures (load_of c.lower.new.left) c.lower.ensures
