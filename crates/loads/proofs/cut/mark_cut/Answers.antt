use Rattle.marks.specs.Marks.{load_of}
use Rattle.marks.specs.Shown.{shown}
use Rattle.marks.proofs.Fields.{shown_sound}
use Rattle.loads.proofs.Settles.{best_cut}
use Rattle.loads.proofs.cut.mark_cut.Goals as goal

pub returns : goal.returns
returns c =
    let arcs = c.args.arcs in
    let f = load_of c.args.loads.now in
    let found = c.search-found.ensures in
    record {
      tight = best_cut (shown arcs) (shown_sound arcs) f c.search-found.new.nodes c.search-found.result c.requires.best found.sought;
      linked = found.linked;
    }
