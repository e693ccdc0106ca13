use Rattle.std.proofs.Common.{length, ap, arith}
use Rattle.marks.specs.declared.arcs.Arcs.{Arcs}
use Rattle.marks.specs.Marks.{load_of}
use Rattle.marks.specs.Shown.{shown}
use Rattle.marks.proofs.Fields.{shown_sound}
use Rattle.loads.proofs.Settles.{settled_best}
use Rattle.loads.proofs.best.Settling.settle.Goals as goal

pub returns-clause-best : goal.returns-clause-best
returns-clause-best c =
    let a = c.args.self.now in
    let places = ap (λ (A : Arcs). length A.marks.now) c.settle_total.ensures.kept.arcs in
    settled_best (shown a.arcs) (shown_sound a.arcs) (load_of c.loop-k.self.loads.now) c.loop-k.k (omega arith) c.loop-k.invariant.1
