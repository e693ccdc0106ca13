use Rattle.std.proofs.Common.{arith}
use Rattle.marks.specs.Marks.{load_of}
use Rattle.marks.specs.Shown.{shown}
use Rattle.marks.proofs.Fields.{shown_sound}
use Rattle.loads.specs.Settle.{Reduced}
use Rattle.loads.proofs.Settles.{shift_room, reduced}
use Rattle.loads.proofs.best.Settling.reduce_total.Goals as goal
use Rattle.loads.proofs.best.Settling.reduce_total.Goals.{After-shift_most-by}

pub shift_most-by-requires-clause-room : goal.shift_most-by-requires-clause-room
shift_most-by-requires-clause-room c =
    let a = c.args.self.now in
    shift_room (shown a.arcs) (shown_sound a.arcs) (load_of a.loads.now) a.balanced a.few 4096 (omega arith)

less : (c : After-shift_most-by) → Reduced (shown c.args.self.now.arcs) (load_of c.args.self.now.loads.now) (load_of c.shift_most-by.new.loads)
less c =
    let a = c.args.self.now in
    let by = c.shift_most-by in
    reduced (shown a.arcs) (shown_sound a.arcs) (load_of a.loads.now) (load_of by.new.loads) 4096 a.nodes.now a.balanced (omega arith) c.requires
    by.result by.ensures.slack by.ensures.shifted

pub invariant_of-self : goal.invariant_of-self
invariant_of-self c =
    let a = c.args.self.now in
    let r = less (goal.at.invariant_of-self c).After-shift_most-by in
    record { sized = a.sized; loaded = omega (arith, c.shift_most-by.auto.loads, a.loaded); linked = a.linked; queued = a.queued; balanced = r.loads; few = omega (arith, r.less, a.few) }

pub returns-clause-reduced : goal.returns-clause-reduced
returns-clause-reduced c = less (goal.at.returns-clause-reduced c).After-shift_most-by
