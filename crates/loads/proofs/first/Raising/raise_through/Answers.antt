use Rattle.std.proofs.Common.{true, false, arith}
use Rattle.flow.specs.Ways.{step_to}
use Rattle.marks.specs.Marks.{load_of}
use Rattle.marks.specs.Shown.{shown}
use Rattle.marks.proofs.Fields.{shown_sound}
use Rattle.loads.specs.Raise.{RaisedOn, far_end}
use Rattle.loads.specs.Steps.{over}
use Rattle.loads.proofs.Raises.{raise_le, raised_le, raised_through}
use Rattle.loads.proofs.Rising.{stays_then, over_start}
use Rattle.loads.proofs.first.Raising.raise_through.Goals as goal

pub raise_on-requires-2-clause-room : goal.raise_on-requires-2-clause-room
raise_on-requires-2-clause-room c = λ j.
    let k = c.args.k in
    let b = c.raise.new.self in
    let T = shown b.arcs in
    let more = raised_le T (shown_sound b.arcs) (load_of b.loads.now) (load_of c.raise_on.new.self.loads.now) true (T.end k) T.sink
    c.raise_on.ensures.raised j in
    omega (arith, c.requires.room j, c.raise.ensures.raised j, raise_le (load_of c.args.self.now.loads.now) k j)

pub returns-clause-raised : goal.returns-clause-raised
returns-clause-raised c =
    let a = c.args.self.now in
    let b = c.raise.new.self in
    let d = c.raise_on.new.self in
    let e = c.raise_on-2.new.self in
    let k = c.args.k in
    let one = c.raise.ensures in
    let two = c.raise_on.ensures in
    let ahead = over_start a b one.stays
    (λ A. RaisedOn (shown A) (load_of b.loads.now) (load_of d.loads.now) true (step_to (shown A) (over k true)) (far_end (shown A) true)) two.raised in
    let behind = over_start a d (stays_then a b d one.stays two.stays)
    (λ A. RaisedOn (shown A) (load_of d.loads.now) (load_of e.loads.now) false (step_to (shown A) (over k false)) (far_end (shown A) false))
    c.raise_on-2.ensures.raised in
    raised_through (shown a.arcs) (load_of a.loads.now) (load_of b.loads.now) (load_of d.loads.now) (load_of e.loads.now) k c.requires.arc one.raised
    ahead behind
