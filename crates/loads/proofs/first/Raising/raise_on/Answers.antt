use Rattle.std.proofs.Common.{length, ◌≡◌, ◌<◌, true, sym, ◌∙◌, arith}
use Rattle.flow.specs.Ways.{step_from, step_to}
use Rattle.marks.specs.Marks.{load_of}
use Rattle.marks.specs.Shown.{shown}
use Rattle.marks.proofs.Fields.{shown_sound}
use Rattle.loads.specs.Raise.{far_end}
use Rattle.loads.specs.Steps.{over}
use Rattle.loads.proofs.Stepping.{step_inside}
use Rattle.loads.proofs.Raises.{raised_more, raised_le, goes_on}
use Rattle.loads.proofs.Rising.{stays_then, over_start, over_now}
use Rattle.loads.proofs.first.Raising.raise_on.Goals as goal
use Rattle.loads.proofs.first.Raising.raise_on.Goals.{After-first_arc-place}

pub first_arc-place-requires-clause-some : goal.first_arc-place-requires-clause-some
first_arc-place-requires-clause-some c =
    let a = c.args.self.now in
    let b = c.loop-v.self in
    let along = c.args.from.along in
    let v = c.loop-v.v in
    let K = c.loop-v.invariant.0 in
    let i = c.loop-v.invariant.2 in
    let here = over_now a b K (λ A. ((shown A).arc i.0 ≡ true) × (v ≡ step_to (shown A) (over i.0 along))) (i.1, i.2) in
    let node : v < length b.nodes.now = omega (arith, (step_inside (shown b.arcs) (shown_sound b.arcs) (over i.0 along) here.0).1, here.1, b.sized) in
    goes_on b.arcs b.nodes.now b.linked b.joined along i.0 v node here.0 here.1
    (over_now a b K (λ A. v ≡ far_end (shown A) along → ⊥) (λ e. c.loop-v-test.true (e ∙ sym c.last_node-last.ensures)))

-- the arc that comes next
next : (c : After-first_arc-place) → ((shown c.args.self.now.arcs).arc c.first_arc-place.result ≡ true)
    × (step_from (shown c.args.self.now.arcs) (over c.first_arc-place.result c.args.from.along) ≡ c.loop-v.v)
next c =
    let first = c.first_arc-place.ensures in
    let j = c.first_arc-place.result in
    over_start c.args.self.now c.loop-v.self c.loop-v.invariant.0
    (λ A. ((shown A).arc j ≡ true) × (step_from (shown A) (over j c.args.from.along) ≡ c.loop-v.v)) (first.arc, first.from)

pub raise-requires-clause-room : goal.raise-requires-clause-room
raise-requires-clause-room c =
    let a = c.args.self.now in
    let j = c.first_arc-place.result in
    let one = raised_le (shown a.arcs) (shown_sound a.arcs) (load_of a.loads.now) (load_of c.loop-v.self.loads.now) c.args.from.along
    (step_to (shown a.arcs) (over c.args.from.place c.args.from.along)) c.loop-v.v c.loop-v.invariant.1 j in
    omega (arith, c.requires.room j)

pub loop-v-preserved : goal.loop-v-preserved
loop-v-preserved c =
    let a = c.args.self.now in
    let b = c.loop-v.self in
    let d = c.raise.new.self in
    let T = shown a.arcs in
    let along = c.args.from.along in
    let j = c.first_arc-place.result in
    let w = c.step_ends-v-in-loop-v.result.1 in
    let K = stays_then a b d c.loop-v.invariant.0 c.raise.ensures.stays in
    let at = next (goal.at.loop-v-preserved c).After-first_arc-place in
    let there = over_start a d K (λ A. w ≡ step_to (shown A) (over j along)) c.step_ends-v-in-loop-v.ensures.to in (
      K,
      raised_more T (load_of a.loads.now) (load_of b.loads.now) (load_of d.loads.now) along (step_to T (over c.args.from.place along)) c.loop-v.v w j
          at.0 at.1 there c.raise.ensures.raised c.loop-v.invariant.1,
      (j, at.0, there),
    )
