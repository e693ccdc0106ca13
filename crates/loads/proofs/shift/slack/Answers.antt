use Rattle.std.proofs.Common.{◌≡◌, true, suc, ◌-◌, ◌<◌, List, length, min, sym, ◌∙◌, arith}
use Rattle.std.proofs.lemmas.Bool.{not-true, not-false}
use Rattle.flow.specs.Ways.{Step}
use Rattle.flow.specs.Trails.{slack_of}
use Rattle.flow.proofs.Cuts.{arc_inside}
use Rattle.marks.specs.Marks.{load_of, depth_of}
use Rattle.marks.specs.Shown.{shown}
use Rattle.marks.proofs.Fields.{shown_sound}
use Rattle.loads.specs.Steps.{Spare}
use Rattle.loads.specs.Way.{flow_step, steps_left}
use Rattle.loads.proofs.Walks.{back_arcs, walked_more, back_at, way_at, slack_along, slack_against}
use Rattle.loads.proofs.shift.slack.Goals as goal
use Rattle.loads.proofs.shift.slack.Goals.{In-Some}

-- what is known of the step at hand: it is over an arc, and against it there is load to spare
at_hand : (c : In-Some) → (c.in-Some.step.place < length c.args.loads.now) × Spare (load_of c.args.loads.now) (flow_step c.in-Some.step)
at_hand c =
    let w = c.args.way in
    let T = shown w.arcs in
    let f = load_of c.args.loads.now in
    let s = flow_step c.in-Some.step in
    let all = steps_left w in
    let left = steps_left c.loop-step.step-iterator in
    let more = steps_left c.next.new.self in
    let Q : List Step → Type 0 = λ ss. c.loop-step.least ≡ slack_of f c.args.most ss in
    let W = c.loop-step.invariant.2 in
    let e = c.in-Some.ensures.steps in
    let arc = back_at all left more s Q W e (λ t. T.arc t.place ≡ true) (back_arcs T w.nodes.now w.back (suc (depth_of w.nodes.now w.at)) w.at w.reached) in
    (omega (arith, arc_inside T (shown_sound w.arcs) s.place arc), way_at all left more s Q W e (Spare f) c.requires.spare)

pub bounds-loads-step : goal.bounds-loads-step
bounds-loads-step c = (at_hand (goal.at.bounds-loads-step c).In-Some).0

pub overflow_sub-loads : goal.overflow_sub-loads
overflow_sub-loads c =
    omega (arith, (at_hand (goal.at.overflow_sub-loads c).In-Some).1 (not-true c.in-Some.step.along c.if-not-step.true))

pub loop-step-preserved-then-not-step : goal.loop-step-preserved-then-not-step
loop-step-preserved-then-not-step c =
    let f = load_of c.args.loads.now in
    let most = c.args.most in
    let s = flow_step c.in-Some.step in
    let less : (ss : List Step) → c.loop-step.least ≡ slack_of f most ss → c.min-least.result ≡ min (f s.place - 1) (slack_of f most ss) =
    λ ss e. omega (arith, c.min-least.ensures) in (
      tt,
      tt,
      walked_more (steps_left c.args.way) (steps_left c.loop-step.step-iterator) (steps_left c.next.new.self) s
          (λ ss. c.loop-step.least ≡ slack_of f most ss) c.loop-step.invariant.2 c.in-Some.ensures.steps (λ ss. c.min-least.result ≡ slack_of f most ss)
          (λ ss e. less ss e ∙ sym (slack_against f most s ss (not-true s.along c.if-not-step.true))),
    )

pub loop-step-preserved : goal.loop-step-preserved
loop-step-preserved c =
    let f = load_of c.args.loads.now in
    let most = c.args.most in
    let s = flow_step c.in-Some.step in (
      tt,
      tt,
      walked_more (steps_left c.args.way) (steps_left c.loop-step.step-iterator) (steps_left c.next.new.self) s
          (λ ss. c.loop-step.least ≡ slack_of f most ss) c.loop-step.invariant.2 c.in-Some.ensures.steps (λ ss. c.loop-step.least ≡ slack_of f most ss)
          (λ ss e. e ∙ sym (slack_along f most s ss (not-false s.along c.if-not-step.false))),
    )
