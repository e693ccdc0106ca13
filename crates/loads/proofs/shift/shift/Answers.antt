use Rattle.std.proofs.Common.{◌≡◌, true, suc, List, arith}
use Rattle.flow.specs.Ways.{Step, Shifted, Slack}
use Rattle.flow.proofs.Cuts.{arc_inside}
use Rattle.flow.proofs.Cells.{shifted_after}
use Rattle.marks.specs.Marks.{load_of, depth_of}
use Rattle.marks.specs.Shown.{shown}
use Rattle.marks.proofs.Fields.{shown_sound}
use Rattle.loads.specs.Way.{flow_step, steps_left}
use Rattle.loads.proofs.Walks.{back_arcs, walked_more, back_at, way_at, unchanged}
use Rattle.loads.proofs.shift.shift.Goals as goal

pub change-requires : goal.change-requires
change-requires c =
    let w = c.args.way in
    let T = shown w.arcs in
    let f = load_of c.args.loads.now in
    let g = load_of c.loop-step.loads in
    let by = c.args.by in
    let s = flow_step c.in-Some.step in
    let all = steps_left w in
    let left = steps_left c.loop-step.step-iterator in
    let more = steps_left c.next.new.self in
    let Q : List Step → Type 0 = λ ss. Shifted by ss f g in
    let W = c.loop-step.invariant.2 in
    let e = c.in-Some.ensures.steps in
    let arc = back_at all left more s Q W e (λ t. T.arc t.place ≡ true) (back_arcs T w.nodes.now w.back (suc (depth_of w.nodes.now w.at)) w.at w.reached) in
    let as_was = unchanged all left more s by f g W e c.requires.once in
    record {
      place = omega (arith, arc_inside T (shown_sound w.arcs) s.place arc);
      along = λ _. omega (arith, c.requires.room s.place);
      against = λ a. omega (arith, way_at all left more s Q W e (Slack by f) c.requires.slack a);
    }

pub loop-step-preserved : goal.loop-step-preserved
loop-step-preserved c =
    let f = load_of c.args.loads.now in
    let g = load_of c.loop-step.loads in
    let h = load_of c.change.new.loads in
    let by = c.args.by in
    let s = flow_step c.in-Some.step in (
      tt,
      tt,
      walked_more (steps_left c.args.way) (steps_left c.loop-step.step-iterator) (steps_left c.next.new.self) s (λ ss. Shifted by ss f g)
          c.loop-step.invariant.2 c.in-Some.ensures.steps (λ ss. Shifted by ss f h) (λ ss k. shifted_after by s ss f g h k c.change.ensures),
    )
