use Rattle.std.proofs.Common.{◌≡◌}
use Rattle.flow.specs.Trails.{slack_of}
use Rattle.marks.specs.Marks.{load_of}
use Rattle.loads.specs.Way.{steps_left}
use Rattle.loads.proofs.Walks.{WalkedTo}
use Rattle.loads.proofs.shift.slack.Given as goal

abbrev pub invariant-loop-step : goal.invariant-loop-step
invariant-loop-step l =
    (goal.iterator-loop-step).can_next l.step-iterator × (goal.iterator-loop-step).is_finite l.step-iterator
    × WalkedTo (steps_left l.way) (steps_left l.step-iterator) (λ ss. l.least ≡ slack_of (load_of l.loads) l.most ss)
