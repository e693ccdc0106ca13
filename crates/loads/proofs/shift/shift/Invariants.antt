use Rattle.flow.specs.Ways.{Shifted}
use Rattle.marks.specs.Marks.{load_of}
use Rattle.loads.specs.Way.{steps_left}
use Rattle.loads.proofs.Walks.{WalkedTo}
use Rattle.loads.proofs.shift.shift.Given as goal

abbrev pub invariant-loop-step : goal.invariant-loop-step
invariant-loop-step l =
    (goal.iterator-loop-step).can_next l.step-iterator × (goal.iterator-loop-step).is_finite l.step-iterator
    × WalkedTo (steps_left l.way) (steps_left l.step-iterator) (λ ss. Shifted l.by ss (load_of l.initial.loads) (load_of l.loads))
