use Rattle.listing.specs.Row.{Wrote}
use Rattle.listing.proofs.linked.LinkedWiring.write_walk.Given as goal

abbrev pub invariant-loop-lead : goal.invariant-loop-lead
invariant-loop-lead g l =
    (goal.iterator-loop-lead g).can_next l.lead-iterator × (goal.iterator-loop-lead g).is_finite l.lead-iterator
    × Wrote l.fn.row l.row l.yielded
