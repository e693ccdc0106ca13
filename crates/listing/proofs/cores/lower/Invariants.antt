use Rattle.std.proofs.Common.{◌≡◌, take}
use Rattle.wiring.specs.Lists.{lowered}
use Rattle.marks.specs.Marks.{load_of}
use Rattle.listing.proofs.cores.lower.Given as goal

abbrev pub invariant-loop-lead : goal.invariant-loop-lead
invariant-loop-lead l = load_of l.left ≡ lowered (load_of l.initial.left) (take l.lead-index l.core)
