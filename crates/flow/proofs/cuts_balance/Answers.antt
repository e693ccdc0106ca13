use Rattle.flow.proofs.Cuts.{cut, at_most_total}
use Rattle.flow.proofs.cuts_balance.Goals as goal

pub returns : goal.returns
returns c = record { identity = cut; within = at_most_total }
