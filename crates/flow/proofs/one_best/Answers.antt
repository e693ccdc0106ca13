use Rattle.flow.proofs.Best.{best_one}
use Rattle.flow.proofs.Seek.{joined_best}
use Rattle.flow.proofs.one_best.Goals as goal

pub returns : goal.returns
returns c = λ T S J. let r = joined_best T S J in (r.0, r.1, λ g G. best_one r.1 G)
