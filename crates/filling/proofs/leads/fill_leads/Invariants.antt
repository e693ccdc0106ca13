use Rattle.std.proofs.Common.{ℕ, ◌<◌, get_or}
use Rattle.marks.specs.Marks.{blank}
use Rattle.filling.proofs.Placing.{Placed}
use Rattle.filling.proofs.leads.fill_leads.Given as goal

abbrev pub invariant-loop-k : goal.invariant-loop-k
invariant-loop-k g l = (j : ℕ) → j < l.k → Placed (g.W.Wiring.net l.w) j (get_or l.places j blank)
