use Rattle.std.proofs.Common.{◌≡◌, ℕ, ◌<◌, None}
use Rattle.marks.specs.Links.{out_at, into_at}
use Rattle.marks.proofs.link.unlink.Given as goal

abbrev pub invariant-loop-node : goal.invariant-loop-node
invariant-loop-node l = (k : ℕ) → k < l.node-index → (out_at l.nodes k ≡ None) × (into_at l.nodes k ≡ None)
