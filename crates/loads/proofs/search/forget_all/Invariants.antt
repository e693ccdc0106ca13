use Rattle.std.proofs.Common.{◌≡◌, ℕ, ◌<◌, false}
use Rattle.marks.specs.Links.{out_at, into_at}
use Rattle.marks.specs.Marks.{reached_of}
use Rattle.loads.proofs.search.forget_all.Given as goal

abbrev pub invariant-loop-node : goal.invariant-loop-node
invariant-loop-node l =
    ((k : ℕ) → k < l.node-index → reached_of l.nodes k ≡ false)
    × (out_at l.nodes ≡ out_at l.initial.nodes)
    × (into_at l.nodes ≡ into_at l.initial.nodes)
