use Rattle.std.proofs.Common.{◌≡◌, ℕ, ◌<◌, true, false}
use Rattle.marks.specs.Links.{out_at, into_at}
use Rattle.marks.specs.Marks.{reached_of}
use Rattle.loads.specs.Search.{queued_at}
use Rattle.loads.proofs.search.forget_queued.Given as goal

abbrev pub invariant-loop-i : goal.invariant-loop-i
invariant-loop-i l =
    ((v : ℕ) → reached_of l.nodes v ≡ true → reached_of l.initial.nodes v ≡ true)
    × ((j : ℕ) → j < l.i → reached_of l.nodes (queued_at l.initial.nodes j) ≡ false)
    × (queued_at l.nodes ≡ queued_at l.initial.nodes)
    × (out_at l.nodes ≡ out_at l.initial.nodes)
    × (into_at l.nodes ≡ into_at l.initial.nodes)
