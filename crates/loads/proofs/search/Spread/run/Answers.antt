use Rattle.std.proofs.Common.{arith}
use Rattle.marks.specs.Marks.{load_of}
use Rattle.marks.specs.Shown.{shown}
use Rattle.marks.proofs.Fields.{shown_sound}
use Rattle.loads.specs.Search.{Grown, Finished, queued_at}
use Rattle.loads.proofs.Going.{moved, went_then}
use Rattle.loads.proofs.Searches.{finished_more, finished_shut}
use Rattle.loads.proofs.search.Spread.run.Goals as goal

pub loop-done-preserved : goal.loop-done-preserved
loop-done-preserved c =
    let a = c.args.self.now in
    let b = c.loop-done.self in
    let d = c.expand.new.self in
    let T = shown a.arcs in
    let f = load_of a.loads.now in
    let inv = c.loop-done.invariant in
    let step = c.expand.ensures in
    let kept = moved a b inv.0 (λ A g low. Grown (shown A) g low b.nodes.now d.nodes.now b.count d.count) step.went.grown in
    let last = moved a b inv.0 (λ A g low. Finished (shown A) g low d.nodes.now (queued_at b.nodes.now c.loop-done.done)) step.finished in (
      went_then a b d inv.0 step.went,
      finished_more T f a.low b.nodes.now d.nodes.now c.loop-done.done b.count d.count c.loop-done-test.true kept inv.1 last,
      omega (arith, kept.more),
    )

pub returns-clause-shut : goal.returns-clause-shut
returns-clause-shut c = λ _.
    let a = c.args.self.now in
    let b = c.loop-done.self in
    let inv = c.loop-done.invariant in
    finished_shut (shown a.arcs) (load_of a.loads.now) a.low (shown_sound a.arcs) b.nodes.now b.count inv.0.grown.queued (λ i l. inv.1 i (omega arith))
