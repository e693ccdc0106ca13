-- Steps over arcs.
use Rattle.std.proofs.Common.{◌≡◌, ◌<◌, Bool, true, false, cond, arith}
use Rattle.flow.specs.Table.{Table, Sound}
use Rattle.flow.specs.Ways.{Step, step_from, step_to}
use Rattle.flow.proofs.Seek.{step_within}

-- a step leads from a node to a node
pub step_inside : (T : Table) → Sound T → (s : Step) → T.arc s.place ≡ true → (step_from T s < T.nodes) × (step_to T s < T.nodes)
step_inside T S s a = (go s.along, step_within T S s a)
  where
    go : (b : Bool) → cond b (T.begin s.place) (T.end s.place) < T.nodes
    go true = omega (arith, S.within s.place a, S.up s.place a)
    go false = S.within s.place a
