-- What is kept as loads are settled: first the total, then lead after lead.
use Rattle.std.specs.Prelude.{◌≡◌, ℕ, ◌<◌}
use Rattle.std.proofs.Props.{props}
use Rattle.flow.specs.Table.{Table}
use Rattle.flow.specs.Loads.{Loads, Least, FirstTo, total}

-- g are loads of a smaller total than f
pub record Reduced (T : Table) (f g : ℕ → ℕ) : Type 0 where
  pub loads : Loads T g
  pub less : total T g < total T f

-- g are loads of the same total as f, equal below k and less at k
pub record Lowered (T : Table) (f g : ℕ → ℕ) (k : ℕ) : Type 0 where
  pub loads : Loads T g
  pub same : total T g ≡ total T f
  pub below : (j : ℕ) → j < k → g j ≡ f j
  pub less : g k < f k

-- f are loads of the least total, and no loads of that total come before them by a difference below n
pub record SettledTo (T : Table) (f : ℕ → ℕ) (n : ℕ) : Type 0 where
  pub loads : Loads T f
  pub least : Least T f
  pub first : FirstTo T f n

-- that loads are loads is a fact that a struct can keep
pub loads_prop : (T : Table) (f : ℕ → ℕ) → IsProp (Loads T f)
loads_prop T f = Prim.hlevel props
