-- Chains of arcs, each beginning where the one before ended.
use Rattle.std.specs.Prelude.{◌≡◌, ℕ, ◌+◌, true, List, [], ◌∷◌}
use Rattle.wiring.specs.Lists.{count_on}
use Rattle.flow.specs.Table.{Table}
use Rattle.flow.specs.Ways.{Step}

-- the arcs c, in this order, go from the node u to the node v
abbrev pub Chain : Table → ℕ → List ℕ → ℕ → Type 0
Chain T u [] v = u ≡ v
Chain T u (k ∷ ks) v = (T.arc k ≡ true) × (T.begin k ≡ u) × Chain T (T.end k) ks v

-- a chain as steps, all along their arcs
abbrev pub steps_along : List ℕ → List Step
steps_along [] = []
steps_along (k ∷ ks) = record { place = k; along = true } ∷ steps_along ks

-- f with 1 more at each arc of the chain c
abbrev pub raised : (ℕ → ℕ) → List ℕ → ℕ → ℕ
raised f c k = f k + count_on k c
