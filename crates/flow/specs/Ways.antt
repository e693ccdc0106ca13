-- Ways over a table of arcs, along arcs and against them, and loads shifted along a way.
use Rattle.std.specs.Prelude.{◌≡◌, ℕ, ◌+◌, ◌-◌, ◌*◌, ◌<◌, ◌≤◌, Bool, true, false, cond, not, ◌&&◌, List, [], ◌∷◌, ◌==◌}
use Rattle.flow.specs.Table.{Table}

-- a step over the arc at a place: along it, or against it
pub record Step : Type 0 where
  pub place : ℕ
  pub along : Bool

-- the node that a step comes from; the one that it goes to
abbrev pub step_from : Table → Step → ℕ
step_from T s = cond s.along (T.begin s.place) (T.end s.place)

abbrev pub step_to : Table → Step → ℕ
step_to T s = cond s.along (T.end s.place) (T.begin s.place)

-- the step against the arc at place k
abbrev pub back : ℕ → Step
back k = record { place = k; along = false }

-- the steps ss are a way from u to v
abbrev pub Way : Table → ℕ → List Step → ℕ → Type 0
Way T u [] v = u ≡ v
Way T u (s ∷ ss) v = (T.arc s.place ≡ true) × (step_from T s ≡ u) × Way T (step_to T s) ss v

-- how often ss steps along the arc at k; how often against it
abbrev pub along_count : List Step → ℕ → ℕ
along_count [] k = 0
along_count (s ∷ ss) k = cond (s.along && s.place == k) 1 0 + along_count ss k

abbrev pub against_count : List Step → ℕ → ℕ
against_count [] k = 0
against_count (s ∷ ss) k = cond (not s.along && s.place == k) 1 0 + against_count ss k

-- g is f with d more for each step along an arc and d less for each step against it
abbrev pub Shifted : ℕ → List Step → (ℕ → ℕ) → (ℕ → ℕ) → Type 0
Shifted d ss f g = (k : ℕ) → g k + d * against_count ss k ≡ f k + d * along_count ss k

abbrev pub shifted : ℕ → List Step → (ℕ → ℕ) → ℕ → ℕ
shifted d ss f k = (f k + d * along_count ss k) - d * against_count ss k

-- no place is stepped over twice
abbrev pub Once : List Step → Type 0
Once ss = (k : ℕ) → along_count ss k + against_count ss k ≤ 1

-- a step against an arc finds more than d there
abbrev pub Slack : ℕ → (ℕ → ℕ) → Step → Type 0
Slack d f s = s.along ≡ false → d + 1 ≤ f s.place

-- the rank of the nodes falls along the step
abbrev pub Falls : Table → (ℕ → ℕ) → Step → Type 0
Falls T rank s = rank (step_to T s) < rank (step_from T s)
