-- The search for a way that loads can be shifted along, and what it leaves behind: for each node reached, the step that
-- it was reached by and how deep it was.
use Rattle.std.specs.Prelude.{◌≡◌, ℕ, ◌-◌, ◌<◌, ◌≤◌, min, Bool, true, false, cond, List, [], ◌∷◌, ◌==◌, ◌≢◌}
use Rattle.std.specs.List.{AllByRecursion}
use Rattle.wiring.specs.Loads.{sum_below}
use Rattle.flow.specs.Table.{Table}
use Rattle.flow.specs.Ways.{Step, Way, step_from, step_to, Once}

-- the step s, over a place from low on, led to v from a node reached earlier; against an arc only if it has more than 1
pub record Came (T : Table) (f : ℕ → ℕ) (low : ℕ) (R : ℕ → Bool) (depth : ℕ → ℕ) (s : Step) (v : ℕ) : Type 0 where
  pub arc : T.arc s.place ≡ true
  pub above : low ≤ s.place
  pub to : step_to T s ≡ v
  pub from : R (step_from T s) ≡ true
  pub deeper : depth (step_from T s) < depth v
  pub free : s.along ≡ false → 2 ≤ f s.place

-- what a search from u has reached, and how
pub record Trail (T : Table) (f : ℕ → ℕ) (low u : ℕ) (R : ℕ → Bool) (depth : ℕ → ℕ) (via : ℕ → Step) : Type 0 where
  pub start : R u ≡ true
  pub came : (w : ℕ) → R w ≡ true → (w ≢ u) → Came T f low R depth (via w) w

-- the step s, over a place from low on, leads out of R, so the search can go on
pub record Opens (T : Table) (f : ℕ → ℕ) (low : ℕ) (R : ℕ → Bool) (s : Step) : Type 0 where
  pub arc : T.arc s.place ≡ true
  pub above : low ≤ s.place
  pub from : R (step_from T s) ≡ true
  pub to : R (step_to T s) ≡ false
  pub free : s.along ≡ false → 2 ≤ f s.place

-- no step, over a place from low on, leads out of R, so the search has ended
pub record Shut (T : Table) (f : ℕ → ℕ) (low : ℕ) (R : ℕ → Bool) : Type 0 where
  pub along : (j : ℕ) → low ≤ j → T.arc j ≡ true → R (T.begin j) ≡ true → R (T.end j) ≡ true
  pub against : (j : ℕ) → low ≤ j → T.arc j ≡ true → R (T.end j) ≡ true → 2 ≤ f j → R (T.begin j) ≡ true

-- a way from u to v, over places from low on, that loads can be shifted along
pub record Found (T : Table) (f : ℕ → ℕ) (low u v : ℕ) : Type 0 where
  pub steps : List Step
  pub way : Way T u steps v
  pub above : AllByRecursion (λ s. low ≤ s.place) steps
  pub free : AllByRecursion (λ s. s.along ≡ false → 2 ≤ f s.place) steps
  pub once : Once steps

-- the most that can be shifted: at most x, and one less than each load that is stepped against
abbrev pub slack_of : (ℕ → ℕ) → ℕ → List Step → ℕ
slack_of f x [] = x
slack_of f x (s ∷ ss) = cond s.along (slack_of f x ss) (min (f s.place - 1) (slack_of f x ss))

-- h with x at v
abbrev pub put : {A : Type 0} → (ℕ → A) → ℕ → A → ℕ → A
put h v x w = cond (v == w) x (h w)

-- how many nodes a search has not reached yet
abbrev pub unreached : Table → (ℕ → Bool) → ℕ
unreached T R = sum_below T.nodes (λ v. cond (R v) 0 1)
