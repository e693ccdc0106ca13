-- Residual steps: over an arc, along it or against it.
use Rattle.std.specs.Prelude.{◌≡◌, ℕ, ◌≤◌, Bool, false}
use Rattle.flow.specs.Ways.{Step}

-- the step over the place k
abbrev pub over : ℕ → Bool → Step
over k along = record { place = k; along = along }

-- along an arc a step is always free; against it only with load to spare, since every arc keeps at least 1
abbrev pub Free : (ℕ → ℕ) → ℕ → Bool → Type 0
Free f k along = along ≡ false → 2 ≤ f k

-- what a step finds at its arc: against it, load to spare
abbrev pub Spare : (ℕ → ℕ) → Step → Type 0
Spare f s = s.along ≡ false → 2 ≤ f s.place
