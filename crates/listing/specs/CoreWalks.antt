-- A core as a walk along the arcs.
use Rattle.std.specs.Prelude.{◌≡◌, ℕ, ◌+◌, ◌≤◌, List, ◌∷◌, length}
use Rattle.wiring.specs.Lists.{Walker, Walk}
use Rattle.flow.specs.Table.{Table, ends}
use Rattle.listing.specs.declared.row.WordRow.{WordRow}
use Rattle.listing.specs.Looks.{begins_left}
use Rattle.listing.specs.Row.{unwritten}
use Rattle.listing.specs.Walks.{WalkPut}

-- from arc to arc by those with something left, until one ends at the sink
abbrev pub by_arcs : Table → (ℕ → ℕ) → Walker
by_arcs T left = record { done = ends T T.sink; by = λ k. begins_left T left (T.end k); next = λ j. j }

-- the walk from start ends, and there is room in the row for the core that it makes up
pub record CoreFits (T : Table) (left : ℕ → ℕ) (start : ℕ) (r : WordRow) : Type 0 where
  pub leads : List ℕ
  pub stop : ℕ
  pub walk : Walk (by_arcs T left) start leads stop
  pub room : 1 + length leads ≤ length (unwritten r)

-- the core from start on has been written; stop is its last lead
abbrev pub CorePut : Table → (ℕ → ℕ) → ℕ → WordRow → WordRow → ℕ → Type 0
CorePut T left start r s stop = (put : WalkPut (by_arcs T left) (λ js. start ∷ js) start r s) × (put.stop ≡ stop)
