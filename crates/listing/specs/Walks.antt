-- Walks, and those whose leads are written into a row.
use Rattle.std.specs.Prelude.{◌≡◌, ℕ, ◌-◌, ◌≤◌, Bool, true, false, cond, List, length, MatchOption, Option}
use Rattle.wiring.specs.Net.{Net, has_lead_in, has_lead_out}
use Rattle.wiring.specs.Lengths.{Marks}
use Rattle.wiring.specs.Lists.{Lowest, Walker, Walk, backwards, forwards}
use Rattle.listing.specs.declared.row.WordRow.{WordRow}
use Rattle.listing.specs.Row.{unwritten, Wrote}

-- forwards along the leads, or backwards against them
abbrev pub way : {D : Type 0} → Net D → Marks → Bool → Walker
way N m along = cond along (forwards N m) (backwards N m)

-- a lead brings one to the node v that way
abbrev pub Reached : {D : Type 0} → Net D → Bool → ℕ → Type 0
Reached N along v = cond along (has_lead_in N v) (has_lead_out N v) ≡ true

-- how many nodes lie that way
abbrev pub nodes_on : {D : Type 0} → Net D → Bool → ℕ → ℕ
nodes_on N along v = cond along (N.nodes - v) v

-- one step of a walk from v: it meets the lead o and goes on from w, or it ends
abbrev pub StepTo : Walker → ℕ → Option ℕ → ℕ → Type 0
StepTo X v o w = MatchOption o (X.done v ≡ true) (λ j. (X.done v ≡ false) × Lowest (X.by v) j × (X.next j ≡ w))

-- the walk from v ends, and there is room in the row for the leads that it meets
pub record WalkFits (X : Walker) (v : ℕ) (r : WordRow) : Type 0 where
  pub leads : List ℕ
  pub stop : ℕ
  pub walk : Walk X v leads stop
  pub room : length leads ≤ length (unwritten r)

-- the leads that the walk from v meets have been written as told
pub record WalkPut (X : Walker) (told : List ℕ → List ℕ) (v : ℕ) (r s : WordRow) : Type 0 where
  pub leads : List ℕ
  pub stop : ℕ
  pub walk : Walk X v leads stop
  pub put : Wrote r s (told leads)

-- the walk from v meets n leads, no more than a wiring has nodes
pub record WalkLong (X : Walker) (v n : ℕ) : Type 0 where
  pub leads : List ℕ
  pub stop : ℕ
  pub walk : Walk X v leads stop
  pub number : n ≡ length leads
  pub short : n ≤ 4096
