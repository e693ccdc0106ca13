-- What is asked of a wiring with its two length tables, and the answers.
use Rattle.std.specs.Prelude.{◌≡◌, ℕ, Bool, true, List, Some, None, Option}
use Rattle.delay.specs.Kind.{Kind}
use Rattle.wiring.specs.declared.Lead.{Lead}
use Rattle.wiring.specs.Net.{Net, Sound, is_lead}
use Rattle.wiring.specs.Paths.{PathOf}
use Rattle.wiring.specs.Lengths.{Fed, Drains, LongestThrough, LongestPath}
use Rattle.lengths.specs.Tables.{HoldsTo, HoldsFrom}

-- the wiring is sound and the tables hold its lengths
pub record Filled {D : Type 0} (K : Kind D) (N : Net D) (to from : List D) : Type 0 where
  pub sound : Sound K N
  pub to_is : HoldsTo K N to
  pub from_is : HoldsFrom K N from

-- what is said of the lead at a place; nothing is said of a vacant place
abbrev pub of_lead : {D B : Type 0} → (Lead D → B) → Option (Lead D) → Option B
of_lead f None = None
of_lead f (Some l) = Some (f l)

-- a lead has its type, two marks that tell whether it drains and whether it is fed; a vacant place has none
abbrev pub TypeOf : {D : Type 0} → Kind D → Net D → ℕ → Option (Bool × Bool) → Type 0
TypeOf K N k None = N.at k ≡ None
TypeOf K N k (Some m) = (is_lead N k ≡ true)
    × ((m.0 ≡ true → Drains K N k) × (Drains K N k → m.0 ≡ true))
    × ((m.1 ≡ true → Fed K N k) × (Fed K N k → m.1 ≡ true))

-- the delay of a longest path through a lead; a vacant place has none
abbrev pub ThroughOf : {D : Type 0} → Kind D → Net D → ℕ → Option D → Type 0
ThroughOf K N k None = N.at k ≡ None
ThroughOf K N k (Some x) = LongestThrough K N k x

-- the delay of a longest path of all, or nothing where there is no path
abbrev pub LongestOf : {D : Type 0} → Kind D → Net D → Option D → Type 0
LongestOf K N None = (p : List ℕ) → PathOf N p → ⊥
LongestOf K N (Some x) = LongestPath K N x
