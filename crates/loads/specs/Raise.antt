-- Loads raised by 1 along a chain of arcs.
use Rattle.std.specs.Prelude.{◌≡◌, ℕ, ◌≤◌, Bool, true, false, cond, List}
use Rattle.wiring.specs.Lists.{count_on}
use Rattle.flow.specs.Table.{Table}
use Rattle.flow.specs.Chains.{Chain, raised}

-- g is f with 1 more at each arc of a chain from u to v
pub record Raised (T : Table) (f g : ℕ → ℕ) (u v : ℕ) : Type 0 where
  pub chain : List ℕ
  pub run : Chain T u chain v
  pub is : (k : ℕ) → g k ≡ raised f chain k

-- the same, for a chain that was followed from u to v, along its arcs or against them
abbrev pub RaisedOn : Table → (ℕ → ℕ) → (ℕ → ℕ) → Bool → ℕ → ℕ → Type 0
RaisedOn T f g true u v = Raised T f g u v
RaisedOn T f g false u v = Raised T f g v u

-- where every chain that is followed comes to: along the arcs to the sink, against them to the source
abbrev pub far_end : Table → Bool → ℕ
far_end T along = cond along T.sink T.source

-- g is f raised along a chain from the source to the sink, through the arc at k
pub record RaisedThrough (T : Table) (f g : ℕ → ℕ) (k : ℕ) : Type 0 where
  pub raised : Raised T f g T.source T.sink
  pub through : 1 ≤ count_on k raised.chain
