-- What stays as loads are raised.
use Rattle.std.specs.Prelude.{◌≡◌}
use Rattle.loads.specs.declared.first.Raising.{Raising}

-- b has the arcs of a, and works on the same lent load table
pub record Stays (a b : Raising) : Type 0 where
  pub arcs : b.arcs ≡ a.arcs
  pub lent : b.loads.ghost_name ≡ a.loads.ghost_name
