-- What stays as loads are settled.
use Rattle.std.specs.Prelude.{◌≡◌}
use Rattle.loads.specs.declared.best.Settling.{Settling}

-- b has the arcs of a, and works on the same lent tables
pub record Kept (a b : Settling) : Type 0 where
  pub arcs : b.arcs ≡ a.arcs
  pub nodes : b.nodes.ghost_name ≡ a.nodes.ghost_name
  pub loads : b.loads.ghost_name ≡ a.loads.ghost_name
