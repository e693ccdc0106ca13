-- What a search keeps as it goes on.
use Rattle.std.specs.Prelude.{◌≡◌}
use Rattle.marks.specs.Marks.{load_of}
use Rattle.marks.specs.Shown.{shown}
use Rattle.loads.specs.declared.search.Spread.{Spread}
use Rattle.loads.specs.Search.{Grown}

-- the search has gone on from a to b: over the same arcs and loads, on the same lent marks
pub record Went (a b : Spread) : Type 0 where
  pub arcs : b.arcs ≡ a.arcs
  pub loads : b.loads.now ≡ a.loads.now
  pub low : b.low ≡ a.low
  pub lent : b.nodes.ghost_name ≡ a.nodes.ghost_name
  pub grown : Grown (shown a.arcs) (load_of a.loads.now) a.low a.nodes.now b.nodes.now a.count b.count
