-- The tables once the loads are found.
use Rattle.std.specs.Prelude.{◌≡◌, ℕ, ◌≤◌, List, length}
use Rattle.delay.specs.Kind.{Kind}
use Rattle.wiring.specs.Net.{Net, Sound}
use Rattle.wiring.specs.Lengths.{Types}
use Rattle.wiring.specs.Loads.{Best}
use Rattle.marks.specs.declared.mark.Mark.{Mark}
use Rattle.marks.specs.Marks.{classes, load_of}
use Rattle.marks.specs.Links.{Linked}
use Rattle.filling.specs.Ends.{HoldsArcs}

-- the places ps hold the lead types and the arcs of N, linked at the nodes ns, and xs are its best loads
pub record Ready {D : Type 0} (K : Kind D) (N : Net D) (ns ps : List Mark) (xs : List ℕ) : Type 0 where
  pub sound : Sound K N
  pub two : 2 ≤ N.nodes
  pub nodes : length ns ≡ N.nodes
  pub loads : length xs ≡ N.places
  pub types : Types K N (classes ps)
  pub arcs : HoldsArcs N (classes ps) ps
  pub linked : Linked ps ns 0
  pub best : Best N (classes ps) (load_of xs)
