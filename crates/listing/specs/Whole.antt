-- When the links are whole.
use Rattle.std.specs.Prelude.{◌≡◌, List, length}
use Rattle.std.proofs.Props.{props}
use Rattle.marks.specs.declared.mark.Mark.{Mark}
use Rattle.marks.specs.declared.arcs.Arcs.{Arcs}
use Rattle.marks.specs.Links.{Linked}
use Rattle.marks.proofs.Linking.{linked_prop}

-- each node has an entry, which names the lowest arcs that begin and end there, and each arc names the next ones
pub record Whole (a : Arcs) (ns : List Mark) : Type 0 where
  pub nodes : length ns ≡ a.nodes
  pub linked : Linked a.marks.now ns 0

-- that can hold in one way only
pub Whole-prop : (a : Arcs) (ns : List Mark) → IsProp (Whole a ns)
Whole-prop a ns = hlevel (props, linked_prop)
