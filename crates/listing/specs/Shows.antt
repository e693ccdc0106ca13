-- What the links hold of a wiring.
use Rattle.std.specs.Prelude.{◌≡◌}
use Rattle.delay.specs.Kind.{Kind}
use Rattle.wiring.specs.Net.{Net, Sound}
use Rattle.wiring.specs.Lengths.{Marks, Types}
use Rattle.marks.specs.Marks.{classes}
use Rattle.marks.specs.Shown.{shown}
use Rattle.cover.specs.Arcs.{arc_table}
use Rattle.listing.specs.declared.links.Links.{Links}

-- the types of the leads that they hold
abbrev pub types_in : Links → Marks
types_in l = classes l.arcs.marks.now

-- the wiring N is sound, and the links hold the types of its leads and show its arcs
pub record Shows {D : Type 0} (K : Kind D) (N : Net D) (l : Links) : Type 0 where
  pub sound : Sound K N
  pub types : Types K N (types_in l)
  pub arcs : shown l.arcs ≡ arc_table N (types_in l)
