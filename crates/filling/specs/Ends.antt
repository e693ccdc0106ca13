-- The arcs of a wiring in the places of a mark table.
use Rattle.std.specs.Prelude.{◌≡◌, ℕ, List, Option, length, is_some}
use Rattle.wiring.specs.Net.{Net, is_lead}
use Rattle.wiring.specs.Lengths.{Marks}
use Rattle.marks.specs.declared.mark.Arc.{Arc}
use Rattle.marks.specs.declared.mark.Mark.{Mark}
use Rattle.marks.specs.Marks.{begin_in, end_in, class_in, classes}
use Rattle.marks.specs.Links.{arc_at, begin_at, end_at}
use Rattle.cover.specs.Arcs.{arc_table}

-- a is the arc of the lead at the place k under the lead types m: whether one stands there, where the arc begins and ends, and its type
pub record EndsOf {D : Type 0} (N : Net D) (m : Marks) (k : ℕ) (a : Option Arc) : Type 0 where
  pub arc : is_some a ≡ is_lead N k
  pub begin : begin_in a ≡ (arc_table N m).begin k
  pub end : end_in a ≡ (arc_table N m).end k
  pub class : class_in a ≡ m k

-- the places ps hold the arcs of N under the lead types m, and these types
pub record HoldsArcs {D : Type 0} (N : Net D) (m : Marks) (ps : List Mark) : Type 0 where
  pub places : length ps ≡ N.places
  pub arc : arc_at ps ≡ is_lead N
  pub begin : begin_at ps ≡ (arc_table N m).begin
  pub end : end_at ps ≡ (arc_table N m).end
  pub types : classes ps ≡ m
