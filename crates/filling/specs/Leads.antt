-- The leads of a wiring in the places of a mark table.
use Rattle.std.specs.Prelude.{◌≡◌, ℕ, ◌<◌, List, Option, length, is_some}
use Rattle.delay.specs.Kind.{Kind}
use Rattle.wiring.specs.declared.Lead.{Lead}
use Rattle.wiring.specs.Net.{Net, Sound, stands, is_lead, has_lead_in, has_lead_out}
use Rattle.wiring.specs.Lists.{tail_in, head_in, tail_at, head_node}
use Rattle.marks.specs.declared.mark.Arc.{Arc}
use Rattle.marks.specs.declared.mark.Mark.{Mark}
use Rattle.marks.specs.Marks.{begin_in, end_in}
use Rattle.marks.specs.Links.{arc_at, begin_at, end_at, out_at, into_at, Linked}

-- a is the arc of a lead that may stand, from its tail to its head
pub record ArcOf {D : Type 0} (o : Option (Lead D)) (a : Option Arc) : Type 0 where
  pub arc : is_some a ≡ stands o
  pub begin : begin_in a ≡ tail_in o
  pub end : end_in a ≡ head_in o

-- the places ps hold the leads of N: at each lead's place an arc from its tail to its head
pub record Leads {D : Type 0} (N : Net D) (ps : List Mark) : Type 0 where
  pub places : length ps ≡ N.places
  pub arc : arc_at ps ≡ is_lead N
  pub begin : begin_at ps ≡ tail_at N
  pub end : end_at ps ≡ head_node N

-- a node of ns has a link just where it has a lead, on either side
abbrev pub NodeLinks : {D : Type 0} → Net D → List Mark → Type 0
NodeLinks N ns = (v : ℕ) → v < length ns → (is_some (into_at ns v) ≡ has_lead_in N v) × (is_some (out_at ns v) ≡ has_lead_out N v)

-- the leads of the sound wiring N stand at the places ps and are linked at its nodes ns
pub record LinkedLeads {D : Type 0} (K : Kind D) (N : Net D) (ns ps : List Mark) : Type 0 where
  pub sound : Sound K N
  pub leads : Leads N ps
  pub linked : Linked ps ns 0
  pub nodes : length ns ≡ N.nodes
