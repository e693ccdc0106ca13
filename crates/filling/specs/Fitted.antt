-- Tables that fit a wiring, before and after they are filled.
use Rattle.std.specs.Prelude.{◌≡◌, ◌≤◌, length}
use Rattle.delay.specs.Kind.{Kind}
use Rattle.wiring.specs.Net.{Net}
use Rattle.lengths.specs.Pairs.{FilledIn, PairRefilled}
use Rattle.filling.specs.declared.fitted.Fitted.{Fitted}

-- the tables t have room for a length of each node of N, and just a mark for each node and for each place
pub record Fits {D : Type 0} (N : Net D) (t : Fitted D) : Type 0 where
  pub to_room : N.nodes ≤ length t.lengths.now.to.table.now
  pub from_room : N.nodes ≤ length t.lengths.now.from.table.now
  pub nodes : length t.nodes.now ≡ N.nodes
  pub places : length t.places.now ≡ N.places

-- from a to b the lengths to and from every node were filled in, and nothing past the nodes; all four are the same lent ones
pub record Measured {D : Type 0} (K : Kind D) (N : Net D) (a b : Fitted D) : Type 0 where
  pub filled : FilledIn K N b.lengths.now
  pub rest : PairRefilled N.nodes a.lengths.now b.lengths.now
  pub lender : b.lengths.ghost_name ≡ a.lengths.ghost_name
  pub nodes_lender : b.nodes.ghost_name ≡ a.nodes.ghost_name
  pub places_lender : b.places.ghost_name ≡ a.places.ghost_name
  pub fits : Fits N b
