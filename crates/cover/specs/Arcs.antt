-- A wiring with its marks as a table of arcs: all start leads begin at one source, and all end leads end at one sink.
-- The first and the last node can stand for these, since neither of them is an inner node.
use Rattle.std.specs.Prelude.{ℕ, zero, suc, ◌-◌, max, Bool, cond, List, [], ◌∷◌, ◌++◌, Some, None, Option}
use Rattle.wiring.specs.declared.Lead.{Lead}
use Rattle.wiring.specs.Net.{Net, is_lead}
use Rattle.wiring.specs.Lengths.{Marks}
use Rattle.wiring.specs.Loads.{starts, ends}
use Rattle.flow.specs.Table.{Table}

-- the last node; it is never the first, even where a wiring has fewer than two nodes
abbrev pub highest_node : {D : Type 0} → Net D → ℕ
highest_node N = max 1 (N.nodes - 1)

-- a start lead begins at node 0, any other lead at its tail
abbrev pub begin_at : {D : Type 0} → Net D → Bool × Bool → Option (Lead D) → ℕ
begin_at N m (Some l) = cond (starts N m (Some l)) 0 l.tail
begin_at N m None = 0

-- an end lead ends at the last node, any other lead at its head
abbrev pub end_at : {D : Type 0} → Net D → Bool × Bool → Option (Lead D) → ℕ
end_at N m (Some l) = cond (ends N m (Some l)) (highest_node N) l.head
end_at N m None = 0

-- the arcs of a wiring: one for each lead, at the lead's place
abbrev pub arc_table : {D : Type 0} → Net D → Marks → Table
arc_table N m = record {
  places = N.places;
  nodes = N.nodes;
  arc = is_lead N;
  begin = λ k. begin_at N (m k) (N.at k);
  end = λ k. end_at N (m k) (N.at k);
  source = 0;
  sink = highest_node N;
}

-- the numbers below n at which P holds, ascending
abbrev pub listed : (ℕ → Bool) → ℕ → List ℕ
listed P zero = []
listed P (suc n) = cond (P n) (listed P n ++ (n ∷ [])) (listed P n)
