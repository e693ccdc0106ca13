-- What a wiring means, which wirings are sound, and which nodes are inputs, outputs and inner nodes.
use Rattle.std.specs.Prelude.{◌≡◌, ℕ, zero, suc, ◌<◌, ◌≤◌, Bool, true, false, not, ◌&&◌, ◌||◌, Some, None, Option, ◌==◌, nat_lt}
use Rattle.delay.specs.Kind.{Kind}
use Rattle.wiring.specs.declared.Lead.{Lead}

-- a number of nodes, a number of places, and at each place nothing or one lead; a place past the last is vacant
pub record Net (D : Type 0) : Type 0 where
  pub nodes : ℕ
  pub places : ℕ
  pub at : ℕ → Option (Lead D)
  pub vacant : (k : ℕ) → places ≤ k → at k ≡ None

-- place k holds the lead l; its number k is the lead's name
abbrev pub Holds : {D : Type 0} → Net D → ℕ → Lead D → Type 0
Holds N k l = N.at k ≡ Some l

-- every lead runs from a lower node to a higher one, inside the wiring
pub record InOrder {D : Type 0} (N : Net D) : Type 0 where
  pub upwards : (k : ℕ) (l : Lead D) → Holds N k l → l.tail < l.head
  pub inside : (k : ℕ) (l : Lead D) → Holds N k l → l.head < N.nodes

-- the test for one lead in a wiring of n nodes
abbrev pub ends_in_order : {D : Type 0} → ℕ → Lead D → Bool
ends_in_order n l = nat_lt l.tail l.head && nat_lt l.head n

-- what can be worked on: at most 4,096 nodes and places, leads in order, and each with a delay that is lawful for the kind
pub record Sound {D : Type 0} (K : Kind D) (N : Net D) : Type 0 where
  pub few_nodes : N.nodes ≤ 4096
  pub few_places : N.places ≤ 4096
  pub upwards : (k : ℕ) (l : Lead D) → Holds N k l → l.tail < l.head
  pub inside : (k : ℕ) (l : Lead D) → Holds N k l → l.head < N.nodes
  pub lawful : (k : ℕ) (l : Lead D) → Holds N k l → K.lawful l.delay ≡ true

abbrev pub stands : {D : Type 0} → Option (Lead D) → Bool
stands (Some l) = true
stands None = false

abbrev pub tail_is : {D : Type 0} → ℕ → Option (Lead D) → Bool
tail_is v (Some l) = l.tail == v
tail_is v None = false

abbrev pub head_is : {D : Type 0} → ℕ → Option (Lead D) → Bool
head_is v (Some l) = l.head == v
head_is v None = false

-- a lead stands at place k; it leaves the node v; it enters the node v
abbrev pub is_lead : {D : Type 0} → Net D → ℕ → Bool
is_lead N k = stands (N.at k)

abbrev pub leaves : {D : Type 0} → Net D → ℕ → ℕ → Bool
leaves N v k = tail_is v (N.at k)

abbrev pub enters : {D : Type 0} → Net D → ℕ → ℕ → Bool
enters N v k = head_is v (N.at k)

-- P holds of some number below n; of every number below n
abbrev pub some_below : ℕ → (ℕ → Bool) → Bool
some_below zero P = false
some_below (suc n) P = P n || some_below n P

abbrev pub all_below : ℕ → (ℕ → Bool) → Bool
all_below zero P = true
all_below (suc n) P = P n && all_below n P

-- the node v has a lead in; it has a lead out
abbrev pub has_lead_in : {D : Type 0} → Net D → ℕ → Bool
has_lead_in N v = some_below N.places (enters N v)

abbrev pub has_lead_out : {D : Type 0} → Net D → ℕ → Bool
has_lead_out N v = some_below N.places (leaves N v)

-- an input has a lead out and none in
abbrev pub is_input : {D : Type 0} → Net D → ℕ → Bool
is_input N v = has_lead_out N v && not (has_lead_in N v)

-- an output has a lead in and none out
abbrev pub is_output : {D : Type 0} → Net D → ℕ → Bool
is_output N v = has_lead_in N v && not (has_lead_out N v)

-- an inner node has both
abbrev pub is_inner : {D : Type 0} → Net D → ℕ → Bool
is_inner N v = has_lead_in N v && has_lead_out N v

-- a bare node has no leads
abbrev pub is_bare : {D : Type 0} → Net D → ℕ → Bool
is_bare N v = not (has_lead_in N v) && not (has_lead_out N v)
