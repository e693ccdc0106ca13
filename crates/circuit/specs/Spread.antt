-- The circuit of a sheet, launched edges, and the spread: the wiring in which a rising and a falling edge have nodes and leads of their own.
use Rattle.std.specs.Prelude.{◌≡◌, ℕ, ◌+◌, ◌*◌, ◌/◌, ◌%◌, ◌≤◌, cond, List, [], ◌∷◌, map, length, Some, None, Decides, Option, ◌==◌, slice_index}
use Rattle.std.proofs.Common.{ap, arith}
use Rattle.delay.specs.Kind.{Kind}
use Rattle.wiring.specs.declared.Lead.{Lead}
use Rattle.wiring.specs.Net.{Net}
use Rattle.wiring.specs.Paths.{PathOf, delay_of}
use Rattle.wiring.specs.Views.{table_net}
use Rattle.circuit.specs.declared.Times.{Times}
use Rattle.circuit.specs.Sheet.{PlainSheet}

-- the circuit of a sheet: the wiring of its leads, each with its times in place of a delay
abbrev pub circuit : PlainSheet → Net Times
circuit s = table_net (length s.signs) s.leads

-- the sign of node v
abbrev pub sign_at : PlainSheet → ℕ → ℕ
sign_at s v = slice_index s.signs v

-- an edge is a change of a signal: from low to high, or from high to low
pub data Edge : Type 0 where
  rising : Edge
  falling : Edge

abbrev pub reversed : Edge → Edge
reversed rising = falling
reversed falling = rising

-- an edge as it leaves a node with this sign: a node with sign 1 inverts it
abbrev pub carried : ℕ → Edge → Edge
carried sign e = cond (sign == 1) (reversed e) e

-- the node or lead v of the circuit in the spread: 2v for a rising edge, 2v+1 for a falling one
abbrev pub copy : ℕ → Edge → ℕ
copy v rising = 2 * v
copy v falling = 2 * v + 1

-- and back: the circuit's node or lead, and the edge, for a number of the spread
abbrev pub half : ℕ → ℕ
half n = n / 2

abbrev pub edge_of : ℕ → Edge
edge_of n = cond (n % 2 == 0) rising falling

-- past the last of 2p numbers, the half is past the last of p
pub half_past : (p n : ℕ) → 2 * p ≤ n → p ≤ half n
half_past p n h = omega arith

-- the picoseconds of a lead over which this edge arrives
abbrev pub picoseconds : Times → Edge → ℕ
picoseconds t rising = t.rise
picoseconds t falling = t.fall

-- what the lead then costs under a kind of delay
abbrev pub cost : {D : Type 0} → Kind D → Times → Edge → D
cost K t e = K.reading (picoseconds t e) t.contacts

-- a circuit whose node v has the sign (sign v)
module _ (sign : ℕ → ℕ) where
  -- the edge that arrives over the lead l when e reaches its tail
  abbrev pub arrives : Lead Times → Edge → Edge
  arrives l e = carried (sign l.tail) e

  -- the lead of the spread for the lead l and an edge e at its tail
  abbrev pub spread_lead : {D : Type 0} → Kind D → Edge → Lead Times → Lead D
  spread_lead K e l = record { tail = copy l.tail e; head = copy l.head (arrives l e); delay = cost K l.delay (arrives l e) }

  -- a vacant place gives vacant places
  abbrev pub spread_place : {D : Type 0} → Kind D → Edge → Option (Lead Times) → Option (Lead D)
  spread_place K e (Some l) = Some (spread_lead K e l)
  spread_place K e None = None

  -- twice the nodes and twice the places of the circuit, and at place j the lead for the edge that j tells
  abbrev pub spread_net : {D : Type 0} → Kind D → Net Times → Net D
  spread_net K C = record {
    nodes = 2 * C.nodes;
    places = 2 * C.places;
    at = λ j. spread_place K (edge_of j) (C.at (half j));
    vacant = λ j h. ap (spread_place K (edge_of j)) (C.vacant (half j) (half_past C.places j h));
  }

  -- an edge e launched at a place of the circuit: the edge that arrives over it, and what that costs
  abbrev pub edge_over : Option (Lead Times) → Edge → Edge
  edge_over (Some l) e = arrives l e
  edge_over None e = e

  abbrev pub cost_over : {D : Type 0} → Kind D → Option (Lead Times) → Edge → D
  cost_over K (Some l) e = cost K l.delay (arrives l e)
  cost_over K None e = K.zero

  -- the delay of the pair of the leads ks of the circuit and an edge e launched into them: the costs along the leads, added up
  abbrev pub pair_delay : {D : Type 0} → Kind D → Net Times → Edge → List ℕ → D
  pair_delay K C e [] = K.zero
  pair_delay K C e (k ∷ ks) = K.plus (cost_over K (C.at k) e) (pair_delay K C (edge_over (C.at k) e) ks)

  -- the path js of the spread stands for the leads ks of the circuit with the launched edge e
  pub record StandsFor {D : Type 0} (K : Kind D) (C : Net Times) (js : List ℕ) (e : Edge) (ks : List ℕ) : Type 0 where
    pub path : PathOf (spread_net K C) js
    pub launches : edge_of path.source ≡ e
    pub leads : map half js ≡ ks

  -- the paths of the spread and the pairs of a circuit path and a launched edge stand for each other, one to one
  pub record OneToOne {D : Type 0} (K : Kind D) (C : Net Times) : Type 0 where
    -- every path of the spread stands for one pair only, and its leads are a path of the circuit
    pub pair_of : (js : List ℕ) → PathOf (spread_net K C) js → (e : Edge) × (ks : List ℕ) × StandsFor K C js e ks
    pub one_pair : (js : List ℕ) (e f : Edge) (ks ls : List ℕ) → StandsFor K C js e ks → StandsFor K C js f ls → (e ≡ f) × (ks ≡ ls)
    pub a_path : (js : List ℕ) (e : Edge) (ks : List ℕ) → StandsFor K C js e ks → PathOf C ks
    -- for every path of the circuit and every edge, one path only of the spread stands
    pub path_of : (e : Edge) (ks : List ℕ) → PathOf C ks → (js : List ℕ) × StandsFor K C js e ks
    pub one_path : (is js : List ℕ) (e : Edge) (ks : List ℕ) → StandsFor K C is e ks → StandsFor K C js e ks → is ≡ js
    -- both have the same delay
    pub same_delay : (js : List ℕ) (e : Edge) (ks : List ℕ) → StandsFor K C js e ks → delay_of K (spread_net K C) js ≡ pair_delay K C e ks
    -- a path has a first lead, and launches a rising edge exactly if that lead's number is even
    pub some_lead : (e : Edge) (ks : List ℕ) → StandsFor K C [] e ks → ⊥
    pub first_even : (j : ℕ) (js : List ℕ) (e : Edge) (ks : List ℕ) → StandsFor K C (j ∷ js) e ks → Decides (j % 2 == 0) (e ≡ rising)

-- the spread of a sheet under a kind of delay
abbrev pub spread : {D : Type 0} → Kind D → PlainSheet → Net D
spread K s = spread_net (sign_at s) K (circuit s)
