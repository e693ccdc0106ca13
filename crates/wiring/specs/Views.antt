-- What the table of lead records and the turned view mean, and what the view says of the wiring under it.
use Rattle.std.specs.Prelude.{◌≡◌, ℕ, ◌-◌, ◌<◌, cond, List, reverse, length, Some, None, Option, slice_index_or}
use Rattle.std.proofs.Common.{ap}
use Rattle.std.proofs.lemmas.List.{get_or_past}
use Rattle.delay.specs.Kind.{Kind, Laws}
use Rattle.wiring.specs.declared.Lead.{Lead}
use Rattle.wiring.specs.Net.{Net, InOrder, ends_in_order, Sound, is_input, is_output}
use Rattle.wiring.specs.Paths.{Run, delay_of}
use Rattle.wiring.specs.Lengths.{To, From}

-- n nodes and the places of a row, in the row's order
abbrev pub table_net : {D : Type 0} → ℕ → List (Option (Lead D)) → Net D
table_net n xs = record { nodes = n; places = length xs; at = λ k. slice_index_or xs k None; vacant = λ k h. get_or_past xs k None h }

-- the node v of n nodes as the turned view numbers it
abbrev pub mirror : ℕ → ℕ → ℕ
mirror n v = n - 1 - v

-- a lead turned round in a wiring of n nodes: tail and head change places
abbrev pub flip : {D : Type 0} → ℕ → Lead D → Lead D
flip n l = record { tail = mirror n l.head; head = mirror n l.tail; delay = l.delay }

-- as the turned view shows it: with both ends 0 where it is not in order
abbrev pub turn : {D : Type 0} → ℕ → Lead D → Lead D
turn n l = cond (ends_in_order n l) (flip n l) (record { tail = 0; head = 0; delay = l.delay })

abbrev pub turn_place : {D : Type 0} → ℕ → Option (Lead D) → Option (Lead D)
turn_place n (Some l) = Some (turn n l)
turn_place n None = None

abbrev pub turned_net : {D : Type 0} → Net D → Net D
turned_net N = record {
  nodes = N.nodes;
  places = N.places;
  at = λ k. turn_place N.nodes (N.at k);
  vacant = λ k h. ap (turn_place N.nodes) (N.vacant k h);
}

-- of a wiring whose leads are in order: its runs are the view's runs the other way round, inputs and outputs
-- change places, the view's leads are in order too, and the view of the view shows the wiring itself
pub record Mirrored {D : Type 0} (N : Net D) : Type 0 where
  pub there : (u v : ℕ) (ks : List ℕ) → Run N u v ks → Run (turned_net N) (mirror N.nodes v) (mirror N.nodes u) (reverse ks)
  pub back : (u v : ℕ) (ks : List ℕ) → u < N.nodes → v < N.nodes → Run (turned_net N) (mirror N.nodes v) (mirror N.nodes u) (reverse ks) → Run N u v ks
  pub inputs : (v : ℕ) → v < N.nodes → is_input (turned_net N) (mirror N.nodes v) ≡ is_output N v
  pub outputs : (v : ℕ) → v < N.nodes → is_output (turned_net N) (mirror N.nodes v) ≡ is_input N v
  pub in_order : InOrder (turned_net N)
  pub twice : (k : ℕ) → (turned_net (turned_net N)).at k ≡ N.at k

-- of a sound wiring: so is the view, runs keep their delay, and From(v) of the wiring is To of the view at v's number there
pub record MirroredLengths {D : Type 0} (K : Kind D) (N : Net D) : Type 0 where
  pub sound : Sound K (turned_net N)
  pub delay : (u v : ℕ) (ks : List ℕ) → v < N.nodes → Run N u v ks → delay_of K (turned_net N) (reverse ks) ≡ delay_of K N ks
  pub from_is_to : (v : ℕ) (x : D) → v < N.nodes → To K (turned_net N) (mirror N.nodes v) x → From K N v x
  pub to_is_from : (v : ℕ) (x : D) → v < N.nodes → From K N v x → To K (turned_net N) (mirror N.nodes v) x

-- what the turned view of N tells, for every kind that keeps the laws
abbrev pub Turning : {D : Type 0} → Net D → Type 0
Turning {D} N = (InOrder N → Mirrored N) × ((K : Kind D) → Laws K → Sound K N → MirroredLengths K N)
