-- The plain sheet: what a circuit under edit holds, the limits that it keeps, and the file that it is written to.
use Rattle.std.specs.Prelude.{ℕ, suc, ◌<◌, ◌≤◌, List, [], ◌∷◌, length, Some, None, count_by, Option, slice_index_or}
use Rattle.std.specs.List.{AllByRecursion}
use Rattle.wiring.specs.declared.Lead.{Lead}
use Rattle.wiring.specs.Net.{stands}
use Rattle.circuit.specs.declared.Times.{Times}
use Rattle.circuit.specs.File.{Byte, LeadRecord, file_bytes}

-- a sign for each node, 0 where the node passes an edge on and 1 where it inverts it; and at each place nothing or a lead
pub record PlainSheet : Type 0 where
  pub signs : List ℕ
  pub leads : List (Option (Lead Times))

-- a sheet begins with no node and no place
abbrev pub empty : PlainSheet
empty = record { signs = []; leads = [] }

-- what place k holds; a place past the last is vacant
abbrev pub held : PlainSheet → ℕ → Option (Lead Times)
held s k = slice_index_or s.leads k None

-- the number of leads standing
abbrev pub standing : PlainSheet → ℕ
standing s = count_by stands s.leads

-- the caller's tables for a sheet: how many entries the node table and the place table have
pub record Tables : Type 0 where
  pub nodes : ℕ
  pub places : ℕ

-- a sheet has at most so many nodes and so many places
abbrev pub most_nodes : ℕ
most_nodes = 2048

abbrev pub most_places : ℕ
most_places = 2048

-- rise and fall have at most so many picoseconds
abbrev pub most_picoseconds : ℕ
most_picoseconds = 1000000

-- the limits of a lead on a sheet of n nodes: it runs upwards inside the circuit, and its times are those that every kind of delay can read
pub record LeadLimits (n : ℕ) (l : Lead Times) : Type 0 where
  pub upwards : l.tail < l.head
  pub inside : l.head < n
  pub rise : l.delay.rise ≤ most_picoseconds
  pub fall : l.delay.fall ≤ most_picoseconds
  pub contacts : Byte l.delay.contacts

-- a vacant place breaks no limit
abbrev pub PlaceLimits : ℕ → Option (Lead Times) → Type 0
PlaceLimits n (Some l) = LeadLimits n l
PlaceLimits n None = Unit {0}

-- the limits of a sheet in these tables
pub record Limits (z : Tables) (s : PlainSheet) : Type 0 where
  pub few_nodes : length s.signs ≤ most_nodes
  pub few_places : length s.leads ≤ most_places
  pub node_room : length s.signs ≤ z.nodes
  pub place_room : length s.leads ≤ z.places
  pub signs : AllByRecursion (λ x. x ≤ 1) s.signs
  pub leads : AllByRecursion (PlaceLimits (length s.signs)) s.leads

-- the leads of these places in ascending number, where the first place has the number k
abbrev pub records_from : ℕ → List (Option (Lead Times)) → List LeadRecord
records_from k [] = []
records_from k (Some l ∷ ps) = record { place = k; lead = l } ∷ records_from (suc k) ps
records_from k (None ∷ ps) = records_from (suc k) ps

-- the sheet as a file
abbrev pub written : PlainSheet → List ℕ
written s = file_bytes s.signs (length s.leads) (records_from 0 s.leads)
