-- The calls on a sheet: the rules that each judges, in their order, and what it makes of the sheet.
use Rattle.std.specs.Prelude.{ℕ, Bool, true, cond, not, ◌&&◌, List, [], ◌∷◌, length, replicate, Some, None, Ok, Err, Option, Result, ◌==◌, nat_le, nat_lt, slice_set}
use Rattle.wiring.specs.declared.Lead.{Lead}
use Rattle.wiring.specs.declared.refusals.Refusal.{Refusal}
use Rattle.wiring.specs.declared.refusals.Refusal.TheVariants.{FileLength, Version, Size, Sign, Ends, Delay, Taken, Vacant, Place, Room}
use Rattle.wiring.specs.Net.{stands, ends_in_order}
use Rattle.circuit.specs.declared.Times.{Times}
use Rattle.circuit.specs.File.{Header, header_in, signs_in, record_start, LeadRecord, records_in}
use Rattle.circuit.specs.Sheet.{PlainSheet, empty, held, standing, Tables, most_nodes, most_places, most_picoseconds}

-- what is asked of one place
pub data Edit : Type 0 where
  -- put this lead there
  lay : Lead Times → Edit
  -- give the lead there these times in place of its own
  retime : Times → Edit
  -- take the lead away
  lift : Edit

-- a call on a sheet, with what the caller hands over
pub data Call : Type 0 where
  -- a sign for each node, and a count of places, all of them vacant
  open_with : List ℕ → ℕ → Call
  -- the bytes of a sheet file
  load : List ℕ → Call
  -- an edit of this place
  at_place : ℕ → Edit → Call
  -- the choice of a list of paths
  choose : Call

-- a rule: whether it is kept, and the refusal of a call that breaks it
pub record Rule : Type 0 where
  pub kept : Bool
  pub refusal : Refusal

abbrev pub rule : Bool → Refusal → Rule
rule b r = record { kept = b; refusal = r }

-- what a call comes to: the sheet that it leaves, and its refusal if there is one
pub record Outcome : Type 0 where
  pub sheet : PlainSheet
  pub refusal : Option Refusal

abbrev pub accepted : PlainSheet → Outcome
accepted s = record { sheet = s; refusal = None }

abbrev pub refused : PlainSheet → Refusal → Outcome
refused s r = record { sheet = s; refusal = Some r }

-- the first broken rule decides, and leaves the sheet s; where every rule is kept, the outcome is o
abbrev pub judge : List Rule → PlainSheet → Outcome → Outcome
judge [] s o = o
judge (r ∷ rs) s o = cond r.kept (judge rs s o) (refused s r.refusal)

-- every sign is 0 or 1
abbrev pub all_signs : List ℕ → Bool
all_signs [] = true
all_signs (x ∷ xs) = nat_le x 1 && all_signs xs

-- so many nodes and places are no more than a sheet may have
abbrev pub in_size : ℕ → ℕ → Bool
in_size nodes places = nat_le nodes most_nodes && nat_le places most_places

-- the tables have an entry for each of them
abbrev pub in_room : Tables → ℕ → ℕ → Bool
in_room z nodes places = nat_le nodes z.nodes && nat_le places z.places

-- neither rise nor fall is over the limit
abbrev pub in_time : Times → Bool
in_time t = nat_le t.rise most_picoseconds && nat_le t.fall most_picoseconds

-- what open judges, in this order
abbrev pub open_rules : Tables → List ℕ → ℕ → List Rule
open_rules z signs places =
    rule (in_size (length signs) places) Size
    ∷ rule (in_room z (length signs) places) Room
    ∷ rule (all_signs signs) Sign
    ∷ []

-- what load judges, in this order, of a file of `size` bytes with this header and these signs; after it come the lead records, as lay judges them
abbrev pub file_rules : Tables → ℕ → Header → List ℕ → List Rule
file_rules z size h signs =
    rule (nat_le 11 size) FileLength
    ∷ rule (h.version == 1) Version
    ∷ rule (h.size == size) FileLength
    ∷ rule (in_size h.nodes h.places) Size
    ∷ rule (in_room z h.nodes h.places) Room
    ∷ rule (h.size == record_start h.nodes h.leads) FileLength
    ∷ rule (all_signs signs) Sign
    ∷ []

abbrev pub load_rules : Tables → List ℕ → List Rule
load_rules z bs = file_rules z (length bs) (header_in bs) (signs_in bs)

-- what lay, retime and lift judge at place k, in this order
abbrev pub edit_rules : PlainSheet → ℕ → Edit → List Rule
edit_rules s k (lay l) =
    rule (nat_lt k (length s.leads)) Place
    ∷ rule (not (stands (held s k))) Taken
    ∷ rule (ends_in_order (length s.signs) l) Ends
    ∷ rule (in_time l.delay) Delay
    ∷ []
edit_rules s k (retime t) =
    rule (nat_lt k (length s.leads)) Place
    ∷ rule (stands (held s k)) Vacant
    ∷ rule (in_time t) Delay
    ∷ []
edit_rules s k lift =
    rule (nat_lt k (length s.leads)) Place
    ∷ rule (stands (held s k)) Vacant
    ∷ []

-- a sheet with these signs and so many places, all vacant
abbrev pub fresh : List ℕ → ℕ → PlainSheet
fresh signs places = record { signs = signs; leads = replicate places None }

-- a lead with other times, and the same ends
abbrev pub retimed : Times → Option (Lead Times) → Option (Lead Times)
retimed t (Some l) = Some (record { tail = l.tail; head = l.head; delay = t })
retimed t None = None

-- what a place holds after an edit, by what it held before
abbrev pub edited : Edit → Option (Lead Times) → Option (Lead Times)
edited (lay l) p = Some l
edited (retime t) p = retimed t p
edited lift p = None

-- the sheet with place k edited
abbrev pub edit_at : PlainSheet → ℕ → Edit → PlainSheet
edit_at s k e = record { signs = s.signs; leads = slice_set s.leads k (edited e (held s k)) }

-- the records laid one after another; one that is refused leaves the sheet empty
abbrev pub laid : PlainSheet → List LeadRecord → Outcome
laid s [] = accepted s
laid s (r ∷ rs) = judge (edit_rules s r.place (lay r.lead)) empty (laid (edit_at s r.place (lay r.lead)) rs)

-- what a call makes of the sheet s in these tables. A refusal leaves s, but for a refusal at a lead record of a file;
-- choose changes nothing, and what it answers is said of the spread
abbrev pub step : Tables → PlainSheet → Call → Outcome
step z s (open_with signs places) = judge (open_rules z signs places) s (accepted (fresh signs places))
step z s (load bs) = judge (load_rules z bs) s (laid (fresh (signs_in bs) (header_in bs).places) (records_in bs))
step z s (at_place k e) = judge (edit_rules s k e) s (accepted (edit_at s k e))
step z s choose = accepted s

-- what open, load, lay, retime and lift answer: the number of leads then standing, or the refusal
abbrev pub answer : Outcome → Result ℕ Refusal
answer o = elim o.refusal [ None ↦ Ok (standing o.sheet) | Some r ↦ Err r ]
