-- What holds of every sheet, whatever calls made it.
use Rattle.std.specs.Prelude.{◌≡◌, ℕ, ◌<◌, ◌≤◌, Bool, cond, ◌||◌, length, Some, None, ◌==◌, ◌≢◌}
use Rattle.std.specs.List.{AllByRecursion}
use Rattle.delay.specs.Kind.{Kind}
use Rattle.wiring.specs.Net.{Sound}
use Rattle.wiring.specs.declared.refusals.Refusal.{Refusal}
use Rattle.wiring.specs.Refusals.{number_of}
use Rattle.circuit.specs.Sheet.{PlainSheet, empty, held, Tables, Limits, written}
use Rattle.circuit.specs.Calls.{Edit, edited, Call, open_with, load, at_place, choose, step, accepted}
use Rattle.circuit.specs.Histories.{Handed, History}
use Rattle.circuit.specs.Spread.{circuit, sign_at, spread, OneToOne}
use Rattle.circuit.specs.Examples.{SampleStands, Answered, accepted_examples, refused_openings, refused_edits}
use Rattle.circuit.specs.Examples.{load_order, open_order, lay_order, retime_order, lift_order}

-- every history of calls keeps the limits of a sheet
abbrev pub HistoriesKeepLimits : Type 0
HistoriesKeepLimits = (z : Tables) (s : PlainSheet) → History z s → Limits z s

-- the refusals that lay can meet, and so the lead records of a file: 5, 6, 7 and 9
abbrev pub from_lay : Refusal → Bool
from_lay r = let n = number_of r in (n == 5 || n == 6) || (n == 7 || n == 9)

-- the sheet s after a call that was refused by r: a file refused at a lead record leaves it empty, and all else as it was
abbrev pub left_by : PlainSheet → Call → Refusal → PlainSheet
left_by s (open_with signs places) r = s
left_by s (load bs) r = cond (from_lay r) empty s
left_by s (at_place k e) r = s
left_by s choose r = s

-- a refused call leaves the sheet as it was, or empty if it was load and refused at a lead record
abbrev pub RefusedCallsLeave : Type 0
RefusedCallsLeave = (z : Tables) (s : PlainSheet) (c : Call) (r : Refusal) → (step z s c).refusal ≡ Some r → (step z s c).sheet ≡ left_by s c r

-- t is s but for place k, which was edited
pub record OnePlaceEdited (s : PlainSheet) (k : ℕ) (e : Edit) (t : PlainSheet) : Type 0 where
  pub inside : k < length s.leads
  pub signs : t.signs ≡ s.signs
  pub count : length t.leads ≡ length s.leads
  pub here : held t k ≡ edited e (held s k)
  pub elsewhere : (j : ℕ) → (j ≢ k) → held t j ≡ held s j

-- an accepted lay, retime or lift changes its place and nothing else
abbrev pub EditsChangeOnePlace : Type 0
EditsChangeOnePlace = (z : Tables) (s : PlainSheet) (k : ℕ) (e : Edit) → (step z s (at_place k e)).refusal ≡ None →
    OnePlaceEdited s k e (step z s (at_place k e)).sheet

-- a sheet written to a file is a file of bytes and loads again, over whatever was held before and into any tables with room for it
abbrev pub WrittenSheetsLoad : Type 0
WrittenSheetsLoad = (z y : Tables) (s t : PlainSheet) → History z s → length s.signs ≤ y.nodes → length s.leads ≤ y.places →
    Handed (load (written s)) × (step y t (load (written s)) ≡ accepted s)

module _ {D : Type 0} (K : Kind D) where
  -- the spread of every sheet is a sound wiring, so that no refusal 3, 5 or 6 is left for it
  abbrev pub SpreadsAreSound : Type 0
  SpreadsAreSound = (z : Tables) (s : PlainSheet) → History z s → Sound K (spread K s)

  -- the paths of every spread are the pairs of a circuit path and a launched edge
  abbrev pub PathsArePairs : Type 0
  PathsArePairs = (s : PlainSheet) → OneToOne (sign_at s) K (circuit s)

-- the sample stands, what is just within the limits is accepted, and what breaks one rule is refused by that rule
pub record ExamplesStand : Type 0 where
  pub sample : SampleStands
  pub accepts : AllByRecursion Answered accepted_examples
  pub refuses_openings : AllByRecursion Answered refused_openings
  pub refuses_edits : AllByRecursion Answered refused_edits

-- of two rules broken at once, each call tells the one that its order has first
pub record CallsJudgeInOrder : Type 0 where
  pub load_in_order : AllByRecursion Answered load_order
  pub open_in_order : AllByRecursion Answered open_order
  pub lay_in_order : AllByRecursion Answered lay_order
  pub retime_in_order : AllByRecursion Answered retime_order
  pub lift_in_order : AllByRecursion Answered lift_order
