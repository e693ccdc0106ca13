-- Histories: the sheets that calls make of an empty one.
use Rattle.std.specs.Prelude.{◌≡◌, List, [], ◌∷◌}
use Rattle.std.specs.List.{AllByRecursion}
use Rattle.circuit.specs.File.{Byte}
use Rattle.circuit.specs.Sheet.{PlainSheet, empty, Tables}
use Rattle.circuit.specs.Calls.{Edit, lay, retime, lift, Call, open_with, load, at_place, choose, step}

-- the sheet s after more calls
abbrev pub further : Tables → PlainSheet → List Call → PlainSheet
further z s [] = s
further z s (c ∷ cs) = further z (step z s c).sheet cs

-- the sheet after these calls, from an empty one on
abbrev pub after : Tables → List Call → PlainSheet
after z cs = further z empty cs

-- what a caller can hand over: contacts that are a byte, and a file of bytes
abbrev pub HandedEdit : Edit → Type 0
HandedEdit (lay l) = Byte l.delay.contacts
HandedEdit (retime t) = Byte t.contacts
HandedEdit lift = Unit {0}

abbrev pub Handed : Call → Type 0
Handed (open_with signs places) = Unit {0}
Handed (load bs) = AllByRecursion Byte bs
Handed (at_place k e) = HandedEdit e
Handed choose = Unit {0}

-- s is what some calls, refused ones among them, make of an empty sheet in these tables
pub record History (z : Tables) (s : PlainSheet) : Type 0 where
  pub calls : List Call
  pub handed : AllByRecursion Handed calls
  pub makes : after z calls ≡ s
