-- Delays as text.
use Rattle.std.specs.Prelude.{ℕ, List, ◌∷◌, ◌++◌, decimal}
use Rattle.delay.specs.declared.Picoseconds.{Picoseconds}
use Rattle.delay.specs.declared.Contact.{Contact}

-- the picoseconds in decimal
abbrev pub picoseconds_text : Picoseconds → List ℕ
picoseconds_text d = decimal d.0

-- the picoseconds, a slash (byte 47) and the contacts
abbrev pub contact_text : Contact → List ℕ
contact_text d = decimal d.picoseconds ++ (47 ∷ decimal d.contacts)
