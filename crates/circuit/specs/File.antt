-- The sheet file, byte by byte. Every field is a number in bytes, the highest byte first. A header of 11 bytes comes first,
-- then one sign byte for each node, then the lead records, 15 bytes each.
use Rattle.std.specs.Prelude.{ℕ, zero, suc, ◌+◌, ◌*◌, ◌/◌, ◌%◌, ◌≤◌, List, [], ◌∷◌, ◌++◌, length, take, drop}
use Rattle.std.specs.List.{flat_map}
use Rattle.std.specs.Int.Digits.{number_from_digits}
use Rattle.wiring.specs.declared.Lead.{Lead}
use Rattle.circuit.specs.declared.Times.{Times}

-- a number that is a byte
abbrev pub Byte : ℕ → Type 0
Byte b = b ≤ 255

-- the number in a field: so many bytes wide, from the byte `start` on
abbrev pub field : ℕ → ℕ → List ℕ → ℕ
field start width bs = number_from_digits 256 (take width (drop start bs))

-- a number as a field of so many bytes
abbrev pub bytes : ℕ → ℕ → List ℕ
bytes zero n = []
bytes (suc width) n = bytes width (n / 256) ++ (n % 256 ∷ [])

-- what the first 11 bytes say: version (1 byte), length of the whole file (4), counts of nodes, places and leads (2 each)
pub record Header : Type 0 where
  pub version : ℕ
  pub size : ℕ
  pub nodes : ℕ
  pub places : ℕ
  pub leads : ℕ

-- the header that bytes begin with, and the bytes of a header
abbrev pub header_in : List ℕ → Header
header_in bs = record { version = field 0 1 bs; size = field 1 4 bs; nodes = field 5 2 bs; places = field 7 2 bs; leads = field 9 2 bs }

abbrev pub header_bytes : Header → List ℕ
header_bytes h = bytes 1 h.version ++ (bytes 4 h.size ++ (bytes 2 h.nodes ++ (bytes 2 h.places ++ bytes 2 h.leads)))

-- the signs, one byte for each node, behind the header
abbrev pub signs_in : List ℕ → List ℕ
signs_in bs = take (header_in bs).nodes (drop 11 bs)

-- where the lead record i begins in a file with n nodes; with the count of leads for i, the length of the whole file
abbrev pub record_start : ℕ → ℕ → ℕ
record_start n i = 11 + n + 15 * i

-- what a lead record says: the number of a place, and the lead for it
pub record LeadRecord : Type 0 where
  pub place : ℕ
  pub lead : Lead Times

-- the lead record that bytes begin with, and its bytes, 15 of them: number, tail, head (2 each), rise, fall (4 each), contacts (1)
abbrev pub record_in : List ℕ → LeadRecord
record_in bs = record {
  place = field 0 2 bs;
  lead = record { tail = field 2 2 bs; head = field 4 2 bs; delay = record { rise = field 6 4 bs; fall = field 10 4 bs; contacts = field 14 1 bs } };
}

abbrev pub record_bytes : LeadRecord → List ℕ
record_bytes r = bytes 2 r.place ++ (bytes 2 r.lead.tail ++ (bytes 2 r.lead.head ++
    (bytes 4 r.lead.delay.rise ++ (bytes 4 r.lead.delay.fall ++ bytes 1 r.lead.delay.contacts))))

-- the first n lead records of these bytes, one after another
abbrev pub first_records : ℕ → List ℕ → List LeadRecord
first_records zero bs = []
first_records (suc n) bs = record_in bs ∷ first_records n (drop 15 bs)

-- the lead records of a file: as many as its header says, behind the signs
abbrev pub records_in : List ℕ → List LeadRecord
records_in bs = first_records (header_in bs).leads (drop (record_start (header_in bs).nodes 0) bs)

-- the header of a file with these signs, count of places and lead records
abbrev pub header_for : List ℕ → ℕ → List LeadRecord → Header
header_for signs places rs =
    record { version = 1; size = record_start (length signs) (length rs); nodes = length signs; places = places; leads = length rs }

-- the whole file
abbrev pub file_bytes : List ℕ → ℕ → List LeadRecord → List ℕ
file_bytes signs places rs = header_bytes (header_for signs places rs) ++ (signs ++ flat_map record_bytes rs)
