-- Reading the file form gives back what was written in it.
use Rattle.std.proofs.Common.{◌≡◌, ℕ, zero, suc, ◌*◌, ◌/◌, ◌%◌, ◌<◌, List, [], ◌∷◌, ◌++◌, length, refl, ap₂, arith}
use Rattle.std.specs.List.{flat_map, All, AllByRecursion}
use Rattle.std.proofs.lemmas.List.{length-append}
use Rattle.std.proofs.lemmas.List.Elements.{All-nil, All-push, All-append}
use Rattle.circuit.specs.File.{Byte, field, bytes, Header, header_in, header_bytes, record_start, LeadRecord, record_in, record_bytes, first_records}
use Rattle.circuit.specs.File.{header_for, file_bytes}

-- a lead record whose numbers fit their fields
pub record RecordFits (r : LeadRecord) : Type 0 where
  pub place : r.place < 65536
  pub tail : r.lead.tail < 65536
  pub head : r.lead.head < 65536
  pub rise : r.lead.delay.rise < 4294967296
  pub fall : r.lead.delay.fall < 4294967296
  pub contacts : r.lead.delay.contacts < 256

-- a header whose numbers fit their fields
pub record HeaderFits (h : Header) : Type 0 where
  pub version : h.version < 256
  pub size : h.size < 4294967296
  pub nodes : h.nodes < 65536
  pub places : h.places < 65536
  pub leads : h.leads < 65536

one_byte : (n : ℕ) (bs : List ℕ) → n < 256 → field 0 1 (bytes 1 n ++ bs) ≡ n
one_byte n bs h = omega arith

two_bytes : (n : ℕ) (bs : List ℕ) → n < 65536 → field 0 2 (bytes 2 n ++ bs) ≡ n
two_bytes n bs h = omega arith

four_bytes : (n : ℕ) (bs : List ℕ) → n < 4294967296 → field 0 4 (bytes 4 n ++ bs) ≡ n
four_bytes n bs h = omega arith

record_back : (r : LeadRecord) (bs : List ℕ) → RecordFits r → record_in (record_bytes r ++ bs) ≡ r
record_back r bs f =
    let l = r.lead in let t = l.delay in
    let p = two_bytes r.place bs f.place in
    let a = two_bytes l.tail bs f.tail in
    let b = two_bytes l.head bs f.head in
    let u = four_bytes t.rise bs f.rise in
    let d = four_bytes t.fall bs f.fall in
    let c = one_byte t.contacts bs f.contacts in
    λ i. record { place = p i; lead = record { tail = a i; head = b i; delay = record { rise = u i; fall = d i; contacts = c i } } }

pub records_back : (rs : List LeadRecord) → AllByRecursion RecordFits rs → first_records (length rs) (flat_map record_bytes rs) ≡ rs
records_back [] h = refl
records_back (r ∷ rs) h = ap₂ ◌∷◌ (record_back r (flat_map record_bytes rs) h.0) (records_back rs h.1)

pub header_back : (h : Header) (bs : List ℕ) → HeaderFits h → header_in (header_bytes h ++ bs) ≡ h
header_back h bs f =
    let a = one_byte h.version bs f.version in
    let b = four_bytes h.size bs f.size in
    let c = two_bytes h.nodes bs f.nodes in
    let d = two_bytes h.places bs f.places in
    let e = two_bytes h.leads bs f.leads in
    λ i. record { version = a i; size = b i; nodes = c i; places = d i; leads = e i }

records_length : (rs : List LeadRecord) → length (flat_map record_bytes rs) ≡ 15 * length rs
records_length [] = refl
records_length (r ∷ rs) = let h = records_length rs in omega arith

pub file_length : (signs : List ℕ) (places : ℕ) (rs : List LeadRecord) → length (file_bytes signs places rs) ≡ record_start (length signs) (length rs)
file_length signs places rs = let a = length-append signs (flat_map record_bytes rs) in let b = records_length rs in omega arith

-- a field is made of bytes, with bytes behind it too
field_bytes : (width n : ℕ) → All Byte (bytes width n)
field_bytes zero n = All-nil Byte
field_bytes (suc width) n = All-push Byte (bytes width (n / 256)) (n % 256) (field_bytes width (n / 256)) (omega arith)

field_then : (width n : ℕ) (bs : List ℕ) → All Byte bs → All Byte (bytes width n ++ bs)
field_then width n bs h = All-append Byte (bytes width n) bs (field_bytes width n) h

header_is_bytes : (h : Header) → All Byte (header_bytes h)
header_is_bytes h =
    let from_leads = bytes 2 h.leads in
    let from_Places = bytes 2 h.places ++ from_leads in
    let from_nodes = bytes 2 h.nodes ++ from_Places in
    let from_size = bytes 4 h.size ++ from_nodes in
    field_then 1 h.version from_size (field_then 4 h.size from_nodes
    (field_then 2 h.nodes from_Places (field_then 2 h.places from_leads (field_bytes 2 h.leads))))

record_is_bytes : (r : LeadRecord) → All Byte (record_bytes r)
record_is_bytes r =
    let l = r.lead in let t = l.delay in
    let from_contacts = bytes 1 t.contacts in
    let from_fall = bytes 4 t.fall ++ from_contacts in
    let from_rise = bytes 4 t.rise ++ from_fall in
    let from_head = bytes 2 l.head ++ from_rise in
    let from_tail = bytes 2 l.tail ++ from_head in
    field_then 2 r.place from_tail (field_then 2 l.tail from_head (field_then 2 l.head from_rise
    (field_then 4 t.rise from_fall (field_then 4 t.fall from_contacts (field_bytes 1 t.contacts)))))

records_are_bytes : (rs : List LeadRecord) → All Byte (flat_map record_bytes rs)
records_are_bytes [] = All-nil Byte
records_are_bytes (r ∷ rs) = All-append Byte (record_bytes r) (flat_map record_bytes rs) (record_is_bytes r) (records_are_bytes rs)

pub file_is_bytes : (signs : List ℕ) (places : ℕ) (rs : List LeadRecord) → All Byte signs → All Byte (file_bytes signs places rs)
file_is_bytes signs places rs h =
    All-append Byte (header_bytes (header_for signs places rs)) (signs ++ flat_map record_bytes rs) (header_is_bytes (header_for signs places rs))
    (All-append Byte signs (flat_map record_bytes rs) h (records_are_bytes rs))
