-- Every history of calls keeps the limits of a sheet.
use Rattle.std.proofs.Common.{◌≡◌, ℕ, zero, suc, ◌≤◌, true, ltb, List, [], ◌∷◌, length, take, drop, set, replicate, Some, None, Option, subst, le_trans, arith}
use Rattle.std.specs.List.{All, AllByRecursion}
use Rattle.std.specs.Int.Digits.{number_from_digits}
use Rattle.std.proofs.lemmas.List.{length-set, length-replicate, length-take}
use Rattle.std.proofs.lemmas.List.Elements.{All-from_recursion, recursion_from_All, All-head, All-replicate, All-set, All-drop}
use Rattle.std.proofs.lemmas.Bool.{and_parts, ltb-true}
use Rattle.wiring.specs.declared.Lead.{Lead}
use Rattle.wiring.proofs.Ends.{below_places}
use Rattle.circuit.specs.declared.Times.{Times}
use Rattle.circuit.specs.File.{Byte, header_in, signs_in, record_start, LeadRecord, first_records, records_in}
use Rattle.circuit.specs.Sheet.{PlainSheet, empty, held, Tables, most_nodes, most_places, most_picoseconds, LeadLimits, PlaceLimits, Limits}
use Rattle.circuit.specs.Calls.{Edit, lay, retime, lift, Call, open_with, load, at_place, choose, Outcome, accepted, all_signs, in_size, in_room, in_time}
use Rattle.circuit.specs.Calls.{open_rules, load_rules, edit_rules, fresh, retimed, edited, edit_at, laid, step}
use Rattle.circuit.specs.Histories.{further, HandedEdit, Handed, History}
use Rattle.circuit.specs.Spread.{circuit}
use Rattle.circuit.proofs.Judging.{AllKept, judge_either, both_at_most, all_signs_decides}

-- a new sheet of these signs, which are no more than n
fresh_limits : (z : Tables) (signs : List ℕ) (n m : ℕ) → length signs ≤ n → in_size n m ≡ true → in_room z n m ≡ true → all_signs signs ≡ true →
    Limits z (fresh signs m)
fresh_limits z signs n m few size room e =
    let a = (both_at_most n m most_nodes most_places).0 size in
    let b = (both_at_most n m z.nodes z.places).0 room in
    let l : length {A = Option (Lead Times)} (replicate m None) ≡ m = length-replicate m None in
    record {
      few_nodes = le_trans few a.0;
      few_places = omega arith;
      node_room = le_trans few b.0;
      place_room = omega arith;
      signs = (all_signs_decides signs).0 e;
      leads = recursion_from_All (PlaceLimits (length signs)) (replicate m None) (All-replicate (PlaceLimits (length signs)) m None tt);
    }

retimed_limits : (n : ℕ) (t : Times) (p : Option (Lead Times)) → PlaceLimits n p → in_time t ≡ true → Byte t.contacts → PlaceLimits n (retimed t p)
retimed_limits n t (Some l) h e c =
    let u = (both_at_most t.rise t.fall most_picoseconds most_picoseconds).0 e in
    record { upwards = h.upwards; inside = h.inside; rise = u.0; fall = u.1; contacts = c }
retimed_limits n t None h e c = tt

edited_limits : (z : Tables) (s : PlainSheet) (k : ℕ) (e : Edit) → Limits z s → HandedEdit e → AllKept (edit_rules s k e) →
    PlaceLimits (length s.signs) (edited e (held s k))
edited_limits z s k (lay l) h c kept =
    let n = length s.signs in
    let o = and_parts (ltb l.tail l.head) (ltb l.head n) kept.1.1.0 in
    let t = (both_at_most l.delay.rise l.delay.fall most_picoseconds most_picoseconds).0 kept.1.1.1.0 in
    record { upwards = ltb-true l.tail l.head o.0; inside = ltb-true l.head n o.1; rise = t.0; fall = t.1; contacts = c }
edited_limits z s k (retime t) h c kept =
    let n = length s.signs in
    let held_limits = All-from_recursion (PlaceLimits n) s.leads h.leads k None (ltb-true k (length s.leads) kept.0) in
    retimed_limits n t (held s k) held_limits kept.1.1.0 c
edited_limits z s k lift h c kept = tt

edit_limits : (z : Tables) (s : PlainSheet) (k : ℕ) (e : Edit) → Limits z s → HandedEdit e → AllKept (edit_rules s k e) → Limits z (edit_at s k e)
edit_limits z s k e h c kept =
    let n = length s.signs in let p = edited e (held s k) in
    let l = length-set s.leads k p in
    record {
      few_nodes = h.few_nodes;
      few_places = omega (arith, h.few_places);
      node_room = h.node_room;
      place_room = omega (arith, h.place_room);
      signs = h.signs;
      leads = recursion_from_All (PlaceLimits n) (set s.leads k p)
          (All-set (PlaceLimits n) s.leads k p (edited_limits z s k e h c kept) (All-from_recursion (PlaceLimits n) s.leads h.leads));
    }

empty_limits : (z : Tables) → Limits z empty
empty_limits z = record { few_nodes = omega arith; few_places = omega arith; node_room = omega arith; place_room = omega arith; signs = tt; leads = tt }

abbrev ByteContacts : LeadRecord → Type 0
ByteContacts r = Byte r.lead.delay.contacts

abbrev SheetLimits : Tables → Outcome → Type 0
SheetLimits z o = Limits z o.sheet

laid_limits : (z : Tables) (s : PlainSheet) (rs : List LeadRecord) → Limits z s → AllByRecursion ByteContacts rs → SheetLimits z (laid s rs)
laid_limits z s [] h c = h
laid_limits z s (r ∷ rs) h c =
    let e = lay r.lead in
    judge_either (SheetLimits z) (edit_rules s r.place e) empty (laid (edit_at s r.place e) rs) (λ _. empty_limits z)
    (λ kept. laid_limits z (edit_at s r.place e) rs (edit_limits z s r.place e h c.0 kept) c.1)

one_byte : (bs : List ℕ) → All Byte bs → Byte (number_from_digits 256 (take 1 bs))
one_byte [] h = omega arith
one_byte (b ∷ bs) h = omega (arith, All-head Byte b bs h)

byte_contacts : (n : ℕ) (bs : List ℕ) → All Byte bs → AllByRecursion ByteContacts (first_records n bs)
byte_contacts zero bs h = tt
byte_contacts (suc n) bs h =
    (one_byte (drop 14 bs) (All-drop Byte 14 bs h), byte_contacts n (drop 15 bs) (All-drop Byte 15 bs h))

loaded_limits : (z : Tables) (bs : List ℕ) → All Byte bs → AllKept (load_rules z bs) →
    SheetLimits z (laid (fresh (signs_in bs) (header_in bs).places) (records_in bs))
loaded_limits z bs b kept =
    let h = header_in bs in let behind = record_start h.nodes 0 in
    let few : length (signs_in bs) ≤ h.nodes = simp length-take (omega arith) in
    let rules = kept.1.1.1 in
    laid_limits z (fresh (signs_in bs) h.places) (records_in bs)
    (fresh_limits z (signs_in bs) h.nodes h.places few rules.0 rules.1.0 rules.1.1.1.0)
    (byte_contacts h.leads (drop behind bs) (All-drop Byte behind bs b))

step_limits : (z : Tables) (s : PlainSheet) (c : Call) → Limits z s → Handed c → SheetLimits z (step z s c)
step_limits z s (open_with signs m) h c =
    judge_either (SheetLimits z) (open_rules z signs m) s (accepted (fresh signs m)) (λ _. h)
    (λ kept. fresh_limits z signs (length signs) m (omega arith) kept.0 kept.1.0 kept.1.1.0)
step_limits z s (load bs) h c =
    judge_either (SheetLimits z) (load_rules z bs) s (laid (fresh (signs_in bs) (header_in bs).places) (records_in bs)) (λ _. h)
    (loaded_limits z bs (All-from_recursion Byte bs c))
step_limits z s (at_place k e) h c =
    judge_either (SheetLimits z) (edit_rules s k e) s (accepted (edit_at s k e)) (λ _. h) (edit_limits z s k e h c)
step_limits z s choose h c = h

further_limits : (z : Tables) (s : PlainSheet) (cs : List Call) → Limits z s → AllByRecursion Handed cs → Limits z (further z s cs)
further_limits z s [] h c = h
further_limits z s (x ∷ xs) h c = further_limits z (step z s x).sheet xs (step_limits z s x h c.0) c.1

pub history_limits : {z : Tables} {s : PlainSheet} → History z s → Limits z s
history_limits {z} h = subst (Limits z) h.makes (further_limits z empty h.calls (empty_limits z) h.handed)

-- a lead that stands keeps the limits
pub lead_limits : {z : Tables} {s : PlainSheet} → Limits z s → (k : ℕ) (l : Lead Times) → held s k ≡ Some l → LeadLimits (length s.signs) l
lead_limits {s = s} h k l e =
    let n = length s.signs in
    subst (PlaceLimits n) e (All-from_recursion (PlaceLimits n) s.leads h.leads k None (below_places (circuit s) k l e))
