-- A sheet written to a file and loaded again is the same sheet.
use Rattle.std.proofs.Common.{◌≡◌, ℕ, suc, ◌+◌, ◌≤◌, not, ltb, List, [], ◌∷◌, ◌++◌, length, take, drop, replicate, Some, None, Option, sym, refl, ap, ◌∙◌, subst, ap₂, arith}
use Rattle.std.specs.List.{flat_map, AllByRecursion}
use Rattle.std.proofs.lemmas.List.{append_assoc, length-append, get_or_at, set_at, take_at, drop_at, drop-drop}
use Rattle.std.proofs.lemmas.List.Elements.{All-from_recursion, recursion_from_All, All-weaker}
use Rattle.std.proofs.lemmas.Bool.{and_from, lt-ltb, le-leb, eq-eqb}
use Rattle.wiring.specs.declared.Lead.{Lead}
use Rattle.wiring.specs.Net.{stands}
use Rattle.circuit.specs.declared.Times.{Times}
use Rattle.circuit.specs.File.{Byte, Header, header_in, record_start, signs_in, record_bytes, first_records, LeadRecord, records_in, header_for}
use Rattle.circuit.specs.Sheet.{PlainSheet, empty, held, records_from, written}
use Rattle.circuit.specs.Sheet.{Tables, most_nodes, most_places, most_picoseconds, LeadLimits, PlaceLimits, Limits}
use Rattle.circuit.specs.Calls.{lay, load, accepted, file_rules, load_rules, edit_rules, fresh, edit_at, laid, step}
use Rattle.circuit.proofs.Judging.{AllKept, judge_kept, both_at_most, all_signs_decides}
use Rattle.circuit.proofs.FileForm.{RecordFits, records_back, header_back, file_length, file_is_bytes}

abbrev Places : Type 0
Places = List (Option (Lead Times))

abbrev sheet : List ℕ → Places → PlainSheet
sheet signs leads = record { signs = signs; leads = leads }

module _ (signs : List ℕ) where
  -- a lead within its limits keeps the rules of lay at a vacant place
  lay_kept : (front back : Places) (k : ℕ) (l : Lead Times) → length front ≡ k → LeadLimits (length signs) l →
      AllKept (edit_rules (sheet signs (front ++ (None ∷ back))) k (lay l))
  lay_kept front back k l e o =
      let ps : Places = front ++ (None ∷ back) in let n = length signs in
      let a = length-append front (None ∷ back) in
      let vacant : held (sheet signs ps) k ≡ None = get_or_at front None back None k e in (
        lt-ltb k (length ps) (omega arith),
        (
          ap (λ p. not (stands p)) vacant,
          (
            and_from (ltb l.tail l.head) (ltb l.head n) (lt-ltb l.tail l.head o.upwards) (lt-ltb l.head n o.inside),
            ((both_at_most l.delay.rise l.delay.fall most_picoseconds most_picoseconds).1 (o.rise, o.fall), tt),
          ),
        ),
      )

  -- with the places of front filled, the records of the rest fill the rest
  laid_all : (front rest : Places) (k : ℕ) → length front ≡ k → AllByRecursion (PlaceLimits (length signs)) rest →
      laid (sheet signs (front ++ replicate (length rest) None)) (records_from k rest) ≡ accepted (sheet signs (front ++ rest))
  laid_all front [] k e h = refl
  laid_all front (Some l ∷ rest) k e h =
      let back : Places = replicate (length rest) None in
      let more = records_from (suc k) rest in
      let before = sheet signs (front ++ (None ∷ back)) in
      let a = length-append front (Some l ∷ []) in
      judge_kept (edit_rules before k (lay l)) empty (laid (edit_at before k (lay l)) more) (lay_kept front back k l e h.0)
      ∙ (ap (λ ps. laid (sheet signs ps) more) (set_at front None back (Some l) k e ∙ sym (append_assoc front (Some l ∷ []) back))
      ∙ (laid_all (front ++ (Some l ∷ [])) rest (suc k) (omega arith) h.1
      ∙ ap (λ ps. accepted (sheet signs ps)) (append_assoc front (Some l ∷ []) rest)))
  laid_all front (None ∷ rest) k e h =
      let back : Places = replicate (length rest) None in
      let a = length-append front (None ∷ []) in
      ap (λ ps. laid (sheet signs ps) (records_from (suc k) rest)) (sym (append_assoc front (None ∷ []) back))
      ∙ (laid_all (front ++ (None ∷ [])) rest (suc k) (omega arith) h.1
      ∙ ap (λ ps. accepted (sheet signs ps)) (append_assoc front (None ∷ []) rest))

-- the leads of a sheet within its limits fit their fields
records_fit : (n k : ℕ) (ps : Places) → n ≤ most_nodes → k + length ps ≤ most_places → AllByRecursion (PlaceLimits n) ps → AllByRecursion RecordFits (records_from k ps)
records_fit n k [] i j h = tt
records_fit n k (Some l ∷ ps) i j h = let o = h.0 in (
  record {
    place = omega arith;
    tail = omega (arith, o.upwards, o.inside);
    head = omega (arith, o.inside);
    rise = omega (arith, o.rise);
    fall = omega (arith, o.fall);
    contacts = omega (arith, o.contacts);
  },
  records_fit n (suc k) ps i (omega arith) h.1,
)
records_fit n k (None ∷ ps) i j h = records_fit n (suc k) ps i (omega arith) h.1

few_records : (k : ℕ) (ps : Places) → length (records_from k ps) ≤ length ps
few_records k [] = omega arith
few_records k (Some l ∷ ps) = let h = few_records (suc k) ps in omega arith
few_records k (None ∷ ps) = let h = few_records (suc k) ps in omega arith

module _ {z : Tables} {s : PlainSheet} (h : Limits z s) where
  abbrev n : ℕ
  n = length s.signs

  abbrev rs : List LeadRecord
  rs = records_from 0 s.leads

  abbrev head : Header
  head = header_for s.signs (length s.leads) rs

  header_is : header_in (written s) ≡ head
  header_is =
      let f = few_records 0 s.leads in let a = h.few_nodes in let b = h.few_places in
      header_back head (s.signs ++ flat_map record_bytes rs)
      (record { version = omega arith; size = omega arith; nodes = omega arith; places = omega arith; leads = omega arith })

  signs_are : signs_in (written s) ≡ s.signs
  signs_are =
      ap (λ (x : Header). take x.nodes (s.signs ++ flat_map record_bytes rs)) header_is ∙ take_at s.signs (flat_map record_bytes rs) n refl

  records_are : records_in (written s) ≡ rs
  records_are =
      let behind : record_start n 0 ≡ 11 + n = omega arith in
      let rest : drop (record_start n 0) (written s) ≡ flat_map record_bytes rs =
      ap (λ i. drop i (written s)) behind ∙ (sym (drop-drop n 11 (written s)) ∙ drop_at s.signs (flat_map record_bytes rs) n refl) in
      ap (λ (x : Header). first_records x.leads (drop (record_start x.nodes 0) (written s))) header_is
      ∙ (ap (first_records (length rs)) rest ∙ records_back rs (records_fit n 0 s.leads h.few_nodes (omega (arith, h.few_places)) h.leads))

  rules_kept : (y : Tables) → n ≤ y.nodes → length s.leads ≤ y.places → AllKept (load_rules y (written s))
  rules_kept y a b =
      let size = length (written s) in
      let is : size ≡ record_start n (length rs) = file_length s.signs (length s.leads) rs in
      let kept : AllKept (file_rules y size head s.signs) = (
        le-leb 11 size (omega arith),
        (
          refl,
          (
            eq-eqb head.size size (sym is),
            (
              (both_at_most n (length s.leads) most_nodes most_places).1 (h.few_nodes, h.few_places),
              ((both_at_most n (length s.leads) y.nodes y.places).1 (a, b), (eq-eqb head.size head.size refl, ((all_signs_decides s.signs).1 h.signs, tt))),
            ),
          ),
        ),
      ) in
      subst AllKept (sym (ap₂ (file_rules y size) header_is signs_are)) kept

  pub written_is_bytes : AllByRecursion Byte (written s)
  written_is_bytes = recursion_from_All Byte (written s) (file_is_bytes s.signs (length s.leads) rs
      (All-weaker (λ x. x ≤ 1) Byte (λ x i. omega arith) s.signs (All-from_recursion (λ x. x ≤ 1) s.signs h.signs)))

  -- whatever was held before, and into any tables with room
  pub reloads : (y : Tables) (t : PlainSheet) → n ≤ y.nodes → length s.leads ≤ y.places → step y t (load (written s)) ≡ accepted s
  reloads y t a b =
      let bs = written s in
      let opened = ap₂ (λ (x : Header) signs. laid (fresh signs x.places) (records_in bs)) header_is signs_are in
      judge_kept (load_rules y bs) t (laid (fresh (signs_in bs) (header_in bs).places) (records_in bs)) (rules_kept y a b)
      ∙ (opened
      ∙ (ap (laid (fresh s.signs (length s.leads))) records_are
      ∙ laid_all s.signs [] s.leads 0 refl h.leads))
