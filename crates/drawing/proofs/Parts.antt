-- What the tests of the drawing say of a place: its lead, its marks and what is left there.
use Rattle.std.proofs.Common.{◌≡◌, ℕ, ◌≤◌, true, ltb, ap, ◌∙◌, ⊎_elim}
use Rattle.std.proofs.lemmas.Bool.{both_ways, and_parts, and_from, ltb-true, eq-eqb}
use Rattle.wiring.specs.declared.Lead.{Lead}
use Rattle.wiring.specs.Net.{Net, Holds, tail_is, head_is, leaves, enters}
use Rattle.wiring.specs.Lengths.{Marks}
use Rattle.wiring.specs.Loads.{starts, is_start_lead, fed_in, drain_out}
use Rattle.wiring.specs.Lists.{Lowest, tail_in, head_in, tail_at, head_node, begins, goes}
use Rattle.wiring.proofs.Ends.{lead_or_none, head_from, tail_from}

-- k is a draining lead out of v; a fed lead into v
pub record Out {D : Type 0} (N : Net D) (m : Marks) (v k : ℕ) : Type 0 where
  pub lead : Lead D
  pub holds : Holds N k lead
  pub begins : lead.tail ≡ v
  pub drains : (m k).0 ≡ true

pub record In {D : Type 0} (N : Net D) (m : Marks) (v k : ℕ) : Type 0 where
  pub lead : Lead D
  pub holds : Holds N k lead
  pub ends : lead.head ≡ v
  pub fed : (m k).1 ≡ true

module _ {D : Type 0} (N : Net D) (m : Marks) where
  pub out_parts : (v k : ℕ) → drain_out N m v k ≡ true → Out N m v k
  out_parts v k e =
      let p = and_parts (leaves N v k) (m k).0 e in let l = tail_from v (N.at k) p.0 in
      record { lead = l.0; holds = l.1; begins = l.2; drains = p.1 }

  pub out_from : (v k : ℕ) → Out N m v k → drain_out N m v k ≡ true
  out_from v k o = and_from (leaves N v k) (m k).0 (ap (tail_is v) o.holds ∙ eq-eqb o.lead.tail v o.begins) o.drains

  pub in_parts : (v k : ℕ) → fed_in N m v k ≡ true → In N m v k
  in_parts v k e =
      let p = and_parts (enters N v k) (m k).1 e in let l = head_from v (N.at k) p.0 in
      record { lead = l.0; holds = l.1; ends = l.2; fed = p.1 }

  pub in_from : (v k : ℕ) → In N m v k → fed_in N m v k ≡ true
  in_from v k o = and_from (enters N v k) (m k).1 (ap (head_is v) o.holds ∙ eq-eqb o.lead.head v o.ends) o.fed

  pub goes_parts : (left : ℕ → ℕ) (v k : ℕ) → Lowest (goes N m left v) k → Out N m v k × (1 ≤ left k)
  goes_parts left v k w =
      let p = and_parts (drain_out N m v k) (ltb 0 (left k)) w.holds in
      (out_parts v k p.0, ltb-true 0 (left k) p.1)

  -- a start lead is a lead
  start_lead : (k : ℕ) → is_start_lead N m k ≡ true → (l : Lead D) × Holds N k l
  start_lead k e = ⊎_elim (λ h. h) (λ n. absurd (both_ways (is_start_lead N m k) (ap (starts N (m k)) n) e)) (lead_or_none N k)

  -- a core begins with a start lead that has something left
  pub record First (left : ℕ → ℕ) (k : ℕ) : Type 0 where
    pub lead : Lead D
    pub holds : Holds N k lead
    pub starts : is_start_lead N m k ≡ true
    pub some : 1 ≤ left k

  pub first_parts : (left : ℕ → ℕ) (k : ℕ) → Lowest (begins N m left) k → First left k
  first_parts left k w =
      let p = and_parts (is_start_lead N m k) (ltb 0 (left k)) w.holds in let l = start_lead k p.0 in
      record { lead = l.0; holds = l.1; starts = p.0; some = ltb-true 0 (left k) p.1 }

pub tail_of : {D : Type 0} (N : Net D) (k : ℕ) (l : Lead D) → Holds N k l → tail_at N k ≡ l.tail
tail_of N k l h = ap tail_in h

pub head_of : {D : Type 0} (N : Net D) (k : ℕ) (l : Lead D) → Holds N k l → head_node N k ≡ l.head
head_of N k l h = ap head_in h
