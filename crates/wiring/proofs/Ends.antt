-- Which leads enter and leave a node, and what inputs, outputs and bare nodes are.
use Rattle.std.proofs.Common.{◌≡◌, ℕ, ◌<◌, ◌≤◌, Bool, true, false, not, Some, None, Decides, Option, sym, refl, ap, ◌∙◌, ◌⊎◌, inl, inr, ⊎_elim, arith}
use Rattle.std.proofs.lemmas.Bool.{cases_lt, both_ways, and_parts, and_from, not-true, not_from_false, eqb-true, eq-eqb}
use Rattle.std.proofs.lemmas.Bool.Decides.{Decides-below_or, Decides-below_and}
use Rattle.std.proofs.lemmas.Option.{none-some}
use Rattle.wiring.specs.declared.Lead.{Lead}
use Rattle.delay.specs.Kind.{Kind}
use Rattle.wiring.specs.Net.{Net, Holds, Sound, tail_is, head_is, leaves, enters, some_below, all_below, has_lead_in, has_lead_out, is_input, is_output, is_inner, is_bare}

-- a lead into v
pub record LeadIn {D : Type 0} (N : Net D) (v : ℕ) : Type 0 where
  pub place : ℕ
  pub lead : Lead D
  pub holds : Holds N place lead
  pub ends : lead.head ≡ v

-- a lead out of v
pub record LeadOut {D : Type 0} (N : Net D) (v : ℕ) : Type 0 where
  pub place : ℕ
  pub lead : Lead D
  pub holds : Holds N place lead
  pub begins : lead.tail ≡ v

-- some number below n passes a test
pub some_below_decides : (P : ℕ → Bool) (n : ℕ) → Decides (some_below n P) ((k : ℕ) × (k < n) × (P k ≡ true))
some_below_decides P n = Decides-below_or P (λ k. P k ≡ true) (λ m. some_below m P) (λ k. (λ e. e, λ e. e)) refl (λ _. refl) n

-- all numbers below n pass a test
pub all_below_at : (n : ℕ) (P : ℕ → Bool) → all_below n P ≡ true → (k : ℕ) → k < n → P k ≡ true
all_below_at n P e = (Decides-below_and P (λ k. P k ≡ true) (λ m. all_below m P) (λ k. (λ x. x, λ x. x)) refl (λ _. refl) n).0 e

-- a lead whose head, or whose tail, is v
pub head_from : {D : Type 0} (v : ℕ) (o : Option (Lead D)) → head_is v o ≡ true → (l : Lead D) × (o ≡ Some l) × (l.head ≡ v)
head_from v (Some l) e = (l, refl, eqb-true l.head v e)
head_from v None e = absurd (both_ways false refl e)

pub tail_from : {D : Type 0} (v : ℕ) (o : Option (Lead D)) → tail_is v o ≡ true → (l : Lead D) × (o ≡ Some l) × (l.tail ≡ v)
tail_from v (Some l) e = (l, refl, eqb-true l.tail v e)
tail_from v None e = absurd (both_ways false refl e)

-- a place holds one lead only
pub one_lead : {D : Type 0} (N : Net D) (k : ℕ) {l m : Lead D} → Holds N k l → Holds N k m → l ≡ m
one_lead N k p q = cc

-- at a place stands a lead or none
pub lead_or_none : {D : Type 0} (N : Net D) (k : ℕ) → ((l : Lead D) × Holds N k l) ⊎ (N.at k ≡ None)
lead_or_none {D} N k = go (N.at k) refl
  where
    go : (o : Option (Lead D)) → N.at k ≡ o → ((l : Lead D) × Holds N k l) ⊎ (N.at k ≡ None)
    go (Some l) e = inl (l, e)
    go None e = inr e

module _ {D : Type 0} (N : Net D) where
  pub below_places : (k : ℕ) (l : Lead D) → Holds N k l → k < N.places
  below_places k l h = ⊎_elim (λ p. p) (λ p. absurd (none-some l (sym (N.vacant k p) ∙ h))) (cases_lt k N.places)

  pub lead_in : (v : ℕ) → has_lead_in N v ≡ true → LeadIn N v
  lead_in v e =
      let s = (some_below_decides (enters N v) N.places).0 e in
      let f = head_from v (N.at s.0) s.2 in
      record { place = s.0; lead = f.0; holds = f.1; ends = f.2 }

  pub lead_out : (v : ℕ) → has_lead_out N v ≡ true → LeadOut N v
  lead_out v e =
      let s = (some_below_decides (leaves N v) N.places).0 e in
      let f = tail_from v (N.at s.0) s.2 in
      record { place = s.0; lead = f.0; holds = f.1; begins = f.2 }

  pub has_in : (k : ℕ) (l : Lead D) (v : ℕ) → Holds N k l → l.head ≡ v → has_lead_in N v ≡ true
  has_in k l v h e = (some_below_decides (enters N v) N.places).1 (k, below_places k l h, ap (head_is v) h ∙ eq-eqb l.head v e)

  pub has_out : (k : ℕ) (l : Lead D) (v : ℕ) → Holds N k l → l.tail ≡ v → has_lead_out N v ≡ true
  has_out k l v h e = (some_below_decides (leaves N v) N.places).1 (k, below_places k l h, ap (tail_is v) h ∙ eq-eqb l.tail v e)

module _ {D : Type 0} {K : Kind D} {N : Net D} (S : Sound K N) where
  -- every lead ends inside, with its tail below
  pub head_inside : (k : ℕ) (l : Lead D) → Holds N k l → (l.tail < l.head) × (l.head < N.nodes) × (N.nodes ≤ 4096)
  head_inside k l h = (S.upwards k l h, S.inside k l h, S.few_nodes)

  pub in_inside : (v : ℕ) → has_lead_in N v ≡ true → v < N.nodes
  in_inside v e = let i = lead_in N v e in omega (arith, S.inside i.place i.lead i.holds)

  pub out_inside : (v : ℕ) → has_lead_out N v ≡ true → v < N.nodes
  out_inside v e = let i = lead_out N v e in omega (arith, head_inside i.place i.lead i.holds)

pub input_parts : {D : Type 0} (N : Net D) (v : ℕ) → is_input N v ≡ true → (has_lead_out N v ≡ true) × (has_lead_in N v ≡ false)
input_parts N v e = let p = and_parts (has_lead_out N v) (not (has_lead_in N v)) e in (p.0, not-true (has_lead_in N v) p.1)

pub output_parts : {D : Type 0} (N : Net D) (v : ℕ) → is_output N v ≡ true → (has_lead_in N v ≡ true) × (has_lead_out N v ≡ false)
output_parts N v e = let p = and_parts (has_lead_in N v) (not (has_lead_out N v)) e in (p.0, not-true (has_lead_out N v) p.1)

pub bare_parts : {D : Type 0} (N : Net D) (v : ℕ) → is_bare N v ≡ true → (has_lead_in N v ≡ false) × (has_lead_out N v ≡ false)
bare_parts N v e = let p = and_parts (not (has_lead_in N v)) (not (has_lead_out N v)) e in (not-true (has_lead_in N v) p.0, not-true (has_lead_out N v) p.1)

pub inner_parts : {D : Type 0} (N : Net D) (v : ℕ) → is_inner N v ≡ true → (has_lead_in N v ≡ true) × (has_lead_out N v ≡ true)
inner_parts N v e = and_parts (has_lead_in N v) (has_lead_out N v) e

pub is_input_lem : {D : Type 0} (N : Net D) (v : ℕ) → has_lead_out N v ≡ true → has_lead_in N v ≡ false → is_input N v ≡ true
is_input_lem N v p q = and_from (has_lead_out N v) (not (has_lead_in N v)) p (not_from_false (has_lead_in N v) q)

pub is_bare_lem : {D : Type 0} (N : Net D) (v : ℕ) → has_lead_in N v ≡ false → has_lead_out N v ≡ false → is_bare N v ≡ true
is_bare_lem N v p q = and_from (not (has_lead_in N v)) (not (has_lead_out N v)) (not_from_false (has_lead_in N v) p) (not_from_false (has_lead_out N v) q)
