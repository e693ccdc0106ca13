-- A path covers at most one start lead and at most one end lead.
use Rattle.std.proofs.Common.{◌≡◌, ℕ, true, false, not, ◌⊎◌, List, [], ◌∷◌, ◌++◌, sym, refl, ap, ◌∙◌, subst, inl, inr, ⊎_elim}
use Rattle.std.proofs.lemmas.Bool.{both_ways, and_right, or_from, not_from_true}
use Rattle.delay.specs.Kind.{Kind, Laws}
use Rattle.wiring.specs.Net.{Net, Sound, stands, has_lead_in, has_lead_out, is_input, is_output}
use Rattle.wiring.specs.Paths.{Run, along, On, Covers}
use Rattle.wiring.specs.Lengths.{Marks, Types}
use Rattle.wiring.specs.Loads.{starts, ends, is_start_lead, is_end_lead}
use Rattle.wiring.proofs.Runs.{run_in, run_out, run_split, split_at}
use Rattle.wiring.proofs.Cover.{Tables, cut_path}
use Rattle.wiring.proofs.Steps.{later_fed, earlier_drains}

-- on p the lead k comes before the lead j
pub record Precedes (k j : ℕ) (p : List ℕ) : Type 0 where
  pub pre : List ℕ
  pub mid : List ℕ
  pub post : List ℕ
  pub is : p ≡ pre ++ (k ∷ (mid ++ (j ∷ post)))

precedes_more : {k j i : ℕ} {p : List ℕ} → Precedes k j p → Precedes k j (i ∷ p)
precedes_more {i = i} o = record { pre = i ∷ o.pre; mid = o.mid; post = o.post; is = ap (λ r. i ∷ r) o.is }

precedes_first : {k j i : ℕ} {p : List ℕ} → k ≡ i → On j p → Precedes k j (i ∷ p)
precedes_first {k} {j} {i} {p} e o = let s = split_at j p o in
    record { pre = []; mid = s.pre; post = s.post; is = ap (λ r. r ∷ p) (sym e) ∙ ap (λ r. k ∷ r) s.is }

-- two leads of a list are the same, or one comes before the other
pub which_first : (k j : ℕ) (p : List ℕ) → On k p → On j p → (k ≡ j) ⊎ (Precedes k j p ⊎ Precedes j k p)
which_first k j [] a b = elim a [ ]
which_first k j (i ∷ p) (inl a) (inl b) = inl (a ∙ sym b)
which_first k j (i ∷ p) (inl a) (inr b) = inr (inl (precedes_first a b))
which_first k j (i ∷ p) (inr a) (inl b) = inr (inr (precedes_first b a))
which_first k j (i ∷ p) (inr a) (inr b) = ⊎_elim
    (λ e. inl e)
    (λ o. inr (⊎_elim (λ x. inl (precedes_more x)) (λ x. inr (precedes_more x)) o))
    (which_first k j p a b)

module _ {D : Type 0} {K : Kind D} (L : Laws K) {N : Net D} (S : Sound K N) {to from : ℕ → D} (T : Tables K N to from) {m : Marks} (Y : Types K N m) where
  -- a lead after one that the path covers is no start lead
  pub later_no_start : {k j : ℕ} {p : List ℕ} → Precedes k j p → Covers K N p k → is_start_lead N m j ≡ false
  later_no_start {k} {j} {p} o V =
      let V : Covers K N (o.pre ++ (k ∷ (o.mid ++ (j ∷ o.post)))) k = subst (λ q. Covers K N q k) o.is V in
      let t = (cut_path o.pre V.path).through in
      let s = run_split o.mid t.after in
      let l = s.lead in
      let e : has_lead_in N l.tail ≡ true = run_in S (along t.lead t.holds refl s.before) in
      let d : (m j).0 ≡ true = (Y.drains j (ap stands s.holds)).1 (earlier_drains L S T o.pre o.mid o.post V) in
      ap (starts N (m j)) s.holds
      ∙ or_from (not (m j).0) (is_input N l.tail) (not_from_true (m j).0 d) (and_right (has_lead_out N l.tail) (not (has_lead_in N l.tail)) (not_from_true (has_lead_in N l.tail) e))

  -- a lead before one that the path covers is no end lead
  pub earlier_no_end : {k j : ℕ} {p : List ℕ} → Precedes k j p → Covers K N p j → is_end_lead N m k ≡ false
  earlier_no_end {k} {j} {p} o V =
      let V : Covers K N (o.pre ++ (k ∷ (o.mid ++ (j ∷ o.post)))) j = subst (λ q. Covers K N q j) o.is V in
      let t = (cut_path o.pre V.path).through in
      let l = t.lead in
      let e : has_lead_out N l.head ≡ true = first_out o.mid o.post t.after in
      let d : (m k).1 ≡ true = (Y.fed k (ap stands t.holds)).1 (later_fed L S T o.pre o.mid o.post V) in
      ap (ends N (m k)) t.holds
      ∙ or_from (not (m k).1) (is_output N l.head) (not_from_true (m k).1 d) (and_right (has_lead_in N l.head) (not (has_lead_out N l.head)) (not_from_true (has_lead_out N l.head) e))
    where
      first_out : {u w : ℕ} (ks js : List ℕ) → Run N u w (ks ++ (j ∷ js)) → has_lead_out N u ≡ true
      first_out [] js r = run_out S r
      first_out (x ∷ ks) js r = run_out S r

  pub one_start : {k j : ℕ} {p : List ℕ} → Covers K N p k → Covers K N p j → is_start_lead N m k ≡ true → is_start_lead N m j ≡ true → k ≡ j
  one_start {k} {j} {p} V W a b = ⊎_elim
      (λ e. e)
      (λ o. absurd (⊎_elim
      (λ x. both_ways (is_start_lead N m j) (later_no_start x V) b)
      (λ x. both_ways (is_start_lead N m k) (later_no_start x W) a)
      o))
      (which_first k j p V.through W.through)

  pub one_end : {k j : ℕ} {p : List ℕ} → Covers K N p k → Covers K N p j → is_end_lead N m k ≡ true → is_end_lead N m j ≡ true → k ≡ j
  one_end {k} {j} {p} V W a b = ⊎_elim
      (λ e. e)
      (λ o. absurd (⊎_elim
      (λ x. both_ways (is_end_lead N m k) (earlier_no_end x W) a)
      (λ x. both_ways (is_end_lead N m j) (earlier_no_end x V) b)
      o))
      (which_first k j p V.through W.through)
