-- What To and From say: sums, bounds, one value only, the rules at leads, fed and draining leads.
use Rattle.std.proofs.Common.{◌≡◌, ℕ, ◌+◌, ◌-◌, ◌<◌, ◌≤◌, true, false, ◌⊎◌, List, [], ◌∷◌, sym, refl, ap, ◌∙◌, subst, inl, inr, ⊎_elim, arith}
use Rattle.std.proofs.lemmas.Bool.{both_ways}
use Rattle.wiring.specs.declared.Lead.{Lead}
use Rattle.delay.specs.Kind.{Kind, SumOf, none, both, most_leads, Laws, Le}
use Rattle.wiring.specs.Net.{Net, Holds, Sound, has_lead_in, has_lead_out, is_input, is_output, is_bare}
use Rattle.wiring.specs.Paths.{Run, stay, along, delay_of}
use Rattle.wiring.specs.Lengths.{LongestTo, To, LongestFrom, From, Fed}
use Rattle.delay.proofs.Sums.{weaken, le_anti, plus_le}
use Rattle.wiring.proofs.Ends.{one_lead, head_inside, has_out, in_inside, input_parts, output_parts, bare_parts}
use Rattle.wiring.proofs.Runs.{run_append, run_one, run_in, run_out, run_last, run_to_sum, run_from_sum, lead_sum, delay_last}
use Rattle.wiring.proofs.Local.{FedIn, LocalTo}

module _ {D : Type 0} {K : Kind D} {N : Net D} (S : Sound K N) where
  -- no run from an input ends at a bare node, and none from it to an output begins there
  bare_no_run_to : {u v : ℕ} {ks : List ℕ} → is_bare N v ≡ true → is_input N u ≡ true → Run N u v ks → ⊥
  bare_no_run_to {u} {v} b i (stay e) = both_ways (has_lead_out N v) (bare_parts N v b).1 (ap (has_lead_out N) (sym e) ∙ (input_parts N u i).0)
  bare_no_run_to {u} {v} b i (along l h t r) = both_ways (has_lead_in N v) (bare_parts N v b).0 (run_in S (along l h t r))

  bare_no_run_from : {v w : ℕ} {ks : List ℕ} → is_bare N v ≡ true → is_output N w ≡ true → Run N v w ks → ⊥
  bare_no_run_from {v} {w} b o (stay e) = both_ways (has_lead_in N v) (bare_parts N v b).0 (ap (has_lead_in N) e ∙ (output_parts N w o).0)
  bare_no_run_from {v} {w} b o (along l h t r) = both_ways (has_lead_out N v) (bare_parts N v b).1 (run_out S (along l h t r))

  pub to_sum : {v : ℕ} {x : D} → To K N v x → SumOf K v x
  to_sum {v} (inl p) = subst (SumOf K v) p.delay (run_to_sum S p.run)
  to_sum {v} (inr p) = subst (SumOf K v) (sym p.1) none

  pub from_sum : {v : ℕ} {x : D} → From K N v x → SumOf K (most_leads - v) x
  from_sum {v} (inl p) = subst (SumOf K (most_leads - v)) p.delay (run_from_sum S (in_inside S p.sink (output_parts N p.sink p.to_output).0) p.run)
  from_sum {v} (inr p) = subst (SumOf K (most_leads - v)) (sym p.1) none

  -- no run from an input to v is longer than To(v)
  pub to_bound : {u v : ℕ} {x : D} {ks : List ℕ} → To K N v x → is_input N u ≡ true → Run N u v ks → Le K (delay_of K N ks) x
  to_bound {u} {ks = ks} (inl p) i r = p.longest u ks i r
  to_bound (inr p) i r = absurd (bare_no_run_to p.0 i r)

  pub from_bound : {v w : ℕ} {x : D} {ks : List ℕ} → From K N v x → is_output N w ≡ true → Run N v w ks → Le K (delay_of K N ks) x
  from_bound {w = w} {ks = ks} (inl p) o r = p.longest w ks o r
  from_bound (inr p) o r = absurd (bare_no_run_from p.0 o r)

  -- at a node with leads some run has that length
  pub to_met : {v : ℕ} {x : D} → (has_lead_in N v ≡ true) ⊎ (has_lead_out N v ≡ true) → To K N v x → LongestTo K N v x
  to_met e (inl p) = p
  to_met {v} (inl e) (inr p) = absurd (both_ways (has_lead_in N v) (bare_parts N v p.0).0 e)
  to_met {v} (inr e) (inr p) = absurd (both_ways (has_lead_out N v) (bare_parts N v p.0).1 e)

  pub from_met : {v : ℕ} {x : D} → (has_lead_in N v ≡ true) ⊎ (has_lead_out N v ≡ true) → From K N v x → LongestFrom K N v x
  from_met e (inl p) = p
  from_met {v} (inl e) (inr p) = absurd (both_ways (has_lead_in N v) (bare_parts N v p.0).0 e)
  from_met {v} (inr e) (inr p) = absurd (both_ways (has_lead_out N v) (bare_parts N v p.0).1 e)

module _ {D : Type 0} {K : Kind D} (L : Laws K) {N : Net D} (S : Sound K N) where
  -- a node has one To and one From
  pub to_unique : {v : ℕ} {x y : D} → v < N.nodes → To K N v x → To K N v y → x ≡ y
  to_unique {v} {x} {y} i (inl p) q =
      le_anti L (weaken (omega (arith, S.few_nodes)) (to_sum S (inl p))) (weaken (omega (arith, S.few_nodes)) (to_sum S q))
      (subst (λ z. Le K z y) p.delay (to_bound S q p.from_input p.run))
      (⊎_elim
      (λ q. subst (λ z. Le K z x) q.delay (p.longest q.source q.leads q.from_input q.run))
      (λ q. absurd (bare_no_run_to S q.0 p.from_input p.run))
      q)
  to_unique i (inr p) (inl q) = absurd (bare_no_run_to S p.0 q.from_input q.run)
  to_unique i (inr p) (inr q) = p.1 ∙ sym q.1

  module _ (to : ℕ → D) (T : (v : ℕ) → v < N.nodes → To K N v (to v)) where
    starts_zero : (v : ℕ) → v < N.nodes → has_lead_in N v ≡ false → to v ≡ K.zero
    starts_zero v i e = ⊎_elim
        (λ p. none_in p.leads p.run p.delay)
        (λ p. p.1) (T v i)
      where
        none_in : {u : ℕ} (ks : List ℕ) → Run N u v ks → delay_of K N ks ≡ to v → to v ≡ K.zero
        none_in [] r d = sym d
        none_in (k ∷ ks) r d = absurd (both_ways (has_lead_in N v) e (run_in S r))

    lead_bound : (k : ℕ) (l : Lead D) → Holds N k l → Le K (K.plus (to l.tail) l.delay) (to l.head)
    lead_bound k l h =
        let b = head_inside S k l h in
        let p = to_met S (inr (has_out N k l l.tail h refl)) (T l.tail (omega arith)) in
        subst (λ x. Le K x (to l.head)) (delay_last L S k l h p.run ∙ ap (λ x. K.plus x l.delay) p.delay)
        (to_bound S (T l.head b.1) p.from_input (run_append p.run (run_one k l h)))

    -- every node with a lead in has a fed lead in
    fed_lead_in : (v : ℕ) → has_lead_in N v ≡ true → FedIn K N to v
    fed_lead_in v e = let p = to_met S (inl e) (T v (in_inside S v e)) in last_fed p.leads p.from_input p.run p.delay
      where
        last_fed : {u : ℕ} (ks : List ℕ) → is_input N u ≡ true → Run N u v ks → delay_of K N ks ≡ to v → FedIn K N to v
        last_fed {u} [] i (stay f) d = absurd (both_ways (has_lead_in N u) (input_parts N u i).1 (ap (has_lead_in N) f ∙ e))
        last_fed (k ∷ ks) i r d =
            let q = run_last r in
            let l = q.lead in
            let b = head_inside S q.place l q.holds in
            let x : SumOf K l.tail (delay_of K N q.init) = run_to_sum S q.run in
            let y : SumOf K l.tail (to l.tail) = to_sum S (T l.tail (omega arith)) in
            let z = lead_sum S q.place l q.holds in
            let w : SumOf K l.head (to l.head) = to_sum S (T l.head b.1) in
            let fits : l.tail + 1 ≤ most_leads = omega arith in
            let whole : K.plus (delay_of K N q.init) l.delay ≡ to l.head =
            sym (delay_last L S q.place l q.holds q.run) ∙ ap (delay_of K N) (sym q.is) ∙ d ∙ ap to (sym q.ends) in
            let up : Le K (K.plus (delay_of K N q.init) l.delay) (K.plus (to l.tail) l.delay) =
            plus_le L x y z fits (to_bound S (T l.tail (omega arith)) i q.run) in
            record {
              place = q.place;
              lead = l;
              holds = q.holds;
              ends = q.ends;
              sums = le_anti L (both fits y z) (weaken (omega arith) w) (lead_bound q.place l q.holds)
                  (subst (λ s. Le K s (K.plus (to l.tail) l.delay)) whole up) ∙ ap to q.ends;
            }

    -- a table of To keeps the rules
    pub local_to : LocalTo K N to
    local_to = record { starts = starts_zero; bounds = lead_bound; met = fed_lead_in }

    -- a lead is fed exactly if its sum is met
    pub fed_sums : (k : ℕ) (l : Lead D) → Holds N k l → Fed K N k → K.plus (to l.tail) l.delay ≡ to l.head
    fed_sums k l h F =
        let b = head_inside S k F.lead F.holds in
        let e : F.lead ≡ l = one_lead N k F.holds h in
        let p : F.at_tail ≡ to F.lead.tail = to_unique (omega arith) F.to_tail (T F.lead.tail (omega arith)) in
        let q : F.at_head ≡ to F.lead.head = to_unique b.1 F.to_head (T F.lead.head b.1) in
        cc F.sums

    pub sums_fed : (k : ℕ) (l : Lead D) → Holds N k l → K.plus (to l.tail) l.delay ≡ to l.head → Fed K N k
    sums_fed k l h e =
        let b = head_inside S k l h in
        record { lead = l; holds = h; at_tail = to l.tail; at_head = to l.head; to_tail = T l.tail (omega arith); to_head = T l.head b.1; sums = e }
