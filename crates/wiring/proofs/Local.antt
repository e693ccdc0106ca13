-- A table of lengths is To exactly if it keeps a rule at each node and at each lead.
use Rattle.std.proofs.Common.{◌≡◌, ℕ, zero, suc, ◌+◌, ◌<◌, ◌≤◌, true, false, ◌⊎◌, List, [], ◌∷◌, ◌++◌, length, sym, refl, ap, ◌∙◌, subst, inl, inr, ⊎_elim, arith}
use Rattle.std.proofs.lemmas.Bool.{cases_Bool, both_ways}
use Rattle.wiring.specs.declared.Lead.{Lead}
use Rattle.delay.specs.Kind.{Kind, SumOf, one, both, most_leads, Within, Laws, Le}
use Rattle.wiring.specs.Net.{Net, Holds, Sound, has_lead_in, has_lead_out, is_input}
use Rattle.wiring.specs.Paths.{Run, stay, along, delay_at, delay_of}
use Rattle.wiring.specs.Lengths.{LongestTo, To}
use Rattle.delay.proofs.Sums.{weaken, plus_zero, le_eq, le_trans, plus_le}
use Rattle.wiring.proofs.Ends.{has_out, out_inside, input_parts, is_input_lem, is_bare_lem}
use Rattle.wiring.proofs.Runs.{at_delay, run_append, run_one, run_length, run_inside, run_sum, run_to_sum, lawful_at, delay_last}

-- a lead into v that makes up the length at v
pub record FedIn {D : Type 0} (K : Kind D) (N : Net D) (to : ℕ → D) (v : ℕ) : Type 0 where
  pub place : ℕ
  pub lead : Lead D
  pub holds : Holds N place lead
  pub ends : lead.head ≡ v
  pub sums : K.plus (to lead.tail) lead.delay ≡ to v

-- a lead out of v that makes up the length from v
pub record DrainsOut {D : Type 0} (K : Kind D) (N : Net D) (from : ℕ → D) (v : ℕ) : Type 0 where
  pub place : ℕ
  pub lead : Lead D
  pub holds : Holds N place lead
  pub begins : lead.tail ≡ v
  pub sums : K.plus lead.delay (from lead.head) ≡ from v

pub record LocalTo {D : Type 0} (K : Kind D) (N : Net D) (to : ℕ → D) : Type 0 where
  pub starts : (v : ℕ) → v < N.nodes → has_lead_in N v ≡ false → to v ≡ K.zero
  pub bounds : (k : ℕ) (l : Lead D) → Holds N k l → Le K (K.plus (to l.tail) l.delay) (to l.head)
  pub met : (v : ℕ) → has_lead_in N v ≡ true → FedIn K N to v

pub record LocalFrom {D : Type 0} (K : Kind D) (N : Net D) (from : ℕ → D) : Type 0 where
  pub stops : (v : ℕ) → v < N.nodes → has_lead_out N v ≡ false → from v ≡ K.zero
  pub bounds : (k : ℕ) (l : Lead D) → Holds N k l → Le K (K.plus l.delay (from l.head)) (from l.tail)
  pub met : (v : ℕ) → has_lead_out N v ≡ true → DrainsOut K N from v

-- a run from a node without leads in to v with the delay x
record Gives {D : Type 0} (K : Kind D) (N : Net D) (v : ℕ) (x : D) : Type 0 where
  source : ℕ
  leads : List ℕ
  starts : has_lead_in N source ≡ false
  run : Run N source v leads
  delay : delay_of K N leads ≡ x

module _ {D : Type 0} {N : Net D} where
  -- a node without leads in, from which a run goes to a node with leads, is an input
  run_starts : {u v : ℕ} {ks : List ℕ} → has_lead_in N u ≡ false → (has_lead_in N v ≡ true) ⊎ (has_lead_out N v ≡ true) → Run N u v ks → is_input N u ≡ true
  run_starts {u} {v} s (inl p) (stay e) = absurd (both_ways (has_lead_in N u) s (ap (has_lead_in N) e ∙ p))
  run_starts {u} {v} s (inr p) (stay e) = is_input_lem N u (ap (has_lead_out N) e ∙ p) s
  run_starts {u} {v} s p (along {k = k} l h t r) = is_input_lem N u (has_out N k l u h t) s

module _ {D : Type 0} {K : Kind D} (L : Laws K) {N : Net D} (S : Sound K N) (to : ℕ → D) (T : LocalTo K N to) where
  gives_below : (n v : ℕ) → v < n → v < N.nodes → Gives K N v (to v)
  gives_below zero v h i = absurd (omega arith)
  gives_below (suc n) v h i = ⊎_elim
      (λ e.
      let f = T.met v e in
      let up = S.upwards f.place f.lead f.holds in
      let g = gives_below n f.lead.tail (omega (arith, up, f.ends)) (omega (arith, up, f.ends)) in
      record {
        source = g.source;
        leads = g.leads ++ (f.place ∷ []);
        starts = g.starts;
        run = subst (λ w. Run N g.source w (g.leads ++ (f.place ∷ []))) f.ends (run_append g.run (run_one f.place f.lead f.holds));
        delay = delay_last L S f.place f.lead f.holds g.run ∙ ap (λ x. K.plus x f.lead.delay) g.delay ∙ f.sums;
      })
      (λ e. record { source = v; leads = []; starts = e; run = stay refl; delay = sym (T.starts v i e) })
      (cases_Bool (has_lead_in N v))

  gives : (v : ℕ) → v < N.nodes → Gives K N v (to v)
  gives v i = gives_below (suc v) v (omega arith) i

  pub local_sum : (v : ℕ) → v < N.nodes → SumOf K v (to v)
  local_sum v i = let g = gives v i in subst (SumOf K v) g.delay (run_to_sum S g.run)

  -- along a run the lengths grow by at least its delay
  pub grows : {u v : ℕ} {ks : List ℕ} → u < N.nodes → Run N u v ks → Le K (K.plus (to u) (delay_of K N ks)) (to v)
  grows {u} {v} i (stay e) =
      let w : Within K (to u) = weaken (omega (arith, S.few_nodes)) (local_sum u i) in
      subst (λ x. Le K x (to v)) (sym (plus_zero L w)) (le_eq L w (ap to e))
  grows {u} {v} i (along {k = k} {ks = ks} l h t r) =
      let up = S.upwards k l h in let j = S.inside k l h in
      let len = run_length S r in let end = run_inside S j r in
      let a : SumOf K u (to u) = local_sum u i in
      let b : SumOf K 1 (delay_at K N k) = one (omega arith) (lawful_at S k l h) in
      let c : SumOf K (length ks) (delay_of K N ks) = run_sum S r in
      let ab : SumOf K l.head (K.plus (to u) (delay_at K N k)) = both (omega arith) a b in
      let d : SumOf K l.head (to l.head) = local_sum l.head j in
      let few = S.few_nodes in
      let fits : l.head + length ks ≤ most_leads = omega arith in
      let step : Le K (K.plus (to u) (delay_at K N k)) (to l.head) =
      subst (λ w. Le K (K.plus (to w) (delay_at K N k)) (to l.head)) t
      (subst (λ x. Le K (K.plus (to l.tail) x) (to l.head)) (sym (at_delay K N k l h)) (T.bounds k l h)) in
      let whole : Le K (K.plus (K.plus (to u) (delay_at K N k)) (delay_of K N ks)) (to v) =
      le_trans L (both fits ab c) (both fits d c) (weaken (omega arith) (local_sum v end)) (plus_le L ab d c fits step) (grows j r) in
      subst (λ x. Le K x (to v)) (L.associates a b c (omega arith)) whole

  longest_to : (v : ℕ) → v < N.nodes → (has_lead_in N v ≡ true) ⊎ (has_lead_out N v ≡ true) → LongestTo K N v (to v)
  longest_to v i p =
      let g = gives v i in
      record {
        source = g.source;
        leads = g.leads;
        from_input = run_starts g.starts p g.run;
        run = g.run;
        delay = g.delay;
        longest = λ u ks e r.
            let s = input_parts N u e in
            let j = out_inside S u s.0 in
            subst (λ x. Le K x (to v))
            (ap (λ x. K.plus x (delay_of K N ks)) (T.starts u j s.1) ∙ L.zero_adds_nothing (weaken (omega (arith, S.few_nodes)) (run_to_sum S r)))
            (grows j r);
      }

  -- a table that keeps the rules is To
  pub to_from_local : (v : ℕ) → v < N.nodes → To K N v (to v)
  to_from_local v i = ⊎_elim
      (λ e. inl (longest_to v i (inl e)))
      (λ e. ⊎_elim
      (λ f. inl (longest_to v i (inr f)))
      (λ f. inr (is_bare_lem N v e f, T.starts v i e))
      (cases_Bool (has_lead_out N v)))
      (cases_Bool (has_lead_in N v))
