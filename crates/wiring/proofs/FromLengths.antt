-- What From says of leads, found through the turned view: the rules at nodes and leads, and draining leads.
use Rattle.std.proofs.Common.{◌≡◌, ℕ, ◌<◌, true, List, reverse, sym, ap, ◌∙◌, subst, arith}
use Rattle.delay.specs.Kind.{Kind, Laws, Le}
use Rattle.wiring.specs.declared.Lead.{Lead}
use Rattle.wiring.specs.Net.{Net, Holds, Sound, has_lead_out}
use Rattle.wiring.specs.Paths.{Run, delay_of}
use Rattle.wiring.specs.Lengths.{To, From, Drains}
use Rattle.wiring.specs.Views.{mirror, flip, turned_net}
use Rattle.wiring.proofs.Ends.{one_lead, head_inside, out_inside}
use Rattle.wiring.proofs.Runs.{run_length, run_sum, lead_sum}
use Rattle.wiring.proofs.Local.{LocalTo, DrainsOut, LocalFrom, grows}
use Rattle.wiring.proofs.Lengths.{to_sum, from_sum, to_unique, local_to}
use Rattle.wiring.proofs.Turning.{in_order, turned_holds, turned_held, in_turned, mirrored, turned_sound, to_turned, mirrored_lengths}

module _ {D : Type 0} {K : Kind D} (L : Laws K) {N : Net D} (S : Sound K N) where
  -- a node has one From
  pub from_unique : {v : ℕ} {x y : D} → v < N.nodes → From K N v x → From K N v y → x ≡ y
  from_unique {v} {x} {y} i p q = to_unique L (turned_sound L S) (omega arith) (to_turned L S v x i p) (to_turned L S v y i q)

  module _ (from : ℕ → D) (T : (v : ℕ) → v < N.nodes → From K N v (from v)) where
    -- the lengths to the nodes of the view
    over : ℕ → D
    over u = from (mirror N.nodes u)

    over_at : (v : ℕ) → v < N.nodes → over (mirror N.nodes v) ≡ from v
    unfolding over
    over_at v i = ap from (omega arith)

    over_is : (u : ℕ) → u < N.nodes → To K (turned_net N) u (over u)
    unfolding over
    over_is u i = subst (λ w. To K (turned_net N) w (over u)) (omega arith)
        (to_turned L S (mirror N.nodes u) (over u) (omega arith) (T (mirror N.nodes u) (omega arith)))

    rules : LocalTo K (turned_net N) over
    rules = local_to L (turned_sound L S) over over_is

    -- the view's sum at a lead, read in the wiring
    swap : (k : ℕ) (l : Lead D) → Holds N k l → K.plus (over (mirror N.nodes l.head)) l.delay ≡ K.plus l.delay (from l.head)
    swap k l h = let b = head_inside S k l h in
        L.commutes (to_sum (turned_sound L S) (over_is (mirror N.nodes l.head) (omega arith))) (lead_sum S k l h) (omega arith)
        ∙ ap (K.plus l.delay) (over_at l.head b.1)

    draining_lead_out : (v : ℕ) → has_lead_out N v ≡ true → DrainsOut K N from v
    draining_lead_out v e =
        let i = out_inside S v e in
        let f = rules.met (mirror N.nodes v) (in_turned (in_order S) v i ∙ e) in
        let b = turned_held (in_order S) f.place f.lead f.holds in
        let l = b.lead in
        let c = head_inside S f.place l b.holds in
        let d : mirror N.nodes l.tail ≡ mirror N.nodes v = ap (λ (x : Lead D). x.head) (sym b.is) ∙ f.ends in
        record {
          place = f.place;
          lead = l;
          holds = b.holds;
          begins = omega arith;
          sums = sym (swap f.place l b.holds) ∙ ap (λ (x : Lead D). K.plus (over x.tail) x.delay) (sym b.is) ∙ f.sums ∙ over_at v i;
        }

    -- a table of From keeps the rules: zero without leads out, no lead gives more, and some lead out gives as much
    pub local_from : LocalFrom K N from
    local_from = record {
      stops = λ v i e. sym (over_at v i) ∙ rules.starts (mirror N.nodes v) (omega arith) (in_turned (in_order S) v i ∙ e);
      bounds = λ k l h. let b = head_inside S k l h in
          subst (λ x. Le K x (from l.tail)) (swap k l h)
          (subst (λ x. Le K (K.plus (over (mirror N.nodes l.head)) l.delay) x) (over_at l.tail (omega arith))
          (rules.bounds k (flip N.nodes l) (turned_holds (in_order S) k l h)));
      met = draining_lead_out;
    }

    -- along a run the lengths fall by at least its delay
    pub falls : {v w : ℕ} {ks : List ℕ} → w < N.nodes → Run N v w ks → Le K (K.plus (delay_of K N ks) (from w)) (from v)
    falls {v} {w} {ks} i r =
        let len = run_length S r in let few = S.few_nodes in
        let view = grows L (turned_sound L S) over rules (omega arith) ((mirrored (in_order S)).there v w ks r) in
        subst (λ x. Le K x (from v)) (L.commutes (from_sum S (T w i)) (run_sum S r) (omega arith))
        (subst (λ x. Le K (K.plus (from w) x) (from v)) ((mirrored_lengths L S).delay v w ks i r)
        (subst (λ x. Le K (K.plus x (delay_of K (turned_net N) (reverse ks))) (from v)) (over_at w i)
        (subst (Le K (K.plus (over (mirror N.nodes w)) (delay_of K (turned_net N) (reverse ks)))) (over_at v (omega arith)) view)))

    -- a lead drains exactly if its sum is met
    pub drains_sums : (k : ℕ) (l : Lead D) → Holds N k l → Drains K N k → K.plus l.delay (from l.head) ≡ from l.tail
    drains_sums k l h F =
        let b = head_inside S k F.lead F.holds in
        let e : F.lead ≡ l = one_lead N k F.holds h in
        let p : F.at_tail ≡ from F.lead.tail = from_unique (omega arith) F.from_tail (T F.lead.tail (omega arith)) in
        let q : F.at_head ≡ from F.lead.head = from_unique b.1 F.from_head (T F.lead.head b.1) in
        cc F.sums

    pub sums_drains : (k : ℕ) (l : Lead D) → Holds N k l → K.plus l.delay (from l.head) ≡ from l.tail → Drains K N k
    sums_drains k l h e =
        let b = head_inside S k l h in
        record { lead = l; holds = h; at_tail = from l.tail; at_head = from l.head; from_tail = T l.tail (omega arith); from_head = T l.head b.1; sums = e }
