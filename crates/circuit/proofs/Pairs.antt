-- Paths of the spread and pairs of a circuit path and a launched edge correspond one to one, with equal delays.
use Rattle.std.proofs.Common.{◌≡◌, ℕ, ◌%◌, Bool, true, false, cond, not, ◌&&◌, eqb, List, [], ◌∷◌, map, Decides, sym, refl, ap, ◌∙◌, subst, ap₂}
use Rattle.std.proofs.lemmas.Bool.{both_ways}
use Rattle.std.specs.Cmp.{both_ways as same_tests}
use Rattle.wiring.specs.declared.Lead.{Lead}
use Rattle.delay.specs.Kind.{Kind}
use Rattle.wiring.specs.Net.{Net, Holds, has_lead_in, has_lead_out, is_input, is_output}
use Rattle.wiring.specs.Paths.{Run, stay, along, PathOf, delay_at, delay_of}
use Rattle.wiring.proofs.Ends.{lead_in, lead_out, has_in, has_out, one_lead, input_parts, output_parts}
use Rattle.wiring.proofs.Runs.{at_delay, run_none}
use Rattle.circuit.specs.declared.Times.{Times}
use Rattle.circuit.specs.Spread.{Edge, rising, falling, half, edge_of, copy, cost, arrives, spread_lead, spread_net}
use Rattle.circuit.specs.Spread.{edge_over, cost_over, pair_delay, StandsFor, OneToOne}
use Rattle.circuit.proofs.Copies.{copy_half, copy_edge, copy_back, carried_twice, Behind, spread_holds, spread_held}

-- an edge told by an even number is a rising one
even_edge : (b : Bool) (e : Edge) → cond b rising falling ≡ e → Decides b (e ≡ rising)
even_edge true e h = (λ _. sym h, λ _. refl)
even_edge false e h = (λ f. absurd (both_ways false refl f), λ q. cc)

module _ (sign : ℕ → ℕ) {D : Type 0} (K : Kind D) (C : Net Times) where
  abbrev N : Net D
  N = spread_net sign K C

  -- the circuit lead behind a lead of the spread
  behind : (j : ℕ) (m : Lead D) → Holds N j m → Behind sign K C j m
  behind j m h = spread_held sign K C j m h

  -- the ends of a lead of the spread: which nodes of the circuit, and with which edge
  tail_half : (j : ℕ) (m : Lead D) (h : Holds N j m) → half m.tail ≡ (behind j m h).lead.tail
  tail_half j m h = let b = behind j m h in ap (λ (x : Lead D). half x.tail) b.is ∙ copy_half b.lead.tail (edge_of j)

  tail_edge : (j : ℕ) (m : Lead D) → Holds N j m → edge_of m.tail ≡ edge_of j
  tail_edge j m h = let b = behind j m h in ap (λ (x : Lead D). edge_of x.tail) b.is ∙ copy_edge b.lead.tail (edge_of j)

  head_half : (j : ℕ) (m : Lead D) (h : Holds N j m) → half m.head ≡ (behind j m h).lead.head
  head_half j m h = let b = behind j m h in ap (λ (x : Lead D). half x.head) b.is ∙ copy_half b.lead.head (arrives sign b.lead (edge_of j))

  head_edge : (j : ℕ) (m : Lead D) (h : Holds N j m) → edge_of m.head ≡ arrives sign (behind j m h).lead (edge_of j)
  head_edge j m h = let b = behind j m h in ap (λ (x : Lead D). edge_of x.head) b.is ∙ copy_edge b.lead.head (arrives sign b.lead (edge_of j))

  -- a node of the spread has leads in and out as its circuit node has
  outs : (n : ℕ) → has_lead_out N n ≡ has_lead_out C (half n)
  outs n = same_tests (has_lead_out N n) (has_lead_out C (half n))
      (λ e. let o = lead_out N n e in let b = behind o.place o.lead o.holds in
      has_out C (half o.place) b.lead (half n) b.holds (sym (tail_half o.place o.lead o.holds) ∙ ap half o.begins))
      (λ e. let o = lead_out C (half n) e in let f = edge_of n in
      has_out N (copy o.place f) (spread_lead sign K f o.lead) n (spread_holds sign K C o.place o.lead f o.holds)
      (ap (λ x. copy x f) o.begins ∙ copy_back n))

  ins : (n : ℕ) → has_lead_in N n ≡ has_lead_in C (half n)
  ins n = same_tests (has_lead_in N n) (has_lead_in C (half n))
      (λ e. let o = lead_in N n e in let b = behind o.place o.lead o.holds in
      has_in C (half o.place) b.lead (half n) b.holds (sym (head_half o.place o.lead o.holds) ∙ ap half o.ends))
      (λ e. let o = lead_in C (half n) e in let l = o.lead in let f = arrives sign l (edge_of n) in
      has_in N (copy o.place f) (spread_lead sign K f l) n (spread_holds sign K C o.place l f o.holds)
      (ap₂ copy o.ends (carried_twice (sign l.tail) (edge_of n)) ∙ copy_back n))

  inputs : (n : ℕ) → is_input N n ≡ is_input C (half n)
  inputs n = ap₂ (λ a b. a && not b) (outs n) (ins n)

  outputs : (n : ℕ) → is_output N n ≡ is_output C (half n)
  outputs n = ap₂ (λ a b. a && not b) (ins n) (outs n)

  -- a run of the spread runs along the circuit
  circuit_run : {u v : ℕ} {js : List ℕ} → Run N u v js → Run C (half u) (half v) (map half js)
  circuit_run (stay e) = stay (ap half e)
  circuit_run {v = v} {js = j ∷ js} (along m h t r) =
      let b = behind j m h in
      along b.lead b.holds (sym (tail_half j m h) ∙ ap half t) (subst (λ x. Run C x (half v) (map half js)) (head_half j m h) (circuit_run r))

  -- a launched edge takes a run of the circuit through the spread
  record SpreadRun (u v : ℕ) (e : Edge) (ks : List ℕ) : Type 0 where
    leads : List ℕ
    edge : Edge
    run : Run N (copy u e) (copy v edge) leads
    halves : map half leads ≡ ks

  spread_run : {u v : ℕ} {ks : List ℕ} (e : Edge) → Run C u v ks → SpreadRun u v e ks
  spread_run e (stay p) = record { leads = []; edge = e; run = stay (ap (λ x. copy x e) p); halves = refl }
  spread_run {ks = k ∷ ks} e (along l h t r) =
      let u = spread_run (arrives sign l e) r in
      record {
        leads = copy k e ∷ u.leads;
        edge = u.edge;
        run = along (spread_lead sign K e l) (spread_holds sign K C k l e h) (ap (λ x. copy x e) t) u.run;
        halves = ap₂ ◌∷◌ (copy_half k e) u.halves;
      }

  -- the first lead of a run has the parity of the node that it leaves
  run_edge : {u v j : ℕ} {js : List ℕ} → Run N u v (j ∷ js) → edge_of j ≡ edge_of u
  run_edge {j = j} (along m h t r) = sym (tail_edge j m h) ∙ ap edge_of t

  -- runs along the same circuit leads that start with the same edge are the same
  run_same : {u v x y : ℕ} {js is : List ℕ} → Run N u v js → Run N x y is → edge_of u ≡ edge_of x → map half js ≡ map half is → js ≡ is
  run_same (stay _) (stay _) p q = refl
  run_same {is = i ∷ is} (stay _) (along m h t r) p q = cc
  run_same {js = j ∷ js} (along m h t r) (stay _) p q = cc
  run_same {js = j ∷ js} {is = i ∷ is} (along m h t r) (along n g w s) p q =
      let a : half j ≡ half i = cc in
      let c : map half js ≡ map half is = cc in
      let d : edge_of j ≡ edge_of i = run_edge (along m h t r) ∙ (p ∙ sym (run_edge (along n g w s))) in
      let f : j ≡ i = sym (copy_back j) ∙ (ap₂ copy a d ∙ copy_back i) in
      let o : m ≡ n = one_lead N j h (ap N.at f ∙ g) in
      ap₂ ◌∷◌ f (run_same r s (ap (λ (x : Lead D). edge_of x.head) o) c)

  -- a run costs what the edge costs that it carries along the circuit
  run_delay : {u v : ℕ} {js : List ℕ} → Run N u v js → delay_of K N js ≡ pair_delay sign K C (edge_of u) (map half js)
  run_delay (stay _) = refl
  run_delay {u = u} {js = j ∷ js} (along m h t r) =
      let b = behind j m h in let l = b.lead in let e = edge_of u in
      let same : edge_of j ≡ e = run_edge (along m h t r) in
      let costs : delay_at K N j ≡ cost_over sign K (C.at (half j)) e =
      at_delay K N j m h ∙ (ap (λ (x : Lead D). x.delay) b.is
      ∙ (ap (λ f. cost K l.delay (arrives sign l f)) same ∙ sym (ap (λ o. cost_over sign K o e) b.holds))) in
      let next : edge_of m.head ≡ edge_over sign (C.at (half j)) e =
      head_edge j m h ∙ (ap (arrives sign l) same ∙ sym (ap (λ o. edge_over sign o e) b.holds)) in
      ap₂ K.plus costs (run_delay r ∙ ap (λ f. pair_delay sign K C f (map half js)) next)

  -- a path has a lead, since no node is an input and an output
  no_empty_path : PathOf N [] → ⊥
  no_empty_path p =
      let i = input_parts N p.source p.from_input in let o = output_parts N p.sink p.to_output in
      both_ways (has_lead_in N p.sink) (ap (has_lead_in N) (sym (run_none p.run)) ∙ i.1) o.0

  path_edge : {j : ℕ} {js : List ℕ} (p : PathOf N (j ∷ js)) → edge_of j ≡ edge_of p.source
  path_edge p = run_edge p.run

  same_edge : (js : List ℕ) (p q : PathOf N js) → edge_of p.source ≡ edge_of q.source
  same_edge [] p q = absurd (no_empty_path p)
  same_edge (j ∷ js) p q = sym (path_edge p) ∙ path_edge q

  spread_path : (e : Edge) (ks : List ℕ) → PathOf C ks → (js : List ℕ) × StandsFor sign K C js e ks
  spread_path e ks p =
      let u = spread_run e p.run in (
        u.leads,
        record {
          path = record {
            source = copy p.source e;
            sink = copy p.sink u.edge;
            from_input = inputs (copy p.source e) ∙ (ap (is_input C) (copy_half p.source e) ∙ p.from_input);
            to_output = outputs (copy p.sink u.edge) ∙ (ap (is_output C) (copy_half p.sink u.edge) ∙ p.to_output);
            run = u.run;
          };
          launches = copy_edge p.source e;
          leads = u.halves;
        },
      )

  circuit_path : {js : List ℕ} → PathOf N js → PathOf C (map half js)
  circuit_path p = record {
    source = half p.source;
    sink = half p.sink;
    from_input = sym (inputs p.source) ∙ p.from_input;
    to_output = sym (outputs p.sink) ∙ p.to_output;
    run = circuit_run p.run;
  }

  pub one_to_one : OneToOne sign K C
  one_to_one = record {
    pair_of = λ js p. (edge_of p.source, map half js, record { path = p; launches = refl; leads = refl });
    path_of = spread_path;
    one_pair = λ js e f ks ls a b. (sym a.launches ∙ (same_edge js a.path b.path ∙ b.launches), sym a.leads ∙ b.leads);
    one_path = λ is js e ks a b. run_same a.path.run b.path.run (a.launches ∙ sym b.launches) (a.leads ∙ sym b.leads);
    a_path = λ js e ks a. subst (PathOf C) a.leads (circuit_path a.path);
    same_delay = λ js e ks a. run_delay a.path.run ∙ ap₂ (pair_delay sign K C) a.launches a.leads;
    first_even = λ j js e ks a. even_edge (eqb (j % 2) 0) e (path_edge a.path ∙ a.launches);
    some_lead = λ e ks a. no_empty_path a.path;
  }
