-- What the turned view of a wiring tells: its runs are those of the wiring the other way round, and its To is From.
use Rattle.std.proofs.Common.{◌≡◌, ℕ, ◌<◌, not, ◌&&◌, eqb, ltb, List, [], ◌∷◌, reverse, Some, Option, sym, refl, ap, ◌∙◌, subst, inl, inr, ⊎_elim, arith}
use mathlib.Core.Path.{fun_ext}
use mathlib.Core.List.{reverse-cons, reverse-reverse}
use Rattle.std.proofs.Math.Bool.{and_comm}
use Rattle.std.proofs.lemmas.Option.{none-some, same_Some}
use Rattle.std.proofs.lemmas.Bool.{and_from, lt-ltb, cond-true}
use Rattle.std.proofs.lemmas.Bool.Decides.{nat_tests}
use Rattle.delay.specs.Kind.{Kind, Laws, Le}
use Rattle.wiring.specs.declared.Lead.{Lead}
use Rattle.wiring.specs.Net.{Net, Holds, InOrder, Sound, tail_is, head_is, enters, leaves, some_below, has_lead_in, has_lead_out, is_input, is_output, is_bare}
use Rattle.wiring.specs.Paths.{Run, stay, along, delay_of}
use Rattle.wiring.specs.Lengths.{To, From}
use Rattle.wiring.specs.Views.{mirror, flip, turn, turn_place, turned_net, Mirrored, MirroredLengths, Turning}
use Rattle.wiring.proofs.Ends.{lead_or_none, in_inside, out_inside, input_parts, output_parts}
use Rattle.wiring.proofs.Runs.{at_delay, run_append, run_length, run_sum, lead_sum, delay_last}

pub in_order : {D : Type 0} {K : Kind D} {N : Net D} → Sound K N → InOrder N
in_order S = record { upwards = S.upwards; inside = S.inside }

-- a run asks only which leads stand where
pub run_same : {D : Type 0} {M N : Net D} → ((k : ℕ) → M.at k ≡ N.at k) → {u v : ℕ} {ks : List ℕ} → Run M u v ks → Run N u v ks
run_same e (stay p) = stay p
run_same e (along {k = k} l h t r) = along l (sym (e k) ∙ h) t (run_same e r)

mirror_back : (n v : ℕ) → v < n → mirror n (mirror n v) ≡ v
mirror_back n v h = omega arith

mirror_inside : (n v : ℕ) → v < n → mirror n v < n
mirror_inside n v h = omega arith

mirror_tells : (n a v : ℕ) → a < n → v < n → eqb (mirror n a) (mirror n v) ≡ eqb a v
mirror_tells n a v h i = grind (arith, nat_tests)

-- the lead that stands behind a lead of the view
pub record Behind {D : Type 0} (N : Net D) (k : ℕ) (m : Lead D) : Type 0 where
  pub lead : Lead D
  pub holds : Holds N k lead
  pub is : m ≡ flip N.nodes lead

module _ {D : Type 0} {N : Net D} (O : InOrder N) where
  turn_is : (k : ℕ) (l : Lead D) → Holds N k l → turn N.nodes l ≡ flip N.nodes l
  turn_is k l h = cond-true (ltb l.tail l.head && ltb l.head N.nodes) (flip N.nodes l) (record { tail = 0; head = 0; delay = l.delay })
      (and_from _ _ (lt-ltb l.tail l.head (O.upwards k l h)) (lt-ltb l.head N.nodes (O.inside k l h)))

  pub turned_holds : (k : ℕ) (l : Lead D) → Holds N k l → Holds (turned_net N) k (flip N.nodes l)
  turned_holds k l h = ap (turn_place N.nodes) h ∙ ap {B = Option (Lead D)} (λ x. Some x) (turn_is k l h)

  pub turned_held : (k : ℕ) (m : Lead D) → Holds (turned_net N) k m → Behind N k m
  turned_held k m h = ⊎_elim
      (λ l. record { lead = l.0; holds = l.1; is = same_Some m (flip N.nodes l.0) (sym h ∙ turned_holds k l.0 l.1) })
      (λ n. absurd (none-some m (sym (ap (turn_place N.nodes) n) ∙ h)))
      (lead_or_none N k)

  pub turned_in_order : InOrder (turned_net N)
  turned_in_order = record {
    upwards = λ k m h. let b = turned_held k m h in let up = O.upwards k b.lead b.holds in let in' = O.inside k b.lead b.holds in
        subst (λ (x : Lead D). x.tail < x.head) (sym b.is) (omega arith);
    inside = λ k m h. let b = turned_held k m h in let up = O.upwards k b.lead b.holds in let in' = O.inside k b.lead b.holds in
        subst (λ (x : Lead D). x.head < N.nodes) (sym b.is) (omega arith);
  }

  turned_run : {u v : ℕ} {ks : List ℕ} → Run N u v ks → Run (turned_net N) (mirror N.nodes v) (mirror N.nodes u) (reverse ks)
  turned_run (stay e) = stay (ap (mirror N.nodes) (sym e))
  turned_run {u} {v} (along {k = k} {ks = ks} l h t r) =
      subst (Run (turned_net N) (mirror N.nodes v) (mirror N.nodes u)) (sym (reverse-cons k ks))
      (run_append (turned_run r) (along (flip N.nodes l) (turned_holds k l h) refl (stay (ap (mirror N.nodes) t))))

  -- leads into a node of the view are the leads out of it
  enters_turned : (v : ℕ) → v < N.nodes → (k : ℕ) → enters (turned_net N) (mirror N.nodes v) k ≡ leaves N v k
  enters_turned v i k = ⊎_elim
      (λ h. let l = h.0 in ap (head_is (mirror N.nodes v)) (turned_holds k l h.1)
      ∙ mirror_tells N.nodes l.tail v (omega (arith, O.upwards k l h.1, O.inside k l h.1)) i ∙ ap (tail_is v) (sym h.1))
      (λ n. ap (λ o. head_is (mirror N.nodes v) (turn_place N.nodes o)) n ∙ ap (tail_is v) (sym n))
      (lead_or_none N k)

  leaves_turned : (v : ℕ) → v < N.nodes → (k : ℕ) → leaves (turned_net N) (mirror N.nodes v) k ≡ enters N v k
  leaves_turned v i k = ⊎_elim
      (λ h. ap (tail_is (mirror N.nodes v)) (turned_holds k h.0 h.1) ∙ mirror_tells N.nodes h.0.head v (O.inside k h.0 h.1) i ∙ ap (head_is v) (sym h.1))
      (λ n. ap (λ o. tail_is (mirror N.nodes v) (turn_place N.nodes o)) n ∙ ap (head_is v) (sym n))
      (lead_or_none N k)

  pub in_turned : (v : ℕ) → v < N.nodes → has_lead_in (turned_net N) (mirror N.nodes v) ≡ has_lead_out N v
  in_turned v i = ap (some_below N.places) (fun_ext (enters_turned v i))

  pub out_turned : (v : ℕ) → v < N.nodes → has_lead_out (turned_net N) (mirror N.nodes v) ≡ has_lead_in N v
  out_turned v i = ap (some_below N.places) (fun_ext (leaves_turned v i))

  input_turned : (v : ℕ) → v < N.nodes → is_input (turned_net N) (mirror N.nodes v) ≡ is_output N v
  input_turned v i = ap (λ b. b && not (has_lead_in (turned_net N) (mirror N.nodes v))) (out_turned v i) ∙ ap (λ b. has_lead_in N v && not b) (in_turned v i)

  output_turned : (v : ℕ) → v < N.nodes → is_output (turned_net N) (mirror N.nodes v) ≡ is_input N v
  output_turned v i = ap (λ b. b && not (has_lead_out (turned_net N) (mirror N.nodes v))) (in_turned v i) ∙ ap (λ b. has_lead_out N v && not b) (out_turned v i)

module _ {D : Type 0} {N : Net D} (O : InOrder N) where
  flip_back : (l : Lead D) → l.tail < N.nodes → l.head < N.nodes → flip N.nodes (flip N.nodes l) ≡ l
  flip_back l t h =
      let p = mirror_back N.nodes l.tail t in let q = mirror_back N.nodes l.head h in
      ap {B = Lead D} (λ x. record { tail = x; head = mirror N.nodes (mirror N.nodes l.head); delay = l.delay }) p
      ∙ ap {B = Lead D} (λ x. record { tail = l.tail; head = x; delay = l.delay }) q

  turned_twice : (k : ℕ) → (turned_net (turned_net N)).at k ≡ N.at k
  turned_twice k = ⊎_elim
      (λ h. turned_holds (turned_in_order O) k (flip N.nodes h.0) (turned_holds O k h.0 h.1)
      ∙ ap {B = Option (Lead D)} (λ x. Some x) (flip_back h.0 (omega (arith, O.upwards k h.0 h.1, O.inside k h.0 h.1)) (O.inside k h.0 h.1)) ∙ sym h.1)
      (λ n. ap (λ o. turn_place N.nodes (turn_place N.nodes o)) n ∙ sym n)
      (lead_or_none N k)

  run_back : (u v : ℕ) (ks : List ℕ) → u < N.nodes → v < N.nodes →
      Run (turned_net N) (mirror N.nodes v) (mirror N.nodes u) (reverse ks) → Run N u v ks
  run_back u v ks i j r =
      subst (Run N u v) (reverse-reverse ks)
      (subst (λ x. Run N x v (reverse (reverse ks))) (mirror_back N.nodes u i)
      (subst (λ x. Run N (mirror N.nodes (mirror N.nodes u)) x (reverse (reverse ks))) (mirror_back N.nodes v j)
      (run_same turned_twice (turned_run (turned_in_order O) r))))

  pub mirrored : Mirrored N
  mirrored = record {
    there = λ u v ks r. turned_run O r;
    back = run_back;
    inputs = input_turned O;
    outputs = output_turned O;
    in_order = turned_in_order O;
    twice = turned_twice;
  }

module _ {D : Type 0} {K : Kind D} (L : Laws K) {N : Net D} (S : Sound K N) where
  pub turned_sound : Sound K (turned_net N)
  turned_sound = let O = turned_in_order (in_order S) in record {
    few_nodes = S.few_nodes;
    few_places = S.few_places;
    upwards = O.upwards;
    inside = O.inside;
    lawful = λ k m h. let b = turned_held (in_order S) k m h in ap (λ (x : Lead D). K.lawful x.delay) b.is ∙ S.lawful k b.lead b.holds;
  }

  -- turned round, a run keeps its delay
  turned_delay : (u v : ℕ) (ks : List ℕ) → v < N.nodes → Run N u v ks → delay_of K (turned_net N) (reverse ks) ≡ delay_of K N ks
  turned_delay u v [] i r = refl
  turned_delay u v (k ∷ ks) i (along l h t r) =
      let len = run_length S r in let up = S.upwards k l h in let few = S.few_nodes in
      ap (delay_of K (turned_net N)) (reverse-cons k ks)
      ∙ delay_last L turned_sound k (flip N.nodes l) (turned_holds (in_order S) k l h) (turned_run (in_order S) r)
      ∙ ap (λ x. K.plus x l.delay) (turned_delay l.head v ks i r)
      ∙ L.commutes (run_sum S r) (lead_sum S k l h) (omega arith)
      ∙ ap (λ x. K.plus x (delay_of K N ks)) (sym (at_delay K N k l h))

  bare_turned : (v : ℕ) → v < N.nodes → is_bare (turned_net N) (mirror N.nodes v) ≡ is_bare N v
  bare_turned v i = let O = in_order S in
      ap (λ b. not b && not (has_lead_out (turned_net N) (mirror N.nodes v))) (in_turned O v i) ∙ ap (λ b. not (has_lead_out N v) && not b) (out_turned O v i)
      ∙ and_comm (not (has_lead_out N v)) (not (has_lead_in N v))

  -- a longest run to the view's node, turned round, is a longest run from the node
  pub from_turned : (v : ℕ) (x : D) → v < N.nodes → To K (turned_net N) (mirror N.nodes v) x → From K N v x
  from_turned v x i (inl p) =
      let M = mirrored (in_order S) in
      let j : p.source < N.nodes = out_inside turned_sound p.source (input_parts (turned_net N) p.source p.from_input).0 in
      let w = mirror N.nodes p.source in
      let wi : w < N.nodes = mirror_inside N.nodes p.source j in
      let e : mirror N.nodes w ≡ p.source = mirror_back N.nodes p.source j in
      let run : Run N v w (reverse p.leads) = M.back v w (reverse p.leads) i wi
      (subst (Run (turned_net N) (mirror N.nodes w) (mirror N.nodes v)) (sym (reverse-reverse p.leads))
      (subst (λ s. Run (turned_net N) s (mirror N.nodes v) p.leads) (sym e) p.run)) in
      inl (record {
        sink = w;
        leads = reverse p.leads;
        to_output = sym (M.inputs w wi) ∙ ap (is_input (turned_net N)) e ∙ p.from_input;
        run = run;
        delay = sym (turned_delay v w (reverse p.leads) wi run) ∙ ap (delay_of K (turned_net N)) (reverse-reverse p.leads) ∙ p.delay;
        longest = λ z ks o r.
            let zi = in_inside S z (output_parts N z o).0 in
            subst (λ y. Le K y x) (turned_delay v z ks zi r)
            (p.longest (mirror N.nodes z) (reverse ks) (M.inputs z zi ∙ o) (M.there v z ks r));
      })
  from_turned v x i (inr p) = inr (sym (bare_turned v i) ∙ p.0, p.1)

  pub to_turned : (v : ℕ) (x : D) → v < N.nodes → From K N v x → To K (turned_net N) (mirror N.nodes v) x
  to_turned v x i (inl p) =
      let M = mirrored (in_order S) in
      let j = in_inside S p.sink (output_parts N p.sink p.to_output).0 in
      inl (record {
        source = mirror N.nodes p.sink;
        leads = reverse p.leads;
        from_input = M.inputs p.sink j ∙ p.to_output;
        run = M.there v p.sink p.leads p.run;
        delay = turned_delay v p.sink p.leads j p.run ∙ p.delay;
        longest = λ u ks e r.
            let ui = out_inside turned_sound u (input_parts (turned_net N) u e).0 in
            let z = mirror N.nodes u in
            let zi : z < N.nodes = mirror_inside N.nodes u ui in
            let b : mirror N.nodes z ≡ u = mirror_back N.nodes u ui in
            let run : Run N v z (reverse ks) = M.back v z (reverse ks) i zi
            (subst (Run (turned_net N) (mirror N.nodes z) (mirror N.nodes v)) (sym (reverse-reverse ks))
            (subst (λ s. Run (turned_net N) s (mirror N.nodes v) ks) (sym b) r)) in
            subst (λ y. Le K y x) (sym (turned_delay v z (reverse ks) zi run) ∙ ap (delay_of K (turned_net N)) (reverse-reverse ks))
            (p.longest z (reverse ks) (sym (M.inputs z zi) ∙ ap (is_input (turned_net N)) b ∙ e) run);
      })
  to_turned v x i (inr p) = inr (bare_turned v i ∙ p.0, p.1)

  pub mirrored_lengths : MirroredLengths K N
  mirrored_lengths = record { sound = turned_sound; delay = turned_delay; from_is_to = from_turned; to_is_from = to_turned }

pub turning : {D : Type 0} (N : Net D) → Turning N
turning N = (λ O. mirrored O, λ K L S. mirrored_lengths L S)
