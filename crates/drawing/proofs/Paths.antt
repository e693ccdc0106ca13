-- A drawn path is a path, and covers each lead of its core.
use Rattle.std.proofs.Common.{◌≡◌, ℕ, ◌<◌, true, List, [], ◌∷◌, ◌++◌, reverse, length, sym, refl, ap, ◌∙◌, subst, inl, inr, ⊎_elim, append_assoc, arith}
use mathlib.Core.List.{reverse-cons}
use Rattle.std.proofs.lemmas.Bool.{both_ways}
use Rattle.wiring.specs.declared.Lead.{Lead}
use Rattle.delay.specs.Kind.{Kind, Laws}
use Rattle.wiring.specs.Net.{Net, Holds, Sound, stands, is_input, is_output}
use Rattle.wiring.specs.Paths.{Run, stay, along, On, PathOf, Covers, delay_of}
use Rattle.wiring.specs.Lengths.{Marks, Types}
use Rattle.wiring.specs.Loads.{is_end_lead}
use Rattle.wiring.specs.Lists.{head_node, Drawn, Walk, onwards, backwards, forwards}
use Rattle.wiring.proofs.Ends.{out_inside, in_inside, input_parts, output_parts}
use Rattle.wiring.proofs.Runs.{at_delay, run_append, run_one, run_through, run_length, run_inside, delay_last}
use Rattle.wiring.proofs.Lengths.{local_to, fed_sums}
use Rattle.wiring.proofs.FromLengths.{local_from, drains_sums}
use Rattle.wiring.proofs.Cover.{Tables, parts_cover}
use Rattle.wiring.proofs.Steps.{covers_next}
use Rattle.cover.proofs.Arcs.{end_lies}
use Rattle.drawing.proofs.Parts.{Out, In, out_parts, in_parts, goes_parts, first_parts, tail_of, head_of}

-- a longest run from an input to v, and one from v to an output
record Came {D : Type 0} (K : Kind D) (N : Net D) (to : ℕ → D) (v : ℕ) (ks : List ℕ) : Type 0 where
  source : ℕ
  from_input : is_input N source ≡ true
  run : Run N source v ks
  delay : delay_of K N ks ≡ to v

record Going {D : Type 0} (K : Kind D) (N : Net D) (from : ℕ → D) (v : ℕ) (ks : List ℕ) : Type 0 where
  sink : ℕ
  to_output : is_output N sink ≡ true
  run : Run N v sink ks
  delay : delay_of K N ks ≡ from v

-- a path has fewer leads than the wiring has nodes
pub path_few : {D : Type 0} {K : Kind D} {N : Net D} → Sound K N → {p : List ℕ} → PathOf N p → length p < N.nodes
path_few {N = N} S P =
    let i = out_inside S P.source (input_parts N P.source P.from_input).0 in
    omega (arith, run_length S P.run, run_inside S i P.run)

module _ {D : Type 0} {K : Kind D} (L : Laws K) {N : Net D} (S : Sound K N) {to from : ℕ → D} (T : Tables K N to from) {m : Marks} (Y : Types K N m) where
  more_behind : {v k : ℕ} {ks : List ℕ} (i : In N m v k) → Came K N to i.lead.tail ks → Came K N to v (ks ++ (k ∷ []))
  more_behind {v} {k} {ks} i c =
      let l = i.lead in let h = i.holds in
      record {
        source = c.source;
        from_input = c.from_input;
        run = subst (λ w. Run N c.source w (ks ++ (k ∷ []))) i.ends (run_append c.run (run_one k l h));
        delay = delay_last L S k l h c.run ∙ ap (λ x. K.plus x l.delay) c.delay
            ∙ fed_sums L S to T.to_is k l h ((Y.fed k (ap stands h)).0 i.fed) ∙ ap to i.ends;
      }

  more_ahead : {v k : ℕ} {ks : List ℕ} (o : Out N m v k) → Going K N from o.lead.head ks → Going K N from v (k ∷ ks)
  more_ahead {v} {k} {ks} o c =
      let l = o.lead in let h = o.holds in
      record {
        sink = c.sink;
        to_output = c.to_output;
        run = along l h o.begins c.run;
        delay = ap (λ x. K.plus x (delay_of K N ks)) (at_delay K N k l h) ∙ ap (K.plus l.delay) c.delay
            ∙ drains_sums L S from T.from_is k l h ((Y.drains k (ap stands h)).0 o.drains) ∙ ap from o.begins;
      }

  behind_run : (u v : ℕ) (js : List ℕ) → Walk (backwards N m) v js u → Came K N to v (reverse js)
  behind_run u v [] b =
      let p = input_parts N v b.0 in
      record { source = v; from_input = b.0; run = stay refl; delay = sym ((local_to L S to T.to_is).starts v (out_inside S v p.0) p.1) }
  behind_run u v (j ∷ js) b =
      let i = in_parts N m v j b.1.holds in
      subst (Came K N to v) (sym (reverse-cons j js))
      (more_behind i (behind_run u i.lead.tail js (subst (λ (w : ℕ). Walk (backwards N m) w js u) (tail_of N j i.lead i.holds) b.2)))

  ahead_run : (u v : ℕ) (js : List ℕ) → Walk (forwards N m) v js u → Going K N from v js
  ahead_run u v [] b =
      let p = output_parts N v b.0 in
      record { sink = v; to_output = b.0; run = stay refl; delay = sym ((local_from L S from T.from_is).stops v (in_inside S v p.0) p.1) }
  ahead_run u v (j ∷ js) b =
      let o = out_parts N m v j b.1.holds in
      more_ahead o (ahead_run u o.lead.head js (subst (λ (w : ℕ). Walk (forwards N m) w js u) (head_of N j o.lead o.holds) b.2))

  onward_run : (left : ℕ → ℕ) (u k : ℕ) (js fs : List ℕ) (stop : ℕ) → Walk (onwards N m left) k js stop → Walk (forwards N m) (head_node N stop) fs u →
      Going K N from (head_node N k) (js ++ fs)
  onward_run left u k [] fs stop b a = subst (λ (w : ℕ). Going K N from w fs) (sym (ap (head_node N) b.1)) (ahead_run u (head_node N stop) fs a)
  onward_run left u k (j ∷ js) fs stop b a =
      let o = (goes_parts N m left (head_node N k) j b.1).0 in
      more_ahead o (subst (λ (w : ℕ). Going K N from w (js ++ fs)) (head_of N j o.lead o.holds) (onward_run left u j js fs stop b.2 a))

  -- from a lead of the core covering goes on to the next one
  core_covers : (left : ℕ → ℕ) (pre : List ℕ) (k : ℕ) (l : Lead D) → Holds N k l → (js fs : List ℕ) (stop : ℕ) → Walk (onwards N m left) k js stop →
      Covers K N (pre ++ (k ∷ (js ++ fs))) k → (i : ℕ) → On i (k ∷ js) → Covers K N (pre ++ (k ∷ (js ++ fs))) i
  core_covers left pre k l h [] fs stop b V i (inl e) = subst (Covers K N (pre ++ (k ∷ fs))) (sym e) V
  core_covers left pre k l h [] fs stop b V i (inr o) = elim o [ ]
  core_covers left pre k l h (j ∷ js) fs stop b V i (inl e) = subst (Covers K N (pre ++ (k ∷ (j ∷ (js ++ fs))))) (sym e) V
  core_covers left pre k l h (j ∷ js) fs stop b V i (inr o) =
      let f = (Y.fed k (ap stands h)).0 (⊎_elim (λ c. absurd (both_ways (is_end_lead N m k) b.0 c.0)) (λ c. c.2) (end_lies N m k l h)) in
      let n = (goes_parts N m left (head_node N k) j b.1).0 in
      let back = append_assoc pre (k ∷ []) (j ∷ (js ++ fs)) in
      subst (λ (p : List ℕ). Covers K N p i) back
      (core_covers left (pre ++ (k ∷ [])) j n.lead n.holds js fs stop b.2
      (subst (λ (p : List ℕ). Covers K N p j) (sym back) (covers_next L S T pre (js ++ fs) V f).0) i o)

  -- the drawn path, cut at the start lead, with both parts longest
  drawn_covers_start : {left : ℕ → ℕ} {core p : List ℕ} (R : Drawn N m left core p) →
      Covers K N (reverse R.behind ++ (R.start ∷ (R.rest ++ R.ahead))) R.start
  drawn_covers_start {left} R =
      let F = first_parts N m left R.start R.lowest in
      let l = F.lead in let h = F.holds in
      let c = behind_run R.input l.tail R.behind
      (subst (λ (w : ℕ). Walk (backwards N m) w R.behind R.input) (tail_of N R.start l h) R.back) in
      let g = subst (λ (w : ℕ). Going K N from w (R.rest ++ R.ahead)) (head_of N R.start l h)
      (onward_run left R.output R.start R.rest R.ahead R.stop R.onward R.fore) in
      parts_cover L S T l h (reverse R.behind) (R.rest ++ R.ahead)
      (record {
        source = c.source;
        sink = g.sink;
        from_input = c.from_input;
        to_output = g.to_output;
        run = run_through (record { lead = l; holds = h; before = c.run; after = g.run });
      })
      (record { before = c.delay; after = g.delay })

  -- a drawn path covers every lead of its core
  pub drawn_covers : {left : ℕ → ℕ} {core p : List ℕ} → Drawn N m left core p → (k : ℕ) → On k core → Covers K N p k
  drawn_covers {left} {core} {p} R k o =
      let F = first_parts N m left R.start R.lowest in
      let is : p ≡ reverse R.behind ++ (R.start ∷ (R.rest ++ R.ahead)) = R.path_is
      ∙ ap (λ (c : List ℕ). reverse R.behind ++ (c ++ R.ahead)) R.core_is in
      subst (λ (q : List ℕ). Covers K N q k) (sym is)
      (core_covers left (reverse R.behind) R.start F.lead F.holds R.rest R.ahead R.stop R.onward (drawn_covers_start R) k
      (subst (On k) R.core_is o))

  -- and is a path
  pub drawn_path : {left : ℕ → ℕ} {core p : List ℕ} → Drawn N m left core p → PathOf N p
  drawn_path R = (drawn_covers R R.start (subst (On R.start) (sym R.core_is) (inl refl))).path
