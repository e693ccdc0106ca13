-- Two wirings with the same leads at the same places have the same list, even if one has more vacant places.
use Rattle.std.proofs.Common.{◌≡◌, ℕ, zero, suc, ◌≤◌, Bool, false, cond, not, ◌&&◌, ◌||◌, ltb, List, [], ◌∷◌, Some, None, Option, sym, refl, ap, ◌∙◌, subst, ap₂, inl, inr, ⊎_elim, arith}
use mathlib.Core.Path.{fun_ext}
use Rattle.std.proofs.lemmas.Bool.{cases_lt, and_left}
use Rattle.std.specs.Cmp.{both_ways}
use Rattle.wiring.specs.declared.Lead.{Lead}
use Rattle.delay.specs.Kind.{Kind, Le}
use Rattle.wiring.specs.Net.{Net, Holds, stands, tail_is, head_is, is_lead, leaves, enters, has_lead_in, has_lead_out, is_input, is_output, is_inner, is_bare}
use Rattle.wiring.specs.Paths.{delay_in, delay_of}
use Rattle.wiring.specs.Lengths.{To, From, Fed, Drains}
use Rattle.wiring.specs.Lengths.{Marks, Types}
use Rattle.wiring.specs.Loads.{starts, ends, is_start_lead, is_end_lead, sum_below, sum_where, Loads, total_load, Best, drain_out, fed_in, Balanced}
use Rattle.wiring.specs.Lists.{Lowest, lowered, tail_in, head_in, tail_at, head_node, begins, goes, Drawn, Draws, Walk, onwards, backwards, forwards}
use Rattle.wiring.proofs.Ends.{lead_in, lead_out, has_in, has_out}
use Rattle.wiring.proofs.Types.{none_at}
use Rattle.wiring.proofs.Turning.{run_same}
use Rattle.drawing.specs.Claims.{SameLeadsSameList}

sum_past : (m n : ℕ) (g : ℕ → ℕ) → n ≤ m → ((k : ℕ) → n ≤ k → g k ≡ 0) → sum_below m g ≡ sum_below n g
sum_past zero n g h z = let e : 0 ≡ n = omega arith in ap (λ (x : ℕ). sum_below x g) e
sum_past (suc m) n g h z = ⊎_elim
    (λ i. let e : suc m ≡ n = omega arith in ap (λ (x : ℕ). sum_below x g) e)
    (λ i. let rest = sum_past m n g i z in let last = z m i in omega arith)
    (cases_lt m n)

-- two wirings that agree in all that the definitions ask
record Alike {D : Type 0} (N M : Net D) : Type 0 where
  same : (k : ℕ) → N.at k ≡ M.at k
  ins : (v : ℕ) → has_lead_in N v ≡ has_lead_in M v
  outs : (v : ℕ) → has_lead_out N v ≡ has_lead_out M v
  sums : (P : ℕ → Bool) (f : ℕ → ℕ) → ((k : ℕ) → is_lead N k ≡ false → P k ≡ false) → sum_where N.places P f ≡ sum_where M.places P f

module _ {D : Type 0} {N M : Net D} (A : Alike N M) where
  leads_same : (k : ℕ) → is_lead N k ≡ is_lead M k
  leads_same k = ap stands (A.same k)

  back : Alike M N
  back = record {
    same = λ k. sym (A.same k);
    ins = λ v. sym (A.ins v);
    outs = λ v. sym (A.outs v);
    sums = λ P f h. sym (A.sums P f (λ k e. h k (sym (leads_same k) ∙ e)));
  }

  input_same : (v : ℕ) → is_input N v ≡ is_input M v
  input_same v = ap₂ (λ (a b : Bool). a && not b) (A.outs v) (A.ins v)

  output_same : (v : ℕ) → is_output N v ≡ is_output M v
  output_same v = ap₂ (λ (a b : Bool). a && not b) (A.ins v) (A.outs v)

  inner_same : (v : ℕ) → is_inner N v ≡ is_inner M v
  inner_same v = ap₂ (λ (a b : Bool). a && b) (A.ins v) (A.outs v)

  bare_same : (v : ℕ) → is_bare N v ≡ is_bare M v
  bare_same v = ap₂ (λ (a b : Bool). not a && not b) (A.ins v) (A.outs v)

  holds_same : {k : ℕ} {l : Lead D} → Holds N k l → Holds M k l
  holds_same {k} h = sym (A.same k) ∙ h

  delay_same : (K : Kind D) (ks : List ℕ) → delay_of K N ks ≡ delay_of K M ks
  delay_same K [] = refl
  delay_same K (k ∷ ks) = ap₂ K.plus (ap (delay_in K) (A.same k)) (delay_same K ks)

  start_same : (m : Marks) (k : ℕ) → is_start_lead N m k ≡ is_start_lead M m k
  start_same m k = ap (starts N (m k)) (A.same k) ∙ go (M.at k)
    where
      go : (o : Option (Lead D)) → starts N (m k) o ≡ starts M (m k) o
      go (Some l) = ap (λ (b : Bool). not (m k).0 || b) (input_same l.tail)
      go None = refl

  end_same : (m : Marks) (k : ℕ) → is_end_lead N m k ≡ is_end_lead M m k
  end_same m k = ap (ends N (m k)) (A.same k) ∙ go (M.at k)
    where
      go : (o : Option (Lead D)) → ends N (m k) o ≡ ends M (m k) o
      go (Some l) = ap (λ (b : Bool). not (m k).1 || b) (output_same l.head)
      go None = refl

  fed_same : (m : Marks) (v : ℕ) → fed_in N m v ≡ fed_in M m v
  fed_same m v = fun_ext (λ k. ap (λ (o : Option (Lead D)). head_is v o && (m k).1) (A.same k))

  drain_same : (m : Marks) (v : ℕ) → drain_out N m v ≡ drain_out M m v
  drain_same m v = fun_ext (λ k. ap (λ (o : Option (Lead D)). tail_is v o && (m k).0) (A.same k))

  -- sums over leads that pass a test
  sum_same : {P Q : ℕ → Bool} (f : ℕ → ℕ) → P ≡ Q → ((k : ℕ) → N.at k ≡ None → P k ≡ false) → sum_where N.places P f ≡ sum_where M.places Q f
  sum_same {P} f e none = A.sums P f (λ k z. none k (none_at N k z)) ∙ ap (λ (R : ℕ → Bool). sum_where M.places R f) e

  total_same : (m : Marks) (f : ℕ → ℕ) → total_load N m f ≡ total_load M m f
  total_same m f = sum_same f (fun_ext (start_same m)) (λ k z. ap (starts N (m k)) z)

  balanced_same : (m : Marks) (f : ℕ → ℕ) → Balanced N m f → Balanced M m f
  balanced_same m f B v i =
      sym (sum_same f (fed_same m v) (λ k z. and_left (enters N v k) (m k).1 (ap (head_is v) z)))
      ∙ B v (inner_same v ∙ i)
      ∙ sum_same f (drain_same m v) (λ k z. and_left (leaves N v k) (m k).0 (ap (tail_is v) z))

module _ {D : Type 0} {N M : Net D} (A : Alike N M) (K : Kind D) where
  to_same : {v : ℕ} {x : D} → To K N v x → To K M v x
  to_same {v} {x} (inl t) = inl (record {
    source = t.source;
    leads = t.leads;
    from_input = sym (input_same A t.source) ∙ t.from_input;
    run = run_same A.same t.run;
    delay = sym (delay_same A K t.leads) ∙ t.delay;
    longest = λ u ks i r. subst (λ (y : D). Le K y x) (delay_same A K ks) (t.longest u ks (input_same A u ∙ i) (run_same (back A).same r));
  })
  to_same {v} (inr t) = inr (sym (bare_same A v) ∙ t.0, t.1)

  from_same : {v : ℕ} {x : D} → From K N v x → From K M v x
  from_same {v} {x} (inl t) = inl (record {
    sink = t.sink;
    leads = t.leads;
    to_output = sym (output_same A t.sink) ∙ t.to_output;
    run = run_same A.same t.run;
    delay = sym (delay_same A K t.leads) ∙ t.delay;
    longest = λ w ks o r. subst (λ (y : D). Le K y x) (delay_same A K ks) (t.longest w ks (output_same A w ∙ o) (run_same (back A).same r));
  })
  from_same {v} (inr t) = inr (sym (bare_same A v) ∙ t.0, t.1)

  fed_kept : {k : ℕ} → Fed K N k → Fed K M k
  fed_kept F = record {
    lead = F.lead;
    holds = holds_same A F.holds;
    at_tail = F.at_tail;
    at_head = F.at_head;
    to_tail = to_same F.to_tail;
    to_head = to_same F.to_head;
    sums = F.sums;
  }

  drains_kept : {k : ℕ} → Drains K N k → Drains K M k
  drains_kept F = record {
    lead = F.lead;
    holds = holds_same A F.holds;
    at_tail = F.at_tail;
    at_head = F.at_head;
    from_tail = from_same F.from_tail;
    from_head = from_same F.from_head;
    sums = F.sums;
  }

module _ {D : Type 0} {N M : Net D} (A : Alike N M) (m : Marks) where
  types_alike : (K : Kind D) → Types K N m → Types K M m
  types_alike K Y = record {
    drains = λ k e. let p = Y.drains k (leads_same A k ∙ e) in (λ t. drains_kept A K (p.0 t), λ d. p.1 (drains_kept (back A) K d));
    fed = λ k e. let p = Y.fed k (leads_same A k ∙ e) in (λ t. fed_kept A K (p.0 t), λ d. p.1 (fed_kept (back A) K d));
    vacant = λ k e. Y.vacant k (leads_same A k ∙ e);
  }

  loads_same : {f : ℕ → ℕ} → Loads N m f → Loads M m f
  loads_same {f} F = record {
    leads = λ k e. F.leads k (leads_same A k ∙ e);
    vacant = λ k e. F.vacant k (leads_same A k ∙ e);
    balanced = balanced_same A m f F.balanced;
  }

module _ {D : Type 0} {N M : Net D} (A : Alike N M) (m : Marks) where
  best_same : {f : ℕ → ℕ} → Best N m f → Best M m f
  best_same {f} B = record {
    loads = loads_same A m B.loads;
    least = λ g G. omega (arith, B.least g (loads_same (back A) m G), total_same A m f, total_same A m g);
    first = λ g G e b. B.first g (loads_same (back A) m G) (total_same A m g ∙ e ∙ sym (total_same A m f)) b;
  }

  begins_same : (left : ℕ → ℕ) → begins N m left ≡ begins M m left
  begins_same left = fun_ext (λ j. ap (λ (b : Bool). b && ltb 0 (left j)) (start_same A m j))

  goes_same : (left : ℕ → ℕ) (k : ℕ) → goes N m left (head_node N k) ≡ goes M m left (head_node M k)
  goes_same left k = fun_ext (λ j. ap₂ (λ (v : ℕ) (o : Option (Lead D)). (tail_is v o && (m j).0) && ltb 0 (left j)) (ap head_in (A.same k)) (A.same j))

  onwards_same : (left : ℕ → ℕ) → onwards N m left ≡ onwards M m left
  onwards_same left = let p = fun_ext (end_same A m) in let q = fun_ext (goes_same left) in λ i. record { done = p i; by = q i; next = λ j. j }

  backwards_same : backwards N m ≡ backwards M m
  backwards_same =
      let p = fun_ext (input_same A) in let q = fun_ext (fed_same A m) in let r = fun_ext (λ k. ap tail_in (A.same k)) in
      λ i. record { done = p i; by = q i; next = r i }

  forwards_same : forwards N m ≡ forwards M m
  forwards_same =
      let p = fun_ext (output_same A) in let q = fun_ext (drain_same A m) in let r = fun_ext (λ k. ap head_in (A.same k)) in
      λ i. record { done = p i; by = q i; next = r i }

  drawn_same : {left : ℕ → ℕ} {core p : List ℕ} → Drawn N m left core p → Drawn M m left core p
  drawn_same {left} R = record {
    start = R.start;
    rest = R.rest;
    stop = R.stop;
    behind = R.behind;
    input = R.input;
    ahead = R.ahead;
    output = R.output;
    lowest = subst (λ (P : ℕ → Bool). Lowest P R.start) (begins_same left) R.lowest;
    onward = subst (λ X. Walk X R.start R.rest R.stop) (onwards_same left) R.onward;
    back = subst (λ (x : ℕ). Walk (backwards M m) x R.behind R.input) (ap tail_in (A.same R.start))
        (subst (λ X. Walk X (tail_at N R.start) R.behind R.input) backwards_same R.back);
    fore = subst (λ (x : ℕ). Walk (forwards M m) x R.ahead R.output) (ap head_in (A.same R.stop))
        (subst (λ X. Walk X (head_node N R.stop) R.ahead R.output) forwards_same R.fore);
    core_is = R.core_is;
    path_is = R.path_is;
  }

  draws_same : (left : ℕ → ℕ) (ps : List (List ℕ)) → Draws N m left ps → Draws M m left ps
  draws_same left [] d = d
  draws_same left (p ∷ ps) d = (d.0, drawn_same d.1, draws_same (lowered left d.0) ps d.2)

-- leads at the same places make two wirings alike
alike : {D : Type 0} {N M : Net D} → ((k : ℕ) → N.at k ≡ M.at k) → Alike N M
alike {N = N} {M = M} e = record {
  same = e;
  ins = λ v. both_ways (has_lead_in N v) (has_lead_in M v)
      (λ t. let i = lead_in N v t in has_in M i.place i.lead v (sym (e i.place) ∙ i.holds) i.ends)
      (λ t. let i = lead_in M v t in has_in N i.place i.lead v (e i.place ∙ i.holds) i.ends);
  outs = λ v. both_ways (has_lead_out N v) (has_lead_out M v)
      (λ t. let i = lead_out N v t in has_out M i.place i.lead v (sym (e i.place) ∙ i.holds) i.begins)
      (λ t. let i = lead_out M v t in has_out N i.place i.lead v (e i.place ∙ i.holds) i.begins);
  sums = λ P f h.
      let none : (k : ℕ) → N.at k ≡ None → cond (P k) (f k) 0 ≡ 0 = λ k z. ap (λ (b : Bool). cond b (f k) 0) (h k (ap stands z)) in
      ⊎_elim
      (λ i. sym (sum_past M.places N.places (λ k. cond (P k) (f k) 0) (omega arith) (λ k j. none k (N.vacant k j))))
      (λ i. sum_past N.places M.places (λ k. cond (P k) (f k) 0) i (λ k j. none k (e k ∙ M.vacant k j)))
      (cases_lt N.places M.places);
}

-- so the list stays the list
pub same_leads : {D : Type 0} → SameLeadsSameList D
same_leads K N M e ps X = let A = alike e in record {
  marks = X.marks;
  types = types_alike A X.marks K X.types;
  loads = X.loads;
  best = best_same A X.marks X.best;
  draws = draws_same A X.marks X.loads ps X.draws;
}
