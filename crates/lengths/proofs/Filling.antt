-- Filling a table of lengths node by node: what keeps the rule at a node, and that the rules give To and From.
use Rattle.std.proofs.Common.{◌≡◌, ℕ, zero, suc, ◌+◌, ◌<◌, ◌≢◌, List, length, set, Some, None, Option, unwrap_or, sym, refl, ap, ◌∙◌, subst, ⊎_elim, arith, get_or-set_other, get_or-set_same, below_more}
use Rattle.std.proofs.lemmas.Bool.{cases_Bool, both_ways}
use Rattle.delay.specs.Kind.{Kind, SumOf, none, both, Within, Laws, Le}
use Rattle.wiring.specs.declared.Lead.{Lead}
use Rattle.wiring.specs.Net.{Net, Holds, Sound, has_lead_in}
use Rattle.wiring.specs.Lengths.{From}
use Rattle.wiring.specs.Views.{mirror, turned_net}
use Rattle.wiring.proofs.Ends.{below_places, head_inside, lead_in, has_in, in_inside, out_inside, input_parts, output_parts}
use Rattle.wiring.proofs.Runs.{lead_sum}
use Rattle.wiring.proofs.Local.{LocalTo, to_from_local}
use Rattle.wiring.proofs.Lengths.{to_unique}
use Rattle.wiring.proofs.Turning.{from_turned}
use Rattle.wiring.proofs.FromLengths.{from_unique, local_from}
use Rattle.lengths.specs.Tables.{entry, HoldsTo, HoldsFrom}
use Rattle.lengths.specs.Steps.{offer, LengthAt}
use Rattle.lengths.proofs.Best.{BestBelow}

-- the table to keeps the rule at every node below v
abbrev pub Each : {D : Type 0} → Kind D → Net D → (ℕ → D) → ℕ → Type 0
Each K N to v = (u : ℕ) → u < v → LengthAt K N to u (to u)

module _ {D : Type 0} (K : Kind D) (N : Net D) (S : Sound K N) where
  -- the rule at v asks only for lengths below v
  pub length_kept : (to next : ℕ → D) (v : ℕ) (x : D) → ((u : ℕ) → u < v → to u ≡ next u) → LengthAt K N to v x → LengthAt K N next v x
  length_kept to next v x same R = record {
    start = R.start;
    bounds = λ k l h e. let b = head_inside S k l h in
        subst (λ y. Le K (K.plus y l.delay) x) (same l.tail (omega arith)) (R.bounds k l h e);
    met = λ e. let f = R.met e in let b = head_inside S f.0 f.1 f.2 in
        (f.0, f.1, f.2, f.3, ap (λ y. K.plus y f.1.delay) (sym (same f.1.tail (omega (arith, f.3)))) ∙ f.4);
  }

  sums_below : (to : ℕ → D) (v : ℕ) → Each K N to v → (n u : ℕ) → u < n → u < v → SumOf K u (to u)
  sums_below to v R zero u h i = absurd (omega arith)
  sums_below to v R (suc n) u h i = ⊎_elim
      (λ e. let f = (R u i).met e in let b = head_inside S f.0 f.1 f.2 in let t = f.3 in
      subst (SumOf K u) f.4
      (both (omega arith) (sums_below to v R n f.1.tail (omega arith) (omega arith)) (lead_sum S f.0 f.1 f.2)))
      (λ e. subst (SumOf K u) (sym ((R u i).start e)) none)
      (cases_Bool (has_lead_in N u))

  -- what the leads into v offer are sums for which the laws hold
  pub offers_within : (to : ℕ → D) (v : ℕ) → Each K N to v → (k : ℕ) (l : Lead D) → Holds N k l → l.head ≡ v → Within K (offer K to l)
  offers_within to v R k l h e = let b = head_inside S k l h in
      both (omega arith) (sums_below to v R v l.tail (omega arith) (omega arith)) (lead_sum S k l h)

  length_if_none : (to : ℕ → D) (v : ℕ) → BestBelow K N (λ l. l.head ≡ v) (offer K to) N.places None → LengthAt K N to v K.zero
  length_if_none to v h = record {
    start = λ e. refl;
    bounds = λ k l a e. absurd (h k (below_places N k l a) l a e);
    met = λ e. let i = lead_in N v e in absurd (h i.place (below_places N i.place i.lead i.holds) i.lead i.holds i.ends);
  }

  length_if_some : (to : ℕ → D) (v : ℕ) (b : D) → BestBelow K N (λ l. l.head ≡ v) (offer K to) N.places (Some b) → LengthAt K N to v b
  length_if_some to v b h = let w = h.0 in record {
    start = λ e. absurd (both_ways (has_lead_in N v) e (has_in N w.0 w.1 v w.3 w.4));
    bounds = λ k l a e. h.1 k (below_places N k l a) l a e;
    met = λ e. (w.0, w.1, w.3, w.4, w.5);
  }

  -- the longest that the leads into v offer is the length at v, and zero where there is no lead
  pub length_of_best : (to : ℕ → D) (v : ℕ) (best : Option D) → BestBelow K N (λ l. l.head ≡ v) (offer K to) N.places best → LengthAt K N to v (unwrap_or best K.zero)
  length_of_best to v None h = length_if_none to v h
  length_of_best to v (Some b) h = length_if_some to v b h

  -- one entry more
  pub fill_step : (xs : List D) (v : ℕ) (x : D) → v < length xs → Each K N (entry K xs) v → LengthAt K N (entry K xs) v x → Each K N (entry K (set xs v x)) (v + 1)
  fill_step xs v x i R Y =
      let same : (u : ℕ) → u < v → entry K xs u ≡ entry K (set xs v x) u = λ u h. let ne : u ≢ v = omega arith in sym (get_or-set_other xs v u x K.zero ne) in
      let here : entry K (set xs v x) v ≡ x = get_or-set_same xs v x K.zero i in
      below_more _ v
      (λ u h. subst (LengthAt K N (entry K (set xs v x)) u) (same u h) (length_kept (entry K xs) (entry K (set xs v x)) u (entry K xs u) (λ t j. same t (omega arith)) (R u h)))
      (subst (LengthAt K N (entry K (set xs v x)) v) (sym here) (length_kept (entry K xs) (entry K (set xs v x)) v x same Y))

  rules : (to : ℕ → D) → Each K N to N.nodes → LocalTo K N to
  rules to R = record {
    starts = λ v i e. (R v i).start e;
    bounds = λ k l h. (R l.head (S.inside k l h)).bounds k l h refl;
    met = λ v e. let f = (R v (in_inside S v e)).met e in record { place = f.0; lead = f.1; holds = f.2; ends = f.3; sums = f.4 };
  }

  -- a table that keeps the rule at each node holds To
  pub holds_to : Laws K → (xs : List D) → Each K N (entry K xs) N.nodes → HoldsTo K N xs
  holds_to L xs R =
      let T = to_from_local L S (entry K xs) (rules (entry K xs) R) in
      record {
        longest = T;
        only = λ v x i t. to_unique L S i t (T v i);
        inputs = λ v e. let p = input_parts N v e in (R v (out_inside S v p.0)).start p.1;
      }

  -- To of the turned view, read backwards, is From
  pub holds_from : Laws K → (xs ys : List D) → HoldsTo K (turned_net N) ys → ((v : ℕ) → v < N.nodes → entry K xs v ≡ entry K ys (mirror N.nodes v)) → HoldsFrom K N xs
  holds_from L xs ys H same =
      let T : (v : ℕ) → v < N.nodes → From K N v (entry K xs v) = λ v i. subst (From K N v) (sym (same v i)) (from_turned L S v (entry K ys (mirror N.nodes v)) i (H.longest (mirror N.nodes v) (omega arith))) in
      record {
        longest = T;
        only = λ v x i t. from_unique L S i t (T v i);
        outputs = λ v e. let p = output_parts N v e in (local_from L S (entry K xs) T).stops v (in_inside S v p.0) p.1;
      }
