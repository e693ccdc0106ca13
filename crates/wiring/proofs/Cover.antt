-- Covering, seen locally: which leads a path covers, and how covering goes on along it.
use Rattle.std.proofs.Common.{◌≡◌, ℕ, ◌+◌, ◌-◌, ◌<◌, ◌≤◌, true, ◌⊎◌, List, ◌∷◌, ◌++◌, sym, refl, ap, ◌∙◌, subst, inl, inr, ⊎_elim, arith}
use Rattle.std.proofs.lemmas.Bool.{both_ways}
use Rattle.wiring.specs.declared.Lead.{Lead}
use Rattle.delay.specs.Kind.{Kind, SumOf, both, most_leads, Within, Laws, Le}
use Rattle.wiring.specs.Net.{Net, Holds, Sound, has_lead_in, is_input, is_output}
use Rattle.wiring.specs.Paths.{Run, stay, along, On, PathOf, Covers, delay_of}
use Rattle.wiring.specs.Lengths.{To, From, LongestThrough, through_by}
use Rattle.delay.proofs.Sums.{weaken, le_refl, le_eq, le_plus, plus_mono, parts_same, same_or_not}
use Rattle.wiring.proofs.Ends.{one_lead, head_inside, has_in, has_out, in_inside, out_inside, input_parts, output_parts}
use Rattle.wiring.proofs.Runs.{run_few, run_sum, run_to_sum, run_from_sum, lead_sum, Through, run_split, run_through, split_at, on_split, on_or_not, delay_through}
use Rattle.wiring.proofs.Lengths.{to_sum, from_sum, to_bound, from_bound, to_met, from_met}

-- to and from are the lengths of all nodes
pub record Tables {D : Type 0} (K : Kind D) (N : Net D) (to from : ℕ → D) : Type 0 where
  pub to_is : (v : ℕ) → v < N.nodes → To K N v (to v)
  pub from_is : (v : ℕ) → v < N.nodes → From K N v (from v)

-- the leads pre before the lead l, and post after it, are both longest
pub record LongestParts {D : Type 0} (K : Kind D) (N : Net D) (to from : ℕ → D) (l : Lead D) (pre post : List ℕ) : Type 0 where
  pub before : delay_of K N pre ≡ to l.tail
  pub after : delay_of K N post ≡ from l.head

-- a path that is cut at the lead k
pub record Cut {D : Type 0} (N : Net D) (k : ℕ) (pre post : List ℕ) : Type 0 where
  pub source : ℕ
  pub sink : ℕ
  pub from_input : is_input N source ≡ true
  pub to_output : is_output N sink ≡ true
  pub through : Through N source sink k pre post

pub cut_path : {D : Type 0} {N : Net D} {k : ℕ} (pre : List ℕ) {post : List ℕ} → PathOf N (pre ++ (k ∷ post)) → Cut N k pre post
cut_path pre P = record { source = P.source; sink = P.sink; from_input = P.from_input; to_output = P.to_output; through = run_split pre P.run }

pub join_path : {D : Type 0} {N : Net D} {k : ℕ} {pre post : List ℕ} → Cut N k pre post → PathOf N (pre ++ (k ∷ post))
join_path C = record { source = C.source; sink = C.sink; from_input = C.from_input; to_output = C.to_output; run = run_through C.through }

-- a path has a first lead, since no node is both an input and an output
pub path_starts : {D : Type 0} {N : Net D} {p : List ℕ} → PathOf N p → (k : ℕ) × (l : Lead D) × Holds N k l × On k p
path_starts {D} {N} P = first P.from_input P.to_output P.run
  where
    first : {u v : ℕ} {ks : List ℕ} → is_input N u ≡ true → is_output N v ≡ true → Run N u v ks → (k : ℕ) × (l : Lead D) × Holds N k l × On k ks
    first {u} {v} i o (stay e) = absurd (both_ways (has_lead_in N u) (input_parts N u i).1 (ap (has_lead_in N) e ∙ (output_parts N v o).0))
    first i o (along {k = k} l h t r) = (k, l, h, inl refl)

-- the delay of a path is a sum for which the laws hold
pub path_within : {D : Type 0} {K : Kind D} {N : Net D} {p : List ℕ} → Sound K N → PathOf N p → Within K (delay_of K N p)
path_within {N = N} S P = weaken (run_few S (out_inside S P.source (input_parts N P.source P.from_input).0) P.run) (run_sum S P.run)

module _ {D : Type 0} {K : Kind D} (L : Laws K) {N : Net D} (S : Sound K N) {to from : ℕ → D} (T : Tables K N to from) where
  sink_inside : {k : ℕ} {pre post : List ℕ} (C : Cut N k pre post) → C.sink < N.nodes
  sink_inside C = in_inside S C.sink (output_parts N C.sink C.to_output).0

  -- what is known of the four lengths at a lead on a path
  record Around (l : Lead D) (pre post : List ℕ) : Type 0 where
    bounds : (l.tail < l.head) × (l.head < N.nodes) × (N.nodes ≤ 4096)
    pre_sum : SumOf K l.tail (delay_of K N pre)
    to_sum' : SumOf K l.tail (to l.tail)
    lead_sum' : SumOf K 1 l.delay
    post_sum : SumOf K (most_leads - l.head) (delay_of K N post)
    from_sum' : SumOf K (most_leads - l.head) (from l.head)
    pre_le : Le K (delay_of K N pre) (to l.tail)
    post_le : Le K (delay_of K N post) (from l.head)
    rest_sum : SumOf K (most_leads - l.tail) (K.plus l.delay (delay_of K N post))
    best_sum : SumOf K (most_leads - l.tail) (K.plus l.delay (from l.head))
    rest_le : Le K (K.plus l.delay (delay_of K N post)) (K.plus l.delay (from l.head))
    fits : l.tail + (most_leads - l.tail) ≤ most_leads

  around : {k : ℕ} {pre post : List ℕ} (C : Cut N k pre post) → Around C.through.lead pre post
  around {k} {pre} {post} C =
      let t = C.through in let l = t.lead in
      let b = head_inside S k l t.holds in
      let p = run_to_sum S t.before in
      let a = to_sum S (T.to_is l.tail (omega arith)) in
      let d = lead_sum S k l t.holds in
      let q = run_from_sum S (sink_inside C) t.after in
      let c = from_sum S (T.from_is l.head b.1) in
      let le = from_bound S (T.from_is l.head b.1) C.to_output t.after in
      record {
        bounds = b;
        pre_sum = p;
        to_sum' = a;
        lead_sum' = d;
        post_sum = q;
        from_sum' = c;
        pre_le = to_bound S (T.to_is l.tail (omega arith)) C.from_input t.before;
        post_le = le;
        rest_sum = both (omega arith) d q;
        best_sum = both (omega arith) d c;
        rest_le = le_plus L q c d (omega arith) le;
        fits = omega arith;
      }

  -- no path through a lead is longer than To(tail) + delay + From(head)
  path_bound : {k : ℕ} {pre post : List ℕ} (C : Cut N k pre post) → Le K (delay_of K N (pre ++ (k ∷ post))) (through_by K to from C.through.lead)
  path_bound C =
      let A = around C in
      subst (λ x. Le K x (through_by K to from C.through.lead)) (sym (delay_through L S (sink_inside C) C.through))
      (plus_mono L A.pre_sum A.to_sum' A.rest_sum A.best_sum A.fits A.pre_le A.rest_le)

  -- and one is as long
  path_by_lengths : (k : ℕ) (l : Lead D) → Holds N k l → (p : List ℕ) × PathOf N p × On k p × (delay_of K N p ≡ through_by K to from l)
  path_by_lengths k l h =
      let b = head_inside S k l h in
      let p = to_met S (inr (has_out N k l l.tail h refl)) (T.to_is l.tail (omega arith)) in
      let q = from_met S (inl (has_in N k l l.head h refl)) (T.from_is l.head b.1) in
      let C : Cut N k p.leads q.leads = record {
        source = p.source;
        sink = q.sink;
        from_input = p.from_input;
        to_output = q.to_output;
        through = record { lead = l; holds = h; before = p.run; after = q.run };
      } in (
        p.leads ++ (k ∷ q.leads),
        join_path C,
        on_split k p.leads q.leads,
        delay_through L S (sink_inside C) C.through ∙ ap (λ x. K.plus x (K.plus l.delay (delay_of K N q.leads))) p.delay
            ∙ ap (λ x. K.plus (to l.tail) (K.plus l.delay x)) q.delay,
      )

  any_path_bound : (k : ℕ) (l : Lead D) → Holds N k l → (q : List ℕ) → PathOf N q → On k q → Le K (delay_of K N q) (through_by K to from l)
  any_path_bound k l h q Q o =
      let s = split_at k q o in
      let C = cut_path s.pre (subst (PathOf N) s.is Q) in
      subst (λ x. Le K x (through_by K to from l)) (ap (delay_of K N) (sym s.is))
      (subst (λ m. Le K (delay_of K N (s.pre ++ (k ∷ s.post))) (through_by K to from m)) (one_lead N k C.through.holds h) (path_bound C))

  -- so To(tail) + delay + From(head) is the delay of a longest path through the lead
  pub longest_through_lem : (k : ℕ) (l : Lead D) → Holds N k l → LongestThrough K N k (through_by K to from l)
  longest_through_lem k l h = let B = path_by_lengths k l h in
      record { leads = B.0; path = B.1; through = B.2; delay = B.3; longest = any_path_bound k l h }

  pub through_within : (k : ℕ) (l : Lead D) → Holds N k l → Within K (through_by K to from l)
  through_within k l h = let b = head_inside S k l h in
      both (omega arith) (to_sum S (T.to_is l.tail (omega arith)))
      (both {n = most_leads - l.tail} (omega arith) (lead_sum S k l h) (from_sum S (T.from_is l.head b.1)))

  -- a path with longest parts at k covers k
  pub parts_cover : {k : ℕ} (l : Lead D) → Holds N k l → (pre post : List ℕ) → PathOf N (pre ++ (k ∷ post)) → LongestParts K N to from l pre post → Covers K N (pre ++ (k ∷ post)) k
  parts_cover {k} l h pre post P M =
      let C = cut_path pre P in
      let e : C.through.lead ≡ l = one_lead N k C.through.holds h in
      let whole : delay_of K N (pre ++ (k ∷ post)) ≡ through_by K to from l =
      delay_through L S (sink_inside C) C.through
      ∙ ap (λ (m : Lead D). K.plus (delay_of K N pre) (K.plus m.delay (delay_of K N post))) e
      ∙ ap (λ x. K.plus x (K.plus l.delay (delay_of K N post))) M.before
      ∙ ap (λ x. K.plus (to l.tail) (K.plus l.delay x)) M.after in
      record {
        path = P;
        through = on_split k pre post;
        longest = λ q Q o. subst (λ x. Le K (delay_of K N q) x) (sym whole) (any_path_bound k l h q Q o);
      }

  cut_parts : {k : ℕ} (pre post : List ℕ) (V : Covers K N (pre ++ (k ∷ post)) k) → LongestParts K N to from (cut_path pre V.path).through.lead pre post
  cut_parts {k} pre post V =
      let C = cut_path pre V.path in let l = C.through.lead in let h = C.through.holds in
      let A = around C in let b = A.bounds in
      let B = path_by_lengths k l h in
      let up : Le K (through_by K to from l) (K.plus (delay_of K N pre) (K.plus l.delay (delay_of K N post))) =
      subst (λ x. Le K (through_by K to from l) x) (delay_through L S (sink_inside C) C.through)
      (subst (λ x. Le K x (delay_of K N (pre ++ (k ∷ post)))) B.3 (V.longest B.0 B.1 B.2)) in
      let both_parts = parts_same L A.pre_sum A.to_sum' A.rest_sum A.best_sum A.fits A.pre_le A.rest_le up in
      let best_in : Within K (K.plus l.delay (from l.head)) = weaken (omega arith) A.best_sum in
      let last_parts = parts_same L A.lead_sum' A.lead_sum' A.post_sum A.from_sum' (omega arith)
      (le_refl L (weaken (omega arith) A.lead_sum')) A.post_le (le_eq L best_in (sym both_parts.1)) in
      record { before = both_parts.0; after = last_parts.1 }

  -- a path that covers k has longest parts at k
  pub cover_parts : {k : ℕ} (l : Lead D) → Holds N k l → (pre post : List ℕ) → Covers K N (pre ++ (k ∷ post)) k → LongestParts K N to from l pre post
  cover_parts {k} l h pre post V =
      subst (λ m. LongestParts K N to from m pre post) (one_lead N k (cut_path pre V.path).through.holds h) (cut_parts pre post V)

  cut_or_not : {k : ℕ} (pre post : List ℕ) → PathOf N (pre ++ (k ∷ post)) → Covers K N (pre ++ (k ∷ post)) k ⊎ (Covers K N (pre ++ (k ∷ post)) k → ⊥)
  cut_or_not pre post P =
      let C = cut_path pre P in let l = C.through.lead in let h = C.through.holds in
      let A = around C in let b = A.bounds in
      ⊎_elim
      (λ e. ⊎_elim
      (λ f. inl (parts_cover l h pre post P (record { before = e; after = f })))
      (λ n. inr (λ V. n (cover_parts l h pre post V).after))
      (same_or_not L (weaken (omega arith) A.post_sum) (weaken (omega arith) A.from_sum')))
      (λ n. inr (λ V. n (cover_parts l h pre post V).before))
      (same_or_not L (weaken (omega arith) A.pre_sum) (weaken (omega arith) A.to_sum'))

  -- whether a path covers a lead is decided
  pub covers_or_not : (p : List ℕ) (k : ℕ) → PathOf N p → Covers K N p k ⊎ (Covers K N p k → ⊥)
  covers_or_not p k P = ⊎_elim
      (λ o. let s = split_at k p o in
      subst (λ q. Covers K N q k ⊎ (Covers K N q k → ⊥)) (sym s.is) (cut_or_not s.pre s.post (subst (PathOf N) s.is P)))
      (λ n. inr (λ V. n V.through))
      (on_or_not k p)
