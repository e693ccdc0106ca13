-- The lower bound: a list of paths that covers every lead gives loads with a total of at most its number of paths.
use Rattle.std.proofs.Common.{◌≡◌, ℕ, zero, suc, ◌+◌, ◌<◌, ◌≤◌, Bool, true, false, cond, ◌&&◌, ◌||◌, List, [], ◌∷◌, ◌++◌, length, Decides, sym, refl, ap, ◌∙◌, subst, inl, inr, ⊎_elim, append_assoc, arith}
use Rattle.std.proofs.lemmas.Bool.{cond_both, false_from_ne_true, both_ways, and_parts, and_from, eq-eqb}
use Rattle.std.proofs.lemmas.Bool.Decides.{same_from_decides, Decides-like}
use Rattle.delay.specs.Kind.{Kind, Laws}
use Rattle.wiring.specs.declared.Lead.{Lead}
use Rattle.wiring.specs.Net.{Net, Holds, Sound, stands, tail_is, head_is, is_lead, leaves, enters, some_below, has_lead_in, has_lead_out, is_inner}
use Rattle.wiring.specs.Paths.{On, PathOf, Covers}
use Rattle.wiring.specs.Lengths.{Marks, Types}
use Rattle.wiring.specs.Loads.{is_start_lead, sum_where, Balanced, Loads, total_load, Best, drain_out, fed_in}
use Rattle.wiring.specs.Lists.{OneOf, AllPaths, CoversAll}
use Rattle.wiring.proofs.Ends.{some_below_decides, head_from, tail_from, one_lead, below_places, input_parts, output_parts, inner_parts}
use Rattle.wiring.proofs.Runs.{run_between, run_split, run_none, run_last, split_at, on_split}
use Rattle.wiring.proofs.Cover.{Tables, cut_path, covers_or_not}
use Rattle.wiring.proofs.Steps.{covers_next, covers_back}
use Rattle.wiring.proofs.Marks.{Precedes, which_first, one_start}
use Rattle.flow.proofs.Sums.{where_add, where_zero}

-- of the numbers at which c holds, how many pass Q, if there is one at most
count_one : (n : ℕ) (Q c : ℕ → Bool) → ((j k : ℕ) → Q j ≡ true → c j ≡ true → Q k ≡ true → c k ≡ true → j ≡ k) →
    sum_where n Q (λ k. cond (c k) 1 0) ≡ cond (some_below n (λ k. Q k && c k)) 1 0
count_one zero Q c u = refl
count_one (suc n) Q c u = go (Q n) (c n) refl refl (count_one n Q c u)
  where
    rest : ℕ
    rest = sum_where n Q (λ k. cond (c k) 1 0)

    go : (a b : Bool) → Q n ≡ a → c n ≡ b → rest ≡ cond (some_below n (λ k. Q k && c k)) 1 0 →
        rest + cond a (cond b 1 0) 0 ≡ cond ((a && b) || some_below n (λ k. Q k && c k)) 1 0
    go true true p q e =
        let none = false_from_ne_true (some_below n (λ k. Q k && c k))
        (λ x. let s = (some_below_decides (λ k. Q k && c k) n).0 x in let w = and_parts (Q s.0) (c s.0) s.2 in omega (arith, u s.0 n w.0 w.1 p q, s.1)) in
        let z = ap (λ (b : Bool). cond {A = ℕ} b 1 0) none in
        omega arith
    go true false p q e = omega arith
    go false b p q e = omega arith

module _ {D : Type 0} {K : Kind D} {N : Net D} (S : Sound K N) where
  -- a lead on a path is a lead
  on_lead : {k : ℕ} {p : List ℕ} → PathOf N p → On k p → (l : Lead D) × Holds N k l
  on_lead {k} {p} P o = let s = split_at k p o in let t = (cut_path s.pre (subst (PathOf N) s.is P)).through in (t.lead, t.holds)

  -- what comes later on a path lies higher, with both ends
  later_higher : {k j : ℕ} {p : List ℕ} (l i : Lead D) → Holds N k l → Holds N j i → PathOf N p → Precedes k j p →
      (l.tail < i.tail) × (l.head < i.head)
  later_higher {k} {j} {p} l i h g P o =
      let t = (cut_path o.pre (subst (PathOf N) o.is P)).through in
      let b = run_between S j i g t.after (on_split j o.mid o.post) in
      let same = ap (λ (x : Lead D). x.head) (one_lead N k t.holds h) in
      let up = S.upwards k l h in let next = S.upwards j i g in
      (omega arith, omega arith)

  -- so a path has one lead only with its head, or with its tail, at v
  meets_once : (e : Lead D → ℕ) → ((l i : Lead D) → l.tail < i.tail → l.head < i.head → e l < e i) →
      {k j : ℕ} {p : List ℕ} (l i : Lead D) → Holds N k l → Holds N j i → e l ≡ e i → PathOf N p → On k p → On j p → k ≡ j
  meets_once e up {k} {j} {p} l i h g same P a b = ⊎_elim
      (λ x. x)
      (λ o. absurd (⊎_elim
      (λ o. let w = later_higher l i h g P o in omega (arith, up l i w.0 w.1))
      (λ o. let w = later_higher i l g h P o in omega (arith, up i l w.0 w.1))
      o))
      (which_first k j p a b)

  enter_once : {k j : ℕ} {p : List ℕ} (v : ℕ) → PathOf N p → On k p → On j p → enters N v k ≡ true → enters N v j ≡ true → k ≡ j
  enter_once {k} {j} v P a b x y =
      let l = head_from v (N.at k) x in let i = head_from v (N.at j) y in
      meets_once (λ l. l.head) (λ l i s t. t) l.0 i.0 l.1 i.1 (l.2 ∙ sym i.2) P a b

  leave_once : {k j : ℕ} {p : List ℕ} (v : ℕ) → PathOf N p → On k p → On j p → leaves N v k ≡ true → leaves N v j ≡ true → k ≡ j
  leave_once {k} {j} v P a b x y =
      let l = tail_from v (N.at k) x in let i = tail_from v (N.at j) y in
      meets_once (λ l. l.tail) (λ l i s t. s) l.0 i.0 l.1 i.1 (l.2 ∙ sym i.2) P a b

module _ {D : Type 0} {K : Kind D} (L : Laws K) {N : Net D} (S : Sound K N) {to from : ℕ → D} (W : Tables K N to from) {m : Marks} (Y : Types K N m) where
  -- the path p covers a lead that passes Q
  abbrev Met : (ℕ → Bool) → List ℕ → Type 0
  Met Q p = (k : ℕ) × (Q k ≡ true) × Covers K N p k

  -- after a covered fed lead into an inner node a covered draining lead goes out of it
  next_out : {k : ℕ} (v : ℕ) (pre post : List ℕ) → is_inner N v ≡ true → fed_in N m v k ≡ true → Covers K N (pre ++ (k ∷ post)) k →
      Met (drain_out N m v) (pre ++ (k ∷ post))
  next_out {k} v pre [] i e V =
      let C = cut_path pre V.path in
      let l = head_from v (N.at k) (and_parts (enters N v k) (m k).1 e).0 in
      let same = ap (λ (x : Lead D). x.head) (one_lead N k C.through.holds l.1) in
      let z : v ≡ C.sink = sym l.2 ∙ sym same ∙ run_none C.through.after in
      absurd (both_ways (has_lead_out N v) (subst (λ (x : ℕ). has_lead_out N x ≡ false) (sym z) (output_parts N C.sink C.to_output).1) (inner_parts N v i).1)
  next_out {k} v pre (j ∷ post) i e V =
      let C = cut_path pre V.path in
      let f = and_parts (enters N v k) (m k).1 e in
      let l = head_from v (N.at k) f.0 in
      let same = ap (λ (x : Lead D). x.head) (one_lead N k C.through.holds l.1) in
      let s = run_split [] C.through.after in
      let z : s.lead.tail ≡ v = sym (run_none s.before) ∙ same ∙ l.2 in
      let next = covers_next L S W pre post V ((Y.fed k (ap stands l.1)).0 f.1) in (
        j,
        and_from (leaves N v j) (m j).0 (ap (tail_is v) s.holds ∙ eq-eqb s.lead.tail v z) ((Y.drains j (ap stands s.holds)).1 next.1),
        next.0,
      )

  -- and before a covered draining lead out of an inner node a covered fed lead came into it
  back_in : {j : ℕ} (v : ℕ) (pre post : List ℕ) → is_inner N v ≡ true → drain_out N m v j ≡ true → Covers K N (pre ++ (j ∷ post)) j →
      Met (fed_in N m v) (pre ++ (j ∷ post))
  back_in {j} v [] post i e V =
      let C = cut_path [] V.path in
      let l = tail_from v (N.at j) (and_parts (leaves N v j) (m j).0 e).0 in
      let same = ap (λ (x : Lead D). x.tail) (one_lead N j C.through.holds l.1) in
      let z : C.source ≡ v = run_none C.through.before ∙ same ∙ l.2 in
      absurd (both_ways (has_lead_in N v) (subst (λ (x : ℕ). has_lead_in N x ≡ false) z (input_parts N C.source C.from_input).1) (inner_parts N v i).0)
  back_in {j} v (x ∷ pre) post i e V =
      let C = cut_path (x ∷ pre) V.path in
      let f = and_parts (leaves N v j) (m j).0 e in
      let l = tail_from v (N.at j) f.0 in
      let same = ap (λ (x : Lead D). x.tail) (one_lead N j C.through.holds l.1) in
      let q = run_last C.through.before in
      let whole : (x ∷ pre) ++ (j ∷ post) ≡ q.init ++ (q.place ∷ (j ∷ post)) =
      ap (λ (r : List ℕ). r ++ (j ∷ post)) q.is ∙ append_assoc q.init (q.place ∷ []) (j ∷ post) in
      let z : q.lead.head ≡ v = q.ends ∙ same ∙ l.2 in
      let back = covers_back L S W q.init post (subst (λ (r : List ℕ). Covers K N r j) whole V) ((Y.drains j (ap stands l.1)).0 f.1) in (
        q.place,
        and_from (enters N v q.place) (m q.place).1 (ap (head_is v) q.holds ∙ eq-eqb q.lead.head v z)
            ((Y.fed q.place (ap stands q.holds)).1 back.1),
        subst (λ (r : List ℕ). Covers K N r q.place) (sym whole) back.0,
      )

  module _ (p : List ℕ) (P : PathOf N p) (c : ℕ → Bool) (C : (k : ℕ) → Decides (c k) (Covers K N p k)) where
    met_decides : (Q : ℕ → Bool) → Decides (some_below N.places (λ k. Q k && c k)) (Met Q p)
    met_decides Q = (
      (λ e. let s = (some_below_decides (λ k. Q k && c k) N.places).0 e in let a = and_parts (Q s.0) (c s.0) s.2 in (s.0, a.0, (C s.0).0 a.1)),
      λ g. let l = on_lead S P g.2.through in
          (some_below_decides (λ k. Q k && c k) N.places).1
          (g.0, below_places N g.0 l.0 l.1, and_from (Q g.0) (c g.0) g.1 ((C g.0).1 g.2)),
    )

    -- along the path, to the covered lead ahead and to the one behind
    met_out : (v : ℕ) → is_inner N v ≡ true → Met (fed_in N m v) p → Met (drain_out N m v) p
    met_out v i g = let q = split_at g.0 p g.2.through in
        subst (Met (drain_out N m v)) (sym q.is) (next_out v q.pre q.post i g.1 (subst (λ (r : List ℕ). Covers K N r g.0) q.is g.2))

    met_in : (v : ℕ) → is_inner N v ≡ true → Met (drain_out N m v) p → Met (fed_in N m v) p
    met_in v i g = let q = split_at g.0 p g.2.through in
        subst (Met (fed_in N m v)) (sym q.is) (back_in v q.pre q.post i g.1 (subst (λ (r : List ℕ). Covers K N r g.0) q.is g.2))

    -- what one path covers is balanced
    one_balanced : Balanced N m (λ k. cond (c k) 1 0)
    one_balanced v i =
        count_one N.places (fed_in N m v) c
        (λ j k x a y b. enter_once S v P ((C j).0 a).through ((C k).0 b).through (and_parts (enters N v j) (m j).1 x).0
        (and_parts (enters N v k) (m k).1 y).0)
        ∙ ap (λ (b : Bool). cond {A = ℕ} b 1 0)
        (same_from_decides (some_below N.places (λ k. fed_in N m v k && c k)) (some_below N.places (λ k. drain_out N m v k && c k))
        (Decides-like (some_below N.places (λ k. fed_in N m v k && c k)) (met_out v i) (met_in v i) (met_decides (fed_in N m v)))
        (met_decides (drain_out N m v)))
        ∙ sym (count_one N.places (drain_out N m v) c
        (λ j k x a y b. leave_once S v P ((C j).0 a).through ((C k).0 b).through (and_parts (leaves N v j) (m j).0 x).0
        (and_parts (leaves N v k) (m k).0 y).0))

    -- and has one start lead at most
    one_total : total_load N m (λ k. cond (c k) 1 0) ≤ 1
    one_total =
        let count = count_one N.places (is_start_lead N m) c (λ j k x a y b. one_start L S W Y ((C j).0 a) ((C k).0 b) x y) in
        let most = cond_both (some_below N.places (λ k. is_start_lead N m k && c k)) 1 0 (λ x. x ≤ 1) (λ e. omega arith) (λ e. omega arith) in
        omega arith

    one_vacant : (k : ℕ) → is_lead N k ≡ false → ◌≡◌ {A = ℕ} (cond (c k) 1 0) 0
    one_vacant k e = ap (λ (b : Bool). cond {A = ℕ} b 1 0)
        (false_from_ne_true (c k) (λ q. both_ways (is_lead N k) e (ap stands (on_lead S P ((C k).0 q).through).1)))

  -- how often each lead is covered by the paths of a list
  record Counted (ps : List (List ℕ)) : Type 0 where
    load : ℕ → ℕ
    vacant : (k : ℕ) → is_lead N k ≡ false → load k ≡ 0
    balanced : Balanced N m load
    few : total_load N m load ≤ length ps
    each : (k : ℕ) (p : List ℕ) → OneOf ps p → Covers K N p k → 1 ≤ load k

  test_of : (p : List ℕ) → PathOf N p → (k : ℕ) → (b : Bool) × Decides b (Covers K N p k)
  test_of p P k = ⊎_elim
      (λ V. (true, ((λ _. V), λ _. refl)))
      (λ n. (false, ((λ e. absurd (both_ways false refl e)), λ V. absurd (n V))))
      (covers_or_not L S W p k P)

  counted : (ps : List (List ℕ)) → AllPaths N ps → Counted ps
  counted [] A = record {
    load = λ k. 0;
    vacant = λ k e. refl;
    balanced = λ v i. where_zero N.places (fed_in N m v) ∙ sym (where_zero N.places (drain_out N m v));
    few = omega (arith, where_zero N.places (is_start_lead N m));
    each = λ k p o V. elim o [ ];
  }
  counted (p ∷ ps) A =
      let R = counted ps (λ q o. A q (inr o)) in
      let P = A p (inl refl) in
      let c : ℕ → Bool = λ k. (test_of p P k).0 in
      let C : (k : ℕ) → Decides (c k) (Covers K N p k) = λ k. (test_of p P k).1 in
      let one : ℕ → ℕ = λ k. cond (c k) 1 0 in
      record {
        load = λ k. one k + R.load k;
        vacant = λ k e. omega (arith, one_vacant p P c C k e, R.vacant k e);
        balanced = λ v i.
            where_add N.places (fed_in N m v) one R.load
            ∙ (omega (arith, one_balanced p P c C v i, R.balanced v i))
            ∙ sym (where_add N.places (drain_out N m v) one R.load);
        few = omega (arith, where_add N.places (is_start_lead N m) one R.load, one_total p P c C, R.few);
        each = λ k q o V. ⊎_elim
            (λ e. let z = ap (λ (b : Bool). cond {A = ℕ} b 1 0) ((C k).1 (subst (λ (r : List ℕ). Covers K N r k) e V)) in omega arith)
            (λ o. omega (arith, R.each k q o V))
            o;
      }

  -- so no list of paths that covers every lead is shorter than the total of the best loads
  pub no_shorter : (f : ℕ → ℕ) → Best N m f → (ps : List (List ℕ)) → AllPaths N ps → CoversAll K N ps → total_load N m f ≤ length ps
  no_shorter f B ps A V =
      let R = counted ps A in
      let G : Loads N m R.load = record { leads = λ k e. let v = V k e in R.each k v.0 v.1 v.2; vacant = R.vacant; balanced = R.balanced } in
      omega (arith, B.least R.load G, R.few)
