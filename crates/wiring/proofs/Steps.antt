-- How covering goes on from lead to lead along a path.
use Rattle.std.proofs.Common.{◌≡◌, ℕ, ◌+◌, ◌-◌, ◌<◌, ◌≤◌, true, ◌↔◌, List, [], ◌∷◌, ◌++◌, length, sym, ap, ◌∙◌, subst, append_assoc, arith}
use Rattle.delay.specs.Kind.{Kind, SumOf, both, most_leads, Laws, Le}
use Rattle.wiring.specs.Net.{Net, Sound, is_input, is_output}
use Rattle.wiring.specs.Paths.{PathOf, Covers, delay_of}
use Rattle.wiring.specs.Lengths.{Fed, Drains}
use Rattle.delay.proofs.Sums.{weaken, le_refl, le_trans, plus_le, le_plus, parts_same}
use Rattle.wiring.proofs.Ends.{head_inside, in_inside, output_parts}
use Rattle.wiring.proofs.Runs.{at_delay, run_length, run_sum, run_to_sum, run_from_sum, run_none, lead_sum, Through, run_split, delay_through, delay_last}
use Rattle.wiring.proofs.Local.{grows}
use Rattle.wiring.proofs.Lengths.{to_sum, from_sum, to_bound, from_bound, local_to, fed_sums, sums_fed}
use Rattle.wiring.proofs.FromLengths.{local_from, falls, drains_sums, sums_drains}
use Rattle.wiring.proofs.Cover.{Tables, cut_path, parts_cover, cover_parts}

module _ {D : Type 0} {K : Kind D} (L : Laws K) {N : Net D} (S : Sound K N) {to from : ℕ → D} (T : Tables K N to from) where
  -- on a longest run to v every lead k is fed, and what comes before k is longest
  pub prefix_fed : {u v k : ℕ} {pre mid : List ℕ} → is_input N u ≡ true → v < N.nodes → (t : Through N u v k pre mid) → delay_of K N (pre ++ (k ∷ mid)) ≡ to v →
      (delay_of K N pre ≡ to t.lead.tail) × (K.plus (to t.lead.tail) t.lead.delay ≡ to t.lead.head)
  prefix_fed {u} {v} {k} {pre} {mid} i vin t whole =
      let l = t.lead in let h = t.holds in
      let R = local_to L S to T.to_is in
      let b = head_inside S k l h in
      let len = run_length S t.after in
      let x : SumOf K l.tail (delay_of K N pre) = run_to_sum S t.before in
      let X : SumOf K l.tail (to l.tail) = to_sum S (T.to_is l.tail (omega arith)) in
      let d : SumOf K 1 l.delay = lead_sum S k l h in
      let y : SumOf K (length mid) (delay_of K N mid) = run_sum S t.after in
      let Y : SumOf K l.head (to l.head) = to_sum S (T.to_is l.head b.1) in
      let fits : l.tail + 1 ≤ most_leads = omega arith in
      let room : l.head + length mid ≤ most_leads = omega arith in
      let xd : SumOf K l.head (K.plus (delay_of K N pre) l.delay) = both (omega arith) x d in
      let xle : Le K (delay_of K N pre) (to l.tail) = to_bound S (T.to_is l.tail (omega arith)) i t.before in
      let le : Le K (K.plus (delay_of K N pre) l.delay) (to l.head) =
      le_trans L (both fits x d) (both fits X d) (weaken (omega arith) Y) (plus_le L x X d fits xle) (R.bounds k l h) in
      let e : to v ≡ K.plus (K.plus (delay_of K N pre) l.delay) (delay_of K N mid) =
      sym whole ∙ delay_through L S vin t ∙ sym (L.associates x d y (omega arith)) in
      let up : Le K (K.plus (to l.head) (delay_of K N mid)) (K.plus (K.plus (delay_of K N pre) l.delay) (delay_of K N mid)) =
      subst (λ z. Le K (K.plus (to l.head) (delay_of K N mid)) z) e (grows L S to R b.1 t.after) in
      let head_is : K.plus (delay_of K N pre) l.delay ≡ to l.head =
      (parts_same L xd Y y y room le (le_refl L (weaken (omega arith) y)) up).0 in
      let back : Le K (K.plus (to l.tail) l.delay) (K.plus (delay_of K N pre) l.delay) =
      subst (λ z. Le K (K.plus (to l.tail) l.delay) z) (sym head_is) (R.bounds k l h) in
      let tail_is : delay_of K N pre ≡ to l.tail =
      (parts_same L x X d d fits xle (le_refl L (weaken (omega arith) d)) back).0 in
      (tail_is, ap (λ z. K.plus z l.delay) (sym tail_is) ∙ head_is)

  -- on a longest run from v every lead k drains, and what comes after k is longest
  pub suffix_drains : {v w k : ℕ} {mid post : List ℕ} → is_output N w ≡ true → (t : Through N v w k mid post) → delay_of K N (mid ++ (k ∷ post)) ≡ from v →
      (delay_of K N post ≡ from t.lead.head) × (K.plus t.lead.delay (from t.lead.head) ≡ from t.lead.tail)
  suffix_drains {v} {w} {k} {mid} {post} o t whole =
      let l = t.lead in let h = t.holds in
      let R = local_from L S from T.from_is in
      let b = head_inside S k l h in
      let len = run_length S t.before in
      let win : w < N.nodes = in_inside S w (output_parts N w o).0 in
      let m = most_leads - l.head in
      let y : SumOf K m (delay_of K N post) = run_from_sum S win t.after in
      let Y : SumOf K m (from l.head) = from_sum S (T.from_is l.head b.1) in
      let d : SumOf K 1 l.delay = lead_sum S k l h in
      let x : SumOf K (length mid) (delay_of K N mid) = run_sum S t.before in
      let X : SumOf K (most_leads - l.tail) (from l.tail) = from_sum S (T.from_is l.tail (omega arith)) in
      let fits : 1 + m ≤ most_leads = omega arith in
      let room : length mid + (most_leads - l.tail) ≤ most_leads = omega arith in
      let dy : SumOf K (most_leads - l.tail) (K.plus l.delay (delay_of K N post)) = both (omega arith) d y in
      let yle : Le K (delay_of K N post) (from l.head) = from_bound S (T.from_is l.head b.1) o t.after in
      let le : Le K (K.plus l.delay (delay_of K N post)) (from l.tail) =
      le_trans L (both fits d y) (both fits d Y) (weaken (omega arith) X) (le_plus L y Y d (omega arith) yle) (R.bounds k l h) in
      let up : Le K (K.plus (delay_of K N mid) (from l.tail)) (K.plus (delay_of K N mid) (K.plus l.delay (delay_of K N post))) =
      subst (λ z. Le K (K.plus (delay_of K N mid) (from l.tail)) z) (sym whole ∙ delay_through L S win t) (falls L S from T.from_is (omega arith) t.before) in
      let tail_is : K.plus l.delay (delay_of K N post) ≡ from l.tail =
      (parts_same L x x dy X room (le_refl L (weaken (omega arith) x)) le up).1 in
      let back : Le K (K.plus l.delay (from l.head)) (K.plus l.delay (delay_of K N post)) =
      subst (λ z. Le K (K.plus l.delay (from l.head)) z) (sym tail_is) (R.bounds k l h) in
      let head_is : delay_of K N post ≡ from l.head =
      (parts_same L d d y Y fits (le_refl L (weaken (omega arith) d)) yle back).1 in
      (head_is, ap (K.plus l.delay) (sym head_is) ∙ tail_is)

  -- a path that covers a later lead j: k is fed
  pub later_fed : {k j : ℕ} (pre mid post : List ℕ) → Covers K N (pre ++ (k ∷ (mid ++ (j ∷ post)))) j → Fed K N k
  later_fed {k} {j} pre mid post V =
      let U : Covers K N ((pre ++ (k ∷ mid)) ++ (j ∷ post)) j = subst (λ p. Covers K N p j) (sym (append_assoc pre (k ∷ mid) (j ∷ post))) V in
      let C = cut_path (pre ++ (k ∷ mid)) U.path in
      let t = C.through in
      let b = head_inside S j t.lead t.holds in
      let M = cover_parts L S T t.lead t.holds (pre ++ (k ∷ mid)) post U in
      let s = run_split pre t.before in
      sums_fed L S to T.to_is k s.lead s.holds (prefix_fed C.from_input (omega arith) s M.before).1

  -- a path that covers an earlier lead k: j drains
  pub earlier_drains : {k j : ℕ} (pre mid post : List ℕ) → Covers K N (pre ++ (k ∷ (mid ++ (j ∷ post)))) k → Drains K N j
  earlier_drains {k} {j} pre mid post V =
      let C = cut_path pre V.path in
      let t = C.through in
      let M = cover_parts L S T t.lead t.holds pre (mid ++ (j ∷ post)) V in
      let s = run_split mid t.after in
      sums_drains L S from T.from_is j s.lead s.holds (suffix_drains C.to_output s M.after).1

  -- a path that covers a lead which is not fed covers nothing after it
  pub unfed_last : {k j : ℕ} (pre mid post : List ℕ) → (Fed K N k → ⊥) → Covers K N (pre ++ (k ∷ (mid ++ (j ∷ post)))) j → ⊥
  unfed_last pre mid post n V = n (later_fed pre mid post V)

  -- a path that covers a lead which does not drain covers nothing before it
  pub undrained_first : {k j : ℕ} (pre mid post : List ℕ) → (Drains K N j → ⊥) → Covers K N (pre ++ (k ∷ (mid ++ (j ∷ post)))) k → ⊥
  undrained_first pre mid post n V = n (earlier_drains pre mid post V)

  -- from k, which is fed, covering goes on to the next lead j, which drains
  pub covers_next : {k j : ℕ} (pre post : List ℕ) → Covers K N (pre ++ (k ∷ (j ∷ post))) k → Fed K N k → Covers K N (pre ++ (k ∷ (j ∷ post))) j × Drains K N j
  covers_next {k} {j} pre post V F =
      let C = cut_path pre V.path in
      let t = C.through in let l = t.lead in
      let M = cover_parts L S T l t.holds pre (j ∷ post) V in
      let s = run_split [] t.after in
      let e : l.head ≡ s.lead.tail = run_none s.before in
      let D = suffix_drains C.to_output s M.after in
      let back = append_assoc pre (k ∷ []) (j ∷ post) in
      let before : delay_of K N (pre ++ (k ∷ [])) ≡ to s.lead.tail =
      delay_last L S k l t.holds t.before ∙ ap (λ x. K.plus x l.delay) M.before ∙ fed_sums L S to T.to_is k l t.holds F ∙ ap to e in (
        subst (λ p. Covers K N p j) back
            (parts_cover L S T s.lead s.holds (pre ++ (k ∷ [])) post (subst (PathOf N) (sym back) V.path) (record { before = before; after = D.0 })),
        sums_drains L S from T.from_is j s.lead s.holds D.1,
      )

  -- and back from j, if it drains, to the lead k before it, which is fed
  pub covers_back : {k j : ℕ} (pre post : List ℕ) → Covers K N (pre ++ (k ∷ (j ∷ post))) j → Drains K N j → Covers K N (pre ++ (k ∷ (j ∷ post))) k × Fed K N k
  covers_back {k} {j} pre post V F =
      let back = append_assoc pre (k ∷ []) (j ∷ post) in
      let U : Covers K N ((pre ++ (k ∷ [])) ++ (j ∷ post)) j = subst (λ p. Covers K N p j) (sym back) V in
      let C = cut_path (pre ++ (k ∷ [])) U.path in
      let t = C.through in let l = t.lead in
      let b = head_inside S j l t.holds in
      let M = cover_parts L S T l t.holds (pre ++ (k ∷ [])) post U in
      let s = run_split pre t.before in
      let e : s.lead.head ≡ l.tail = run_none s.after in
      let P = prefix_fed C.from_input (omega arith) s M.before in
      let after : delay_of K N (j ∷ post) ≡ from s.lead.head =
      ap (λ x. K.plus x (delay_of K N post)) (at_delay K N j l t.holds) ∙ ap (K.plus l.delay) M.after
      ∙ drains_sums L S from T.from_is j l t.holds F ∙ ap from (sym e) in (
        parts_cover L S T s.lead s.holds pre (j ∷ post) V.path (record { before = P.0; after = after }),
        sums_fed L S to T.to_is k s.lead s.holds P.1,
      )

  -- the step between neighbours, both ways
  pub covers_step : {k j : ℕ} (pre post : List ℕ) → let p : List ℕ = pre ++ (k ∷ (j ∷ post)) in (Covers K N p k × Fed K N k) ↔ (Covers K N p j × Drains K N j)
  covers_step pre post = (λ c. covers_next pre post c.0 c.1, λ c. covers_back pre post c.0 c.1)
