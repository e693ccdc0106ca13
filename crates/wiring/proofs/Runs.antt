-- Runs: how many leads they have, what their delays add up to, joining and splitting them.
use Rattle.std.proofs.Common.{◌≡◌, ℕ, ◌+◌, ◌-◌, ◌<◌, ◌≤◌, true, ◌⊎◌, List, [], ◌∷◌, ◌++◌, length, sym, refl, ap, ◌∙◌, subst, inl, inr, ⊎_elim, arith}
use Rattle.std.proofs.lemmas.Bool.{cases_eq}
use Rattle.wiring.specs.declared.Lead.{Lead}
use Rattle.delay.specs.Kind.{Kind, SumOf, none, one, both, most_leads, Laws}
use Rattle.wiring.specs.Net.{Net, Holds, Sound, has_lead_in, has_lead_out}
use Rattle.wiring.specs.Paths.{Run, stay, along, On, delay_in, delay_at, delay_of}
use Rattle.wiring.specs.Lists.{count_on}
use Rattle.delay.proofs.Sums.{weaken, plus_zero}
use Rattle.wiring.proofs.Ends.{one_lead, head_inside, has_in, has_out}

pub at_delay : {D : Type 0} (K : Kind D) (N : Net D) (k : ℕ) (l : Lead D) → Holds N k l → delay_at K N k ≡ l.delay
at_delay K N k l h = ap (delay_in K) h

-- a run joined to one that goes on from its end
pub run_append : {D : Type 0} {N : Net D} {u v w : ℕ} {ks js : List ℕ} → Run N u v ks → Run N v w js → Run N u w (ks ++ js)
run_append {N = N} {w = w} {js = js} (stay e) s = subst (λ x. Run N x w js) (sym e) s
run_append (along l h t r) s = along l h t (run_append r s)

-- a run of one lead
pub run_one : {D : Type 0} {N : Net D} (k : ℕ) (l : Lead D) → Holds N k l → Run N l.tail l.head (k ∷ [])
run_one k l h = along l h refl (stay refl)

-- a run through k: before k, the lead k, after k
pub record Through {D : Type 0} (N : Net D) (u v k : ℕ) (pre post : List ℕ) : Type 0 where
  pub lead : Lead D
  pub holds : Holds N k lead
  pub before : Run N u lead.tail pre
  pub after : Run N lead.head v post

pub run_split : {D : Type 0} {N : Net D} (pre : List ℕ) {u v k : ℕ} {post : List ℕ} → Run N u v (pre ++ (k ∷ post)) → Through N u v k pre post
run_split [] (along l h t r) = record { lead = l; holds = h; before = stay (sym t); after = r }
run_split (j ∷ pre) (along l h t r) =
    let s = run_split pre r in
    record { lead = s.lead; holds = s.holds; before = along l h t s.before; after = s.after }

pub run_through : {D : Type 0} {N : Net D} {u v k : ℕ} {pre post : List ℕ} → Through N u v k pre post → Run N u v (pre ++ (k ∷ post))
run_through s = run_append s.before (along s.lead s.holds refl s.after)

pub run_none : {D : Type 0} {N : Net D} {u v : ℕ} → Run N u v [] → u ≡ v
run_none (stay e) = e

-- the last lead of a run
pub record Last {D : Type 0} (N : Net D) (u v : ℕ) (ks : List ℕ) : Type 0 where
  pub init : List ℕ
  pub place : ℕ
  pub lead : Lead D
  pub holds : Holds N place lead
  pub ends : lead.head ≡ v
  pub run : Run N u lead.tail init
  pub is : ks ≡ init ++ (place ∷ [])

pub run_last : {D : Type 0} {N : Net D} {u v k : ℕ} {ks : List ℕ} → Run N u v (k ∷ ks) → Last N u v (k ∷ ks)
run_last {k = k} (along l h t (stay e)) = record { init = []; place = k; lead = l; holds = h; ends = e; run = stay (sym t); is = refl }
run_last {k = k} (along l h t (along m i s r)) =
    let q = run_last (along m i s r) in
    record { init = k ∷ q.init; place = q.place; lead = q.lead; holds = q.holds; ends = q.ends; run = along l h t q.run; is = ap (λ is. k ∷ is) q.is }

-- where k stands on a list
pub record Split (k : ℕ) (ks : List ℕ) : Type 0 where
  pub pre : List ℕ
  pub post : List ℕ
  pub is : ks ≡ pre ++ (k ∷ post)

pub split_at : (k : ℕ) (ks : List ℕ) → On k ks → Split k ks
split_at k [] o = elim o [ ]
split_at k (j ∷ js) (inl e) = record { pre = []; post = js; is = ap (λ i. i ∷ js) (sym e) }
split_at k (j ∷ js) (inr o) = let s = split_at k js o in record { pre = j ∷ s.pre; post = s.post; is = ap (λ is. j ∷ is) s.is }

pub on_split : (k : ℕ) (pre post : List ℕ) → On k (pre ++ (k ∷ post))
on_split k [] post = inl refl
on_split k (j ∷ pre) post = inr (on_split k pre post)

pub on_or_not : (k : ℕ) (ks : List ℕ) → On k ks ⊎ (On k ks → ⊥)
on_or_not k [] = inr (λ o. o)
on_or_not k (j ∷ js) = ⊎_elim
    (λ e. inl (inl e))
    (λ n. ⊎_elim (λ o. inl (inr o)) (λ m. inr (λ o. ⊎_elim n m o)) (on_or_not k js))
    (cases_eq k j)

-- how often k stands on two lists, one behind the other
pub count_append : (k : ℕ) (xs ys : List ℕ) → count_on k (xs ++ ys) ≡ count_on k xs + count_on k ys
count_append k [] ys = omega arith
count_append k (x ∷ xs) ys = omega (arith, count_append k xs ys)

module _ {D : Type 0} {K : Kind D} {N : Net D} (S : Sound K N) where
  -- each lead goes up, so a run has at most as many leads as it climbs
  pub run_length : {u v : ℕ} {ks : List ℕ} → Run N u v ks → u + length ks ≤ v
  run_length (stay e) = omega arith
  run_length (along {k = k} l h t r) = omega (arith, run_length r, S.upwards k l h)

  -- a run with a lead ends inside, and so does one that begins inside
  pub run_inside : {u v : ℕ} {ks : List ℕ} → u < N.nodes → Run N u v ks → v < N.nodes
  run_inside i (stay e) = omega arith
  run_inside i (along {k = k} l h t r) = run_inside (S.inside k l h) r

  -- so it has at most 4,095 leads
  pub run_few : {u v : ℕ} {ks : List ℕ} → u < N.nodes → Run N u v ks → length ks ≤ most_leads
  run_few i r = omega (arith, run_length r, run_inside i r, S.few_nodes)

  pub lawful_at : (k : ℕ) (l : Lead D) → Holds N k l → K.lawful (delay_at K N k) ≡ true
  lawful_at k l h = ap K.lawful (at_delay K N k l h) ∙ S.lawful k l h

  -- the delay of a run is the sum of as many lawful delays as it has leads
  pub run_sum : {u v : ℕ} {ks : List ℕ} → Run N u v ks → SumOf K (length ks) (delay_of K N ks)
  run_sum (stay e) = none
  run_sum (along {k = k} l h t r) = both {l = 1} (omega arith) (one (omega arith) (lawful_at k l h)) (run_sum r)

  -- a run to v from anywhere, and a run from v that ends inside
  pub run_to_sum : {u v : ℕ} {ks : List ℕ} → Run N u v ks → SumOf K v (delay_of K N ks)
  run_to_sum r = weaken (omega (arith, run_length r)) (run_sum r)

  pub run_from_sum : {u v : ℕ} {ks : List ℕ} → v < N.nodes → Run N u v ks → SumOf K (most_leads - u) (delay_of K N ks)
  run_from_sum i r = weaken (omega (arith, run_length r, S.few_nodes)) (run_sum r)

  pub lead_sum : (k : ℕ) (l : Lead D) → Holds N k l → SumOf K 1 l.delay
  lead_sum k l h = one (omega arith) (S.lawful k l h)

  -- the leads of a run lie between its ends
  pub run_between : {u v : ℕ} {ks : List ℕ} (k : ℕ) (l : Lead D) → Holds N k l → Run N u v ks → On k ks → (u ≤ l.tail) × (l.head ≤ v)
  run_between k l h (stay _) o = elim o [ ]
  run_between k l h (along {k = j} m i t r) (inl e) =
      let same : m ≡ l = one_lead N k (ap N.at e ∙ i) h in
      let p : m.tail ≡ l.tail = ap (λ (x : Lead D). x.tail) same in
      let q : m.head ≡ l.head = ap (λ (x : Lead D). x.head) same in
      (omega arith, omega (arith, run_length r))
  run_between k l h (along {k = j} m i t r) (inr o) =
      let b = run_between k l h r o in (omega (arith, S.upwards j m i), b.1)

  -- no lead comes twice
  pub run_once : {u v k : ℕ} {pre post : List ℕ} → Through N u v k pre post → (On k pre → ⊥) × (On k post → ⊥)
  run_once {k = k} t =
      let l = t.lead in let h = t.holds in let up = S.upwards k l h in
      (λ o. let b = run_between k l h t.before o in omega arith, λ o. let b = run_between k l h t.after o in omega arith)

  -- where a run from u to v begins with a lead, u has a lead out; where it ends with one, v has a lead in
  pub run_out : {u v k : ℕ} {ks : List ℕ} → Run N u v (k ∷ ks) → has_lead_out N u ≡ true
  run_out {u = u} {k = k} (along l h t r) = has_out N k l u h t

  pub run_in : {u v k : ℕ} {ks : List ℕ} → Run N u v (k ∷ ks) → has_lead_in N v ≡ true
  run_in {v = v} {k = k} (along l h t (stay e)) = has_in N k l v h e
  run_in {v = v} {k = k} (along l h t (along m i s r)) = run_in (along m i s r)

module _ {D : Type 0} {K : Kind D} (L : Laws K) {N : Net D} (S : Sound K N) where
  -- joined runs add their delays
  pub delay_append : {u v w : ℕ} {ks js : List ℕ} → w < N.nodes → Run N u v ks → Run N v w js → delay_of K N (ks ++ js) ≡ K.plus (delay_of K N ks) (delay_of K N js)
  delay_append i (stay e) s = sym (L.zero_adds_nothing (weaken (omega (arith, run_length S s, S.few_nodes)) (run_sum S s)))
  delay_append {ks = k ∷ ks} {js = js} i (along l h t r) s =
      ap (K.plus (delay_at K N k)) (delay_append i r s)
      ∙ sym (L.associates (one {n = 1} (omega arith) (lawful_at S k l h)) (run_sum S r) (run_sum S s)
      (omega (arith, run_length S r, run_length S s, S.upwards k l h, S.few_nodes)))

  -- the delay of a run through k
  pub delay_through : {u v k : ℕ} {pre post : List ℕ} → v < N.nodes → (t : Through N u v k pre post) →
      delay_of K N (pre ++ (k ∷ post)) ≡ K.plus (delay_of K N pre) (K.plus t.lead.delay (delay_of K N post))
  delay_through {k = k} {pre = pre} {post = post} i t =
      delay_append i t.before (along t.lead t.holds refl t.after)
      ∙ ap (λ d. K.plus (delay_of K N pre) (K.plus d (delay_of K N post))) (at_delay K N k t.lead t.holds)

  -- one lead more at the end
  pub delay_last : {u : ℕ} {ks : List ℕ} (k : ℕ) (l : Lead D) → Holds N k l → Run N u l.tail ks →
      delay_of K N (ks ++ (k ∷ [])) ≡ K.plus (delay_of K N ks) l.delay
  delay_last {ks = ks} k l h r =
      let b = head_inside S k l h in
      delay_append b.1 r (run_one k l h)
      ∙ ap (K.plus (delay_of K N ks)) (ap (λ d. K.plus d K.zero) (at_delay K N k l h) ∙ plus_zero L (weaken (omega arith) (lead_sum S k l h)))
