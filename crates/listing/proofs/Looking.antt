-- Looks along the links of the arcs that begin at a node.
use Rattle.std.proofs.Common.{◌≡◌, ℕ, zero, suc, ◌+◌, ◌-◌, ◌<◌, ◌≤◌, Bool, true, false, ◌&&◌, cond, eqb, ltb, List, ◌∷◌, length, Some, None, Option, sym, refl, subst, ⊎_elim, arith}
use Rattle.std.specs.List.{find, filter, range_with_len}
use Rattle.std.proofs.lemmas.Bool.{cases_lt, cases_Bool, and_from, and_parts, and_left, and_right, eqb-true}
use Rattle.flow.specs.Table.{Table, begins}
use Rattle.marks.specs.declared.mark.Mark.{Mark}
use Rattle.marks.specs.declared.arcs.Arcs.{Arcs}
use Rattle.marks.specs.Shown.{shown}
use Rattle.marks.specs.Links.{arc_at, out_at, belongs, Earliest}
use Rattle.marks.specs.Follow.{near_at, arcs_from}
use Rattle.marks.proofs.Following.{arc_within}
use Rattle.listing.specs.declared.links.Links.{Links}
use Rattle.listing.specs.Looks.{AtArc, begins_left, FoundFrom}

-- where none is found before n, the lowest from n on is the lowest from m on
earliest_from : (P : ℕ → Bool) (m n : ℕ) (o : Option ℕ) → m ≤ n → ((k : ℕ) → m ≤ k → k < n → P k ≡ false) → Earliest P n o → Earliest P m o
earliest_from P m n None l z h = λ k p. ⊎_elim (λ q. z k p q) (λ q. h k q) (cases_lt k n)
earliest_from P m n (Some j) l z h = (omega (arith, h.0), h.1, λ k p q. ⊎_elim (λ r. z k p r) (λ r. h.2 k r q) (cases_lt k n))

-- what is found among the numbers at which Q holds is the lowest at which P holds too
module _ (P Q : ℕ → Bool) where
  find_earliest : (m c : ℕ) → ((k : ℕ) → m + c ≤ k → Q k ≡ false) → Earliest (λ k. Q k && P k) m (find P (filter Q (range_with_len m c)))
  find_earliest m zero past = λ k l. and_left (Q k) (P k) (past k (omega arith))
  find_earliest m (suc c) past = at (find_earliest (m + 1) c (λ k l. past k (omega arith))) (Q m) refl (P m) refl
    where
      on : List ℕ
      on = filter Q (range_with_len (m + 1) c)

      later : Earliest (λ k. Q k && P k) (m + 1) (find P on) → (Q m && P m) ≡ false → Earliest (λ k. Q k && P k) m (find P on)
      later h z = earliest_from (λ k. Q k && P k) m (m + 1) (find P on) (omega arith)
          (λ k a b. let e : m ≡ k = omega arith in subst (λ (j : ℕ). (Q j && P j) ≡ false) e z) h

      at : Earliest (λ k. Q k && P k) (m + 1) (find P on) → (q : Bool) → Q m ≡ q → (p : Bool) → P m ≡ p →
          Earliest (λ k. Q k && P k) m (find P (cond (Q m) (m ∷ on) on))
      at h false a p b = subst (λ (x : Bool). Earliest (λ k. Q k && P k) m (find P (cond x (m ∷ on) on))) (sym a) (later h (and_left (Q m) (P m) a))
      at h true a false b = subst (λ (x : Bool). Earliest (λ k. Q k && P k) m (find P (cond x (m ∷ on) on))) (sym a)
          (subst (λ (x : Bool). Earliest (λ k. Q k && P k) m (cond x (Some m) (find P on))) (sym b) (later h (and_right (Q m) (P m) b)))
      at h true a true b = subst (λ (x : Bool). Earliest (λ k. Q k && P k) m (find P (cond x (m ∷ on) on))) (sym a)
          (subst (λ (x : Bool). Earliest (λ k. Q k && P k) m (cond x (Some m) (find P on))) (sym b)
          (omega arith, and_from (Q m) (P m) a b, λ k p q. absurd (omega arith)))

-- so the lowest arc with something left is found along the links
pub found_from : (a : Arcs) (left : ℕ → ℕ) (from : Option ℕ) → FoundFrom (shown a) left from (find (λ k. ltb 0 (left k)) (arcs_from a.marks.now true from))
found_from a left None v n h = λ k l. and_left (begins (shown a) v k) (ltb 0 (left k)) (h k l)
found_from a left (Some j) v n h =
    let ps : List Mark = a.marks.now in
    let here = and_parts (arc_at ps j) (eqb (near_at ps true j) v) h.1 in
    let at : near_at ps true j ≡ v = eqb-true (near_at ps true j) v here.1 in
    let P : ℕ → Bool = λ k. ltb 0 (left k) in
    let far : j + (length ps - j) ≡ length ps = omega (arith, arc_within ps j here.0) in
    subst (λ (u : ℕ). Earliest (begins_left (shown a) left v) n (find P (filter (belongs (arc_at ps) (near_at ps true) u) (range_with_len j (length ps - j))))) (sym at)
    (earliest_from (begins_left (shown a) left v) n j _ h.0 (λ k p q. and_left (begins (shown a) v k) (P k) (h.2 k p q))
    (find_earliest P (belongs (arc_at ps) (near_at ps true) v) j (length ps - j)
    (λ k l. and_left (arc_at ps k) (eqb (near_at ps true k) v) (past ps k (omega arith)))))
  where
    past : (ps : List Mark) (k : ℕ) → length ps ≤ k → arc_at ps k ≡ false
    past ps k l = ⊎_elim (λ e. absurd (omega (arith, arc_within ps k e))) (λ e. e) (cases_Bool (arc_at ps k))

-- what is named as the lowest from n on is an arc
pub earliest_arc : (T : Table) (v n : ℕ) (o : Option ℕ) → Earliest (begins T v) n o → AtArc T o
earliest_arc T v n None h = tt
earliest_arc T v n (Some k) h = (and_parts (T.arc k) (eqb (T.begin k) v) h.1).0

-- what has something left is an arc
pub left_arc : (T : Table) (left : ℕ → ℕ) (v n k : ℕ) → Earliest (begins_left T left v) n (Some k) → T.arc k ≡ true
left_arc T left v n k h = (and_parts (T.arc k) (eqb (T.begin k) v) (and_parts (begins T v k) (ltb 0 (left k)) h.1).0).0

-- where an arc ends, the node names the lowest arc that begins there
module _ (l : Links) (k : ℕ) (arc : (shown l.arcs).arc k ≡ true) where
  pub end_within : (shown l.arcs).end k < length l.nodes.now
  end_within = omega (arith, (l.arcs.sound.0 k arc).1, l.whole.nodes)

  pub end_names : (o : Option ℕ) → o ≡ out_at l.nodes.now ((shown l.arcs).end k) → Earliest (begins (shown l.arcs) ((shown l.arcs).end k)) 0 o
  end_names o e = subst (Earliest (begins (shown l.arcs) ((shown l.arcs).end k)) 0) (sym e) (l.whole.linked.out ((shown l.arcs).end k) end_within)
