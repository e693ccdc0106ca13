-- The arcs of a node, one after another by their links.
use Rattle.std.proofs.Common.{◌≡◌, ℕ, zero, suc, ◌+◌, ◌-◌, ◌<◌, Bool, true, false, cond, eqb, is_some, Some, None, Option, List, [], ◌∷◌, ◌++◌, length, ◌≤◌, sym, refl, ap, ◌∙◌, subst, ⊎_elim, append_assoc, length-append, arith}
use Rattle.std.specs.List.{All, filter, range_with_len}
use Rattle.std.proofs.Math.Seq.{get_or-append_seam}
use Rattle.std.proofs.lemmas.List.Elements.{All-nil, All-head, All-tail, All-same, All-weaker, All-get_or, filter_passes}
use Rattle.std.proofs.lemmas.Bool.{cases_eq, cases_lt, eq-eqb, eqb-true, and_from, and_parts, both_ways}
use Rattle.std.proofs.lemmas.List.{get_or_past, append-nil}
use Rattle.marks.specs.declared.mark.Mark.{Mark}
use Rattle.marks.specs.Marks.{blank}
use Rattle.marks.specs.Links.{arc_at, link_at, Earliest, belongs, Nexts, Linked}
use Rattle.marks.specs.Follow.{arcs_of, near_at, arcs_from, Chained}

-- how many places are left from the next on
abbrev pub ahead_of : ℕ → Option ℕ → ℕ
ahead_of n None = 0
ahead_of n (Some k) = n - k

-- a link leads to an arc of the node
pub head_at : (A : ℕ → Bool) (B : ℕ → ℕ) (v m : ℕ) (o : Option ℕ) (j : ℕ) → Earliest (belongs A B v) m o → o ≡ Some j → (A j ≡ true) × (B j ≡ v)
head_at A B v m o j h e =
    let here = subst (Earliest (belongs A B v) m) e h in
    let both = and_parts (A j) (eqb (B j) v) here.1 in
    (both.0, eqb-true (B j) v both.1)

-- a node with an arc has a first one
pub head_some : (A : ℕ → Bool) (B : ℕ → ℕ) (v : ℕ) (o : Option ℕ) → Earliest (belongs A B v) 0 o → (j : ℕ) → A j ≡ true → B j ≡ v → is_some o ≡ true
head_some A B v None h j a b = absurd (both_ways (belongs A B v j) (h j (omega arith)) (and_from (A j) (eqb (B j) v) a (eq-eqb (B j) v b)))
head_some A B v (Some i) h j a b = refl

-- each link leads further
pub ahead_less : (P : ℕ → Bool) (n k : ℕ) (o : Option ℕ) → k < n → Earliest P (k + 1) o → ahead_of n o < n - k
ahead_less P n k None l h = omega arith
ahead_less P n k (Some j) l h = omega (arith, h.0)

-- of c numbers from m on, those at which P holds: none, or those from the first on
module _ (P : ℕ → Bool) where
  picked_none : (m c : ℕ) → Earliest P m None → filter P (range_with_len m c) ≡ []
  picked_none m zero h = refl
  picked_none m (suc c) h =
      let on = filter P (range_with_len (m + 1) c) in
      ap (λ (b : Bool). cond b (m ∷ on) on) (h m (omega arith)) ∙ picked_none (m + 1) c (λ k l. h k (omega arith))

  picked_on : (m c j : ℕ) → Earliest P m (Some j) → j < m + c → filter P (range_with_len m c) ≡ filter P (range_with_len j (m + c - j))
  picked_on m zero j h l = absurd (omega (arith, h.0))
  picked_on m (suc c) j h l = ⊎_elim
      (λ e. let all : suc c ≡ m + suc c - j = omega arith in
      ap (λ (x : ℕ). filter P (range_with_len m x)) all ∙ ap (λ (x : ℕ). filter P (range_with_len x (m + suc c - j))) e)
      (λ n. let on = filter P (range_with_len (m + 1) c) in
      let left : m + 1 + c - j ≡ m + suc c - j = omega arith in
      ap (λ (b : Bool). cond b (m ∷ on) on) (h.2 m (omega arith) (omega (arith, h.0)))
      ∙ picked_on (m + 1) c j (omega (arith, h.0), h.1, λ k a b. h.2 k (omega arith) b) (omega arith)
      ∙ ap (λ (x : ℕ). filter P (range_with_len j x)) left)
      (cases_eq m j)

-- what holds of all of them
module _ (P : ℕ → Bool) (Q : ℕ → Type 0) where
  picked_at : (m c : ℕ) → All Q (filter P (range_with_len m c)) → (k : ℕ) → m ≤ k → k < m + c → P k ≡ true → Q k
  picked_at m zero h k a b p = absurd (omega arith)
  picked_at m (suc c) h k a b p = ⊎_elim
      (λ e. let here = ap (λ (b : Bool). cond b (m ∷ on) on) (ap P e ∙ p) in subst Q e (All-head Q m on (All-same Q (m ∷ on) _ (sym here) h)))
      (λ n. picked_at (m + 1) c (later (P m) h) k (omega arith) (omega arith) p)
      (cases_eq m k)
    where
      on : List ℕ
      on = filter P (range_with_len (m + 1) c)

      later : (b : Bool) → All Q (cond b (m ∷ on) on) → All Q on
      later true = All-tail Q m on
      later false = λ g. g

-- a place with an arc is one of the table
pub arc_within : (ps : List Mark) (k : ℕ) → arc_at ps k ≡ true → k < length ps
arc_within ps k a = ⊎_elim (λ l. l) (λ l. absurd (both_ways (arc_at ps k) (ap (λ (m : Mark). is_some m.arc) (get_or_past ps k blank l)) a))
    (cases_lt k (length ps))

module _ (ps : List Mark) (along : Bool) where
  -- a link to the earliest arc from m on leads to all of them
  pub picked_link : (v m : ℕ) (o : Option ℕ) → Earliest (belongs (arc_at ps) (near_at ps along) v) m o →
      filter (belongs (arc_at ps) (near_at ps along) v) (range_with_len m (length ps - m)) ≡ arcs_from ps along o
  picked_link v m None h = picked_none (belongs (arc_at ps) (near_at ps along) v) m (length ps - m) h
  picked_link v m (Some j) h =
      let P = belongs (arc_at ps) (near_at ps along) in
      let at = head_at (arc_at ps) (near_at ps along) v m (Some j) j h refl in
      let l = arc_within ps j at.0 in
      let left : m + (length ps - m) - j ≡ length ps - j = omega (arith, h.0) in
      picked_on (P v) m (length ps - m) j h (omega (arith, h.0))
      ∙ ap (λ (x : ℕ). filter (P v) (range_with_len j x)) left
      ∙ ap (λ (w : ℕ). filter (P w) (range_with_len j (length ps - j))) (sym at.1)

  pub nexts_chained : Nexts (arc_at ps) (near_at ps along) 0 (link_at ps along) → Chained ps along
  nexts_chained h k a =
      let v = near_at ps along k in
      let P = belongs (arc_at ps) (near_at ps along) v in
      let here = and_from (arc_at ps k) (eqb v v) a (eq-eqb v v refl) in
      let on = filter P (range_with_len (k + 1) (length ps - (k + 1))) in
      let l = arc_within ps k a in
      let one : length ps - k ≡ suc (length ps - (k + 1)) = omega arith in (
        ap (λ (x : ℕ). filter P (range_with_len k x)) one
            ∙ ap (λ (b : Bool). cond b (k ∷ on) on) here
            ∙ ap (λ (xs : List ℕ). k ∷ xs) (picked_link v (k + 1) (link_at ps along k) (h k (omega arith) a)),
        λ i e. (head_at (arc_at ps) (near_at ps along) v (k + 1) (link_at ps along k) i (h k (omega arith) a) e).0,
      )

-- the links of a table, in one of the two directions
pub linked_chained : (ps ns : List Mark) → Linked ps ns 0 → (along : Bool) → Chained ps along
linked_chained ps ns h true = nexts_chained ps true h.next_out
linked_chained ps ns h false = nexts_chained ps false h.next_into

pub linked_first : (ps ns : List Mark) → Linked ps ns 0 → (along : Bool) (v : ℕ) → v < length ns →
    Earliest (belongs (arc_at ps) (near_at ps along) v) 0 (link_at ns along v)
linked_first ps ns h true v l = h.out v l
linked_first ps ns h false v l = h.into v l

-- the arcs of a node are its arcs, and all of them
pub arcs_each : (ps : List Mark) (along : Bool) (v : ℕ) → All (λ k. (arc_at ps k ≡ true) × (near_at ps along k ≡ v)) (arcs_of ps along v)
arcs_each ps along v =
    let P = belongs (arc_at ps) (near_at ps along) v in
    let ks = range_with_len 0 (length ps) in
    All-weaker (λ k. P k ≡ true) (λ k. (arc_at ps k ≡ true) × (near_at ps along k ≡ v))
    (λ k p. let both = and_parts (arc_at ps k) (eqb (near_at ps along k) v) p in (both.0, eqb-true (near_at ps along k) v both.1))
    (filter P ks) (filter_passes P ks)

pub arcs_all : (ps : List Mark) (along : Bool) (v : ℕ) (Q : ℕ → Type 0) → All Q (arcs_of ps along v) →
    (k : ℕ) → arc_at ps k ≡ true → near_at ps along k ≡ v → Q k
arcs_all ps along v Q h k a e =
    let P = belongs (arc_at ps) (near_at ps along) v in
    picked_at P Q 0 (length ps) h k (omega arith) (omega (arith, arc_within ps k a))
    (and_from (arc_at ps k) (eqb (near_at ps along k) v) a (eq-eqb (near_at ps along k) v e))

-- a `for` over arcs: those passed and those left make up all; one more, and all passed
pub passed_more : (all xs rest more : List ℕ) (k : ℕ) → all ≡ xs ++ rest → rest ≡ k ∷ more → all ≡ (xs ++ k ∷ []) ++ more
passed_more all xs rest more k h e = h ∙ ap (λ r. xs ++ r) e ∙ sym (append_assoc xs (k ∷ []) more)

pub passed_all : (all xs rest : List ℕ) → all ≡ xs ++ rest → rest ≡ [] → xs ≡ all
passed_all all xs rest h e = sym (h ∙ ap (λ r. xs ++ r) e ∙ append-nil xs)

-- what holds of all holds of the one at hand
pub passing : (Q : ℕ → Type 0) (all xs rest more : List ℕ) (k : ℕ) → all ≡ xs ++ rest → rest ≡ k ∷ more → All Q all → Q k
passing Q all xs rest more k h e each =
    let at = h ∙ ap (λ r. xs ++ r) e in
    subst Q (get_or-append_seam xs k more 0) (All-get_or Q (xs ++ k ∷ more) (length xs) 0 (simp length-append (omega arith)) (All-same Q (xs ++ k ∷ more) all (sym at) each))

pub arcs_from_each : (ps : List Mark) (along : Bool) (o : Option ℕ) → All (λ k. arc_at ps k ≡ true) (arcs_from ps along o)
arcs_from_each ps along None = All-nil (λ k. arc_at ps k ≡ true)
arcs_from_each ps along (Some j) =
    let P = belongs (arc_at ps) (near_at ps along) (near_at ps along j) in
    let ks = range_with_len j (length ps - j) in
    All-weaker (λ k. P k ≡ true) (λ k. arc_at ps k ≡ true)
    (λ k p. (and_parts (arc_at ps k) (eqb (near_at ps along k) (near_at ps along j)) p).0) (filter P ks) (filter_passes P ks)
