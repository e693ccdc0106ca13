-- The arcs of each node, linked place by place.
use Rattle.std.proofs.Common.{◌≡◌, ℕ, ◌+◌, ◌<◌, ◌≤◌, Bool, true, false, eqb, List, length, Some, None, Option, is_some, sym, refl, ap, ◌∙◌, subst, ⊎_elim, arith}
use Rattle.std.proofs.lemmas.Bool.{cases_eq, eq-eqb, ne_eqb, and_from, and_left, and_right, both_ways}
use Rattle.std.proofs.lemmas.List.{get_or_past}
use Rattle.std.proofs.Props.{props}
use Rattle.flow.specs.Trails.{put}
use Rattle.flow.proofs.Seek.{put_at, put_off}
use Rattle.marks.specs.declared.mark.Mark.{Mark}
use Rattle.marks.specs.Marks.{blank}
use Rattle.marks.specs.Links.{arc_at, begin_at, end_at, out_at, into_at, Earliest, belongs, Heads, Nexts, Linked, ArcsKept, PlaceLinked}

earliest_skip : (P : ℕ → Bool) (j : ℕ) (o : Option ℕ) → P j ≡ false → Earliest P (j + 1) o → Earliest P j o
earliest_skip P j None e h = λ k l. ⊎_elim (λ q. ap P (sym q) ∙ e) (λ n. h k (omega arith)) (cases_eq j k)
earliest_skip P j (Some i) e h = (omega (arith, h.0), h.1, λ k l m. ⊎_elim (λ q. ap P (sym q) ∙ e) (λ n. h.2 k (omega arith) m) (cases_eq j k))

module _ (A : ℕ → Bool) (B : ℕ → ℕ) (n j : ℕ) (a : A j ≡ true) where
  heads_step : (first : ℕ → Option ℕ) → Heads A B n (j + 1) first → Heads A B n j (put first (B j) (Some j))
  heads_step first h v l = ⊎_elim
      (λ e. subst (Earliest (belongs A B v) j) (sym (put_at first (B j) (Some j) v e))
      (omega arith, and_from (A j) (eqb (B j) v) a (eq-eqb (B j) v e), λ k p q. absurd (omega arith)))
      (λ d. subst (Earliest (belongs A B v) j) (sym (put_off first (B j) (Some j) v d))
      (earliest_skip (belongs A B v) j (first v) (and_right (A j) (eqb (B j) v) (ne_eqb (B j) v d)) (h v l)))
      (cases_eq (B j) v)

  nexts_step : (first next : ℕ → Option ℕ) → B j < n → Heads A B n (j + 1) first → Nexts A B (j + 1) next → Nexts A B j (put next j (first (B j)))
  nexts_step first next l h r k m q = ⊎_elim
      (λ e. subst (Earliest (belongs A B (B k)) (k + 1)) (sym (put_at next j (first (B j)) k e))
      (subst (λ (i : ℕ). Earliest (belongs A B (B i)) (i + 1) (first (B j))) e (h (B j) l)))
      (λ d. subst (Earliest (belongs A B (B k)) (k + 1)) (sym (put_off next j (first (B j)) k d)) (r k (omega arith) q))
      (cases_eq j k)

-- the same, with functions that are equal to these
pub heads_moved : (A A' : ℕ → Bool) (B B' : ℕ → ℕ) (n m : ℕ) (first first' : ℕ → Option ℕ) → A' ≡ A → B' ≡ B → first' ≡ first → Heads A B n m first →
    Heads A' B' n m first'
heads_moved A A' B B' n m first first' a b f h =
    subst (λ (X : ℕ → Bool). Heads X B' n m first') (sym a) (subst (λ (X : ℕ → ℕ). Heads A X n m first') (sym b)
    (subst (λ (X : ℕ → Option ℕ). Heads A B n m X) (sym f) h))

nexts_moved : (A A' : ℕ → Bool) (B B' : ℕ → ℕ) (m : ℕ) (next next' : ℕ → Option ℕ) → A' ≡ A → B' ≡ B → next' ≡ next → Nexts A B m next → Nexts A' B' m next'
nexts_moved A A' B B' m next next' a b f h =
    subst (λ (X : ℕ → Bool). Nexts X B' m next') (sym a) (subst (λ (X : ℕ → ℕ). Nexts A X m next') (sym b)
    (subst (λ (X : ℕ → Option ℕ). Nexts A B m X) (sym f) h))

pub linked_none : (ps ns : List Mark) → ((v : ℕ) → v < length ns → (out_at ns v ≡ None) × (into_at ns v ≡ None)) → Linked ps ns (length ps)
linked_none ps ns h =
    record {
      out = λ v l. subst (Earliest (belongs (arc_at ps) (begin_at ps) v) (length ps)) (sym (h v l).0) (none (begin_at ps) v);
      into = λ v l. subst (Earliest (belongs (arc_at ps) (end_at ps) v) (length ps)) (sym (h v l).1) (none (end_at ps) v);
      next_out = λ k l a. absurd (both_ways (arc_at ps k) (past k l) a);
      next_into = λ k l a. absurd (both_ways (arc_at ps k) (past k l) a);
    }
  where
    past : (k : ℕ) → length ps ≤ k → arc_at ps k ≡ false
    past k l = ap (λ (m : Mark). is_some m.arc) (get_or_past ps k blank l)

    none : (B : ℕ → ℕ) (v : ℕ) → Earliest (belongs (arc_at ps) B v) (length ps) None
    none B v k l = and_left (arc_at ps k) (eqb (B k) v) (past k l)

pub linked_step : (ps ns qs ms : List Mark) (j m : ℕ) → m ≡ j + 1 → length ms ≡ length ns → arc_at ps j ≡ true → begin_at ps j < length ns →
    end_at ps j < length ns
    → Linked ps ns m → PlaceLinked ps ns qs ms j → Linked qs ms j
linked_step ps ns qs ms j m e long a b d L P =
    let h = subst (Linked ps ns) e L in
    let n = length ns in
    let A = arc_at ps in
    subst (λ (i : ℕ). Heads (arc_at qs) (begin_at qs) i j (out_at ms) → Heads (arc_at qs) (end_at qs) i j (into_at ms) → Linked qs ms j) long
    (λ out into. record {
      out = out;
      into = into;
      next_out = nexts_moved A (arc_at qs) (begin_at ps) (begin_at qs) j _ (out_at qs) P.arcs.arc P.arcs.begin P.next_out
          (nexts_step A (begin_at ps) n j a (out_at ns) (out_at ps) b h.out h.next_out);
      next_into = nexts_moved A (arc_at qs) (end_at ps) (end_at qs) j _ (into_at qs) P.arcs.arc P.arcs.end P.next_into
          (nexts_step A (end_at ps) n j a (into_at ns) (into_at ps) d h.into h.next_into);
    })
    (heads_moved A (arc_at qs) (begin_at ps) (begin_at qs) n j _ (out_at ms) P.arcs.arc P.arcs.begin P.out
    (heads_step A (begin_at ps) n j a (out_at ns) h.out))
    (heads_moved A (arc_at qs) (end_at ps) (end_at qs) n j _ (into_at ms) P.arcs.arc P.arcs.end P.into
    (heads_step A (end_at ps) n j a (into_at ns) h.into))

pub kept_none : (ps : List Mark) → ArcsKept ps ps
kept_none ps = record { arc = refl; begin = refl; end = refl; classes = refl; places = refl }

pub kept_more : (ps qs rs : List Mark) → ArcsKept ps qs → ArcsKept qs rs → ArcsKept ps rs
kept_more ps qs rs h k = record {
  arc = k.arc ∙ h.arc;
  begin = k.begin ∙ h.begin;
  end = k.end ∙ h.end;
  classes = k.classes
      ∙ h.classes;
  places = k.places ∙ h.places;
}

-- links say the same whatever shows it, so a struct can keep the fact
earliest_prop : (P : ℕ → Bool) (m : ℕ) (o : Option ℕ) → IsProp (Earliest P m o)
earliest_prop P m None = hlevel props
earliest_prop P m (Some j) = hlevel props

pub linked_prop : (ps ns : List Mark) (m : ℕ) → IsProp (Linked ps ns m)
linked_prop ps ns m = hlevel (props, earliest_prop)
