-- The lengths that are worked out node by node are To and From: so every sound wiring has its lengths.
use Rattle.std.proofs.Common.{◌≡◌, ℕ, zero, suc, ◌+◌, ◌<◌, Bool, true, false, cond, eqb, List, [], ◌∷◌, length, Some, None, Option, unwrap_or, sym, refl, ap, ◌∙◌, subst, arith, length-append, below_more}
use Rattle.std.proofs.lemmas.List.{get_or_append_left, get_or_push}
use Rattle.std.proofs.lemmas.Bool.{eqb-true, eqb-false}
use Rattle.delay.specs.Kind.{Kind, Laws}
use Rattle.wiring.specs.declared.Lead.{Lead}
use Rattle.wiring.specs.Net.{Net, Sound}
use Rattle.wiring.specs.Views.{mirror}
use Rattle.wiring.proofs.Ends.{one_lead}
use Rattle.wiring.proofs.Cover.{Tables}
use Rattle.wiring.proofs.Turning.{turned_sound, from_turned}
use Rattle.lengths.specs.Tables.{entry}
use Rattle.lengths.specs.Steps.{longer_of, offer, LengthAt}
use Rattle.lengths.specs.Worked.{longer_by, longest_into, with_next, lengths_to, worked_to, worked_from}
use Rattle.lengths.proofs.Best.{BestBelow, best_skip, best_more}
use Rattle.lengths.proofs.Filling.{Each, offers_within, length_kept, length_of_best, holds_to}

module _ {D : Type 0} {K : Kind D} (L : Laws K) {N : Net D} (S : Sound K N) where
  -- one place more
  more_below : (to : ℕ → D) (v : ℕ) → Each K N to v → (p : ℕ) (best : Option D) → BestBelow K N (λ l. l.head ≡ v) (offer K to) p best →
      (o : Option (Lead D)) → N.at p ≡ o → BestBelow K N (λ l. l.head ≡ v) (offer K to) (p + 1) (longer_by K to v o best)
  more_below to v R p best B None e =
      best_skip K L N (λ l. l.head ≡ v) (offer K to) (offers_within K N S to v R) p best B (λ l h q. let z : ◌≡◌ {A = ℕ} 0 1 = cc in omega arith)
  more_below to v R p best B (Some l) e = at (eqb l.head v) refl
    where
      at : (b : Bool) → eqb l.head v ≡ b → BestBelow K N (λ l. l.head ≡ v) (offer K to) (p + 1) (cond b (Some (longer_of K best (offer K to l))) best)
      at true q = best_more K L N (λ l. l.head ≡ v) (offer K to) (offers_within K N S to v R) p best l B e (eqb-true l.head v q)
      at false q = best_skip K L N (λ l. l.head ≡ v) (offer K to) (offers_within K N S to v R) p best B
          (λ m h r. eqb-false l.head v q (ap (λ (x : Lead D). x.head) (one_lead N p e h) ∙ r))

  longest_below : (to : ℕ → D) (v : ℕ) → Each K N to v → (p : ℕ) → BestBelow K N (λ l. l.head ≡ v) (offer K to) p (longest_into K N to v p)
  longest_below to v R zero = λ k i l h q. absurd (omega arith)
  longest_below to v R (suc p) =
      let e : p + 1 ≡ suc p = omega arith in
      subst (λ n. BestBelow K N (λ l. l.head ≡ v) (offer K to) n (longest_into K N to v (suc p))) e
      (more_below to v R p (longest_into K N to v p) (longest_below to v R p) (N.at p) refl)

  -- the rule at v is kept
  with_next_kept : (xs : List D) (v : ℕ) → length xs ≡ v → Each K N (entry K xs) v → Each K N (entry K (with_next K N xs v)) (v + 1)
  with_next_kept xs v len R =
      let x : D = unwrap_or (longest_into K N (entry K xs) v N.places) K.zero in
      let next : ℕ → D = entry K (with_next K N xs v) in
      let same : (u : ℕ) → u < v → entry K xs u ≡ next u = λ u h. sym (get_or_append_left xs (x ∷ []) K.zero u (omega arith)) in
      let here : next v ≡ x = get_or_push xs x K.zero v len in
      below_more _ v
      (λ u h. subst (LengthAt K N next u) (same u h) (length_kept K N S (entry K xs) next u (entry K xs u) (λ t j. same t (omega arith)) (R u h)))
      (subst (LengthAt K N next v) (sym here)
      (length_kept K N S (entry K xs) next v x same
      (length_of_best K N S (entry K xs) v (longest_into K N (entry K xs) v N.places) (longest_below (entry K xs) v R N.places))))

  lengths_count : (n : ℕ) → length (lengths_to K N n) ≡ n
  lengths_count zero = refl
  lengths_count (suc n) =
      let xs = lengths_to K N n in
      omega (arith, length-append xs (unwrap_or (longest_into K N (entry K xs) n N.places) K.zero ∷ []), lengths_count n)

  lengths_kept : (n : ℕ) → Each K N (entry K (lengths_to K N n)) n
  lengths_kept zero = λ u i. absurd (omega arith)
  lengths_kept (suc n) =
      let e : n + 1 ≡ suc n = omega arith in
      subst (Each K N (entry K (lengths_to K N (suc n)))) e (with_next_kept (lengths_to K N n) n (lengths_count n) (lengths_kept n))

-- what is worked out is To and From
pub worked_tables : {D : Type 0} {K : Kind D} (L : Laws K) {N : Net D} (S : Sound K N) → Tables K N (worked_to K N) (worked_from K N)
worked_tables {K = K} L {N} S =
    let there = holds_to K N S L (lengths_to K N N.nodes) (lengths_kept L S N.nodes) in
    let T = turned_sound L S in
    record {
      to_is = there.longest;
      from_is = λ v i. from_turned L S v (worked_from K N v) i
          ((holds_to K _ T L _ (lengths_kept L T N.nodes)).longest (mirror N.nodes v) (omega arith));
    }
