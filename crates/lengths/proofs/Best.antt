-- The longest of what the leads below a place offer, lead by lead.
use Rattle.std.proofs.Common.{◌≡◌, ℕ, ◌+◌, ◌<◌, ◌≤◌, Bool, true, false, cond, Some, None, Option, refl, subst, ⊎_elim, arith, below_more}
use Rattle.std.proofs.lemmas.Bool.{cases_lt}
use Rattle.delay.specs.Kind.{Kind, Within, Laws, Le}
use Rattle.delay.proofs.Sums.{le_refl, le_trans, lt_le}
use Rattle.wiring.specs.declared.Lead.{Lead}
use Rattle.wiring.specs.Net.{Net, Holds}
use Rattle.wiring.proofs.Ends.{one_lead}
use Rattle.lengths.specs.Steps.{longer_of}

-- among the leads below the place p of which Q holds, best is the longest value, or nothing where there is none
abbrev pub BestBelow : {D : Type 0} → Kind D → Net D → (Lead D → Type 0) → (Lead D → D) → ℕ → Option D → Type 0
BestBelow {D} K N Q value p None = (k : ℕ) → k < p → (l : Lead D) → Holds N k l → Q l → ⊥
BestBelow {D} K N Q value p (Some b) =
    ((k : ℕ) × (l : Lead D) × (k < p) × Holds N k l × Q l × (value l ≡ b)) × ((k : ℕ) → k < p → (l : Lead D) → Holds N k l → Q l → Le K (value l) b)

module _ {D : Type 0} (K : Kind D) (L : Laws K) (N : Net D) (Q : Lead D → Type 0) (value : Lead D → D)
    (within : (k : ℕ) (l : Lead D) → Holds N k l → Q l → Within K (value l)) where
  -- no such lead stands from p on below n
  pub best_jump : (p n : ℕ) (best : Option D) → p ≤ n → BestBelow K N Q value p best → ((k : ℕ) → p ≤ k → k < n → (l : Lead D) → Holds N k l → Q l → ⊥) →
      BestBelow K N Q value n best
  best_jump p n None i h bars = λ k j l a q. ⊎_elim (λ m. h k m l a q) (λ m. bars k m j l a q) (cases_lt k p)
  best_jump p n (Some b) i h bars = let w = h.0 in (
    (w.0, w.1, omega (arith, w.2), w.3, w.4, w.5),
    λ k j l a q. ⊎_elim (λ m. h.1 k m l a q) (λ m. absurd (bars k m j l a q)) (cases_lt k p),
  )

  -- none stands at p
  pub best_skip : (p : ℕ) (best : Option D) → BestBelow K N Q value p best → ((l : Lead D) → Holds N p l → Q l → ⊥) → BestBelow K N Q value (p + 1) best
  best_skip p best h n = best_jump p (p + 1) best (omega arith) h (λ k i j l a q. let e : k ≡ p = omega arith in n l (subst (λ x. Holds N x l) e a) q)

  -- the lead l stands at p, and Q holds of it
  pub best_more : (p : ℕ) (best : Option D) (l : Lead D) → BestBelow K N Q value p best → Holds N p l → Q l → BestBelow K N Q value (p + 1) (Some (longer_of K best (value l)))
  best_more p None l h a q = (
    (p, l, omega arith, a, q, refl),
    below_more _ p (λ k i m b r. absurd (h k i m b r))
        (λ m b r. subst (λ (x : Lead D). Le K (value x) (value l)) (one_lead N p a b) (le_refl L (within p l a q))),
  )
  best_more p (Some b) l h a q = pick (K.below b (value l)) refl
    where
      w : (k : ℕ) × (m : Lead D) × (k < p) × Holds N k m × Q m × (value m ≡ b)
      w = h.0

      within_b : Within K b
      within_b = subst (Within K) w.5 (within w.0 w.1 w.3 w.4)

      pick : (c : Bool) → K.below b (value l) ≡ c → BestBelow K N Q value (p + 1) (Some (cond c (value l) b))
      pick true i = (
        (p, l, omega arith, a, q, refl),
        below_more _ p
            (λ k j m e r. le_trans L (within k m e r) within_b (within p l a q) (h.1 k j m e r) (lt_le L within_b (within p l a q) i))
            (λ m e r. subst (λ (x : Lead D). Le K (value x) (value l)) (one_lead N p a e) (le_refl L (within p l a q))),
      )
      pick false i = (
        (w.0, w.1, omega (arith, w.2), w.3, w.4, w.5),
        below_more _ p h.1 (λ m e r. subst (λ (x : Lead D). Le K (value x) b) (one_lead N p a e) i),
      )
