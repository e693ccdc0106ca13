-- The length of a node, lead by lead along its links.
use Rattle.std.proofs.Common.{◌≡◌, ℕ, Bool, true, false, cond, List, [], ◌∷◌, ◌++◌, Some, None, Option, sym, refl, ap, ◌∙◌, subst}
use Rattle.std.specs.List.{All}
use Rattle.std.proofs.lemmas.List.Elements.{All-nil, All-same, All-push, All-weaker}
use Rattle.delay.specs.Kind.{Kind, Laws, Within, Le}
use Rattle.delay.proofs.Sums.{le_refl, le_trans, lt_le}
use Rattle.wiring.specs.declared.Lead.{Lead}
use Rattle.wiring.specs.Net.{Net, Holds, Sound, stands}
use Rattle.wiring.specs.Lists.{head_in}
use Rattle.wiring.proofs.Ends.{below_places, one_lead}
use Rattle.wiring.proofs.Types.{lead_at}
use Rattle.lengths.specs.Steps.{longer_of, offer}
use Rattle.lengths.proofs.Best.{BestBelow}
use Rattle.lengths.proofs.Filling.{Each, offers_within}
use Rattle.marks.specs.declared.mark.Mark.{Mark}
use Rattle.marks.specs.Links.{arc_at, end_at}
use Rattle.marks.specs.Follow.{arcs_of}
use Rattle.marks.proofs.Following.{arcs_all}
use Rattle.filling.specs.Leads.{Leads}

-- at an arc that ends at the node v stands a lead into v
pub linked_lead : {D : Type 0} (N : Net D) (ps : List Mark) → Leads N ps → (v k : ℕ) → (arc_at ps k ≡ true) × (end_at ps k ≡ v) →
    (l : Lead D) × Holds N k l × (l.head ≡ v)
linked_lead N ps P v k a =
    let l = lead_at N k (sym (ap (λ f. f k) P.arc) ∙ a.0) in
    (l.0, l.1, sym (ap (λ f. f k) P.end ∙ ap head_in l.1) ∙ a.1)

module _ {D : Type 0} (K : Kind D) (N : Net D) (to : ℕ → D) (v : ℕ) where
  -- what the lead at the place k gives v is not longer than b
  abbrev pub NotOver : D → ℕ → Type 0
  NotOver b k = (l : Lead D) → Holds N k l → l.head ≡ v → Le K (offer K to l) b

  -- best is the longest that the leads into v at the places ks give
  abbrev pub BestIn : List ℕ → Option D → Type 0
  BestIn ks None = ks ≡ []
  BestIn ks (Some b) = ((k : ℕ) × (l : Lead D) × Holds N k l × (l.head ≡ v) × (offer K to l ≡ b)) × All (NotOver b) ks

  module _ (L : Laws K) (S : Sound K N) (R : Each K N to v) where
    within : (k : ℕ) (l : Lead D) → Holds N k l → l.head ≡ v → Within K (offer K to l)
    within = offers_within K N S to v R

    itself : (k : ℕ) (l : Lead D) → Holds N k l → l.head ≡ v → NotOver (offer K to l) k
    itself k l a q m e r = subst (λ (x : Lead D). Le K (offer K to x) (offer K to l)) (one_lead N k a e) (le_refl L (within k l a q))

    -- one lead more
    pub best_in_more : (ks : List ℕ) (best : Option D) (k : ℕ) (l : Lead D) → BestIn ks best → Holds N k l → l.head ≡ v →
        BestIn (ks ++ k ∷ []) (Some (longer_of K best (offer K to l)))
    best_in_more ks None k l h a q = (
      (k, l, a, q, refl),
      All-push (NotOver (offer K to l)) ks k (All-same (NotOver (offer K to l)) ks [] h (All-nil (NotOver (offer K to l)))) (itself k l a q),
    )
    best_in_more ks (Some b) k l h a q = pick (K.below b (offer K to l)) refl
      where
        d : D
        d = offer K to l

        within_b : Within K b
        within_b = let w = h.0 in subst (Within K) w.4 (within w.0 w.1 w.2 w.3)

        pick : (c : Bool) → K.below b d ≡ c → BestIn (ks ++ k ∷ []) (Some (cond c d b))
        pick true i = (
          (k, l, a, q, refl),
          All-push (NotOver d) ks k
              (All-weaker (NotOver b) (NotOver d)
              (λ j n m e r. le_trans L (within j m e r) within_b (within k l a q) (n m e r) (lt_le L within_b (within k l a q) i)) ks h.1)
              (itself k l a q),
        )
        pick false i = (
          h.0,
          All-push (NotOver b) ks k h.1 (λ m e r. subst (λ (x : Lead D). Le K (offer K to x) b) (one_lead N k a e) i),
        )

  -- what holds at all arcs that end at v holds at all leads into v
  at_place : (ps : List Mark) → Leads N ps → (Q : ℕ → Type 0) → All Q (arcs_of ps false v) → (k : ℕ) (l : Lead D) → Holds N k l → l.head ≡ v → Q k
  at_place ps P Q g k l a q = arcs_all ps false v Q g k (ap (λ f. f k) P.arc ∙ ap stands a) (ap (λ f. f k) P.end ∙ ap head_in a ∙ q)

  pub best_in_all : (ps : List Mark) → Leads N ps → (best : Option D) → BestIn (arcs_of ps false v) best →
      BestBelow K N (λ l. l.head ≡ v) (offer K to) N.places best
  best_in_all ps P None h = λ k i l a q. at_place ps P (λ _. ⊥) (All-same (λ _. ⊥) (arcs_of ps false v) [] h (All-nil (λ _. ⊥))) k l a q
  best_in_all ps P (Some b) h = let w = h.0 in (
    (w.0, w.1, below_places N w.0 w.1 w.2, w.2, w.3, w.4),
    λ k i l a q. at_place ps P (NotOver b) h.1 k l a q l a q,
  )
