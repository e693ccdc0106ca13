-- Walks by the lowest leads, one step after another.
use Rattle.std.proofs.Common.{◌≡◌, ℕ, ◌<◌, Bool, true, false, List, [], ◌∷◌, length, Some, None, Option, sym, refl, ap, ◌∙◌, subst, arith}
use Rattle.std.proofs.lemmas.Bool.{both_ways}
use Rattle.std.specs.Iterator.{Yields, Drains}
use Rattle.wiring.specs.Lists.{Lowest, Walker, Walk}
use Rattle.flow.proofs.Exist.{lowest_one}
use Rattle.marks.specs.Links.{Earliest}
use Rattle.listing.specs.Walks.{StepTo}

-- what is still to come begins with the lead that is named, or nothing comes
abbrev pub Meets : List ℕ → Option ℕ → Type 0
Meets rest None = rest ≡ []
Meets rest (Some j) = (is : List ℕ) × (rest ≡ j ∷ is)

module _ (X : Walker) where
  -- so it is where the lowest lead is named by which one may go, and none where one is done
  pub meets : (v : ℕ) (rest : List ℕ) (w : ℕ) (P : ℕ → Bool) (o : Option ℕ) → Walk X v rest w → Earliest P 0 o →
      (X.done v ≡ false → (k : ℕ) → P k ≡ X.by v k) → (X.done v ≡ true → (k : ℕ) → P k ≡ false) → Meets rest o
  meets v [] w P None g e may none = refl
  meets v [] w P (Some j) g e may none = absurd (both_ways (P j) (none g.0 j) e.1)
  meets v (i ∷ is) w P None g e may none = absurd (both_ways (P i) (e i (omega arith)) (may g.0 i ∙ g.1.holds))
  meets v (i ∷ is) w P (Some j) g e may none =
      let low : Lowest (X.by v) j = record { holds = sym (may g.0 j) ∙ e.1; below = λ k l. sym (may g.0 k) ∙ e.2 k (omega arith) l } in
      (is, ap (λ (k : ℕ). k ∷ is) (lowest_one g.1 low))

-- states that stand at nodes and lead on step by step, all in one way
module _ {S C : Type 0} (of : S → C) (along : S → Bool) (node : S → ℕ) (X : C → Bool → Walker) where
  abbrev Steps : S → Option ℕ → S → Type 0
  Steps s o t = StepTo (X (of s) (along s)) (node s) o (node t) × (of t ≡ of s) × (along t ≡ along s)

  abbrev way_of : S → Walker
  way_of s = X (of s) (along s)

  same_way : (s : S) (o : Option ℕ) (t : S) → Steps s o t → way_of t ≡ way_of s
  same_way s o t r = λ i. X (r.1 i) (r.2 i)

  steps_walk : (s : S) (xs : List ℕ) → Drains Steps s xs → (stop : ℕ) × Walk (way_of s) (node s) xs stop
  steps_walk s [] d = (node s, (subst (λ (t : S). (way_of t).done (node t) ≡ true) (sym d.1.1) d.1.2.0, refl))
  steps_walk s (x ∷ xs) d =
      let one = d.1.1 in let step = one.1.0 in
      let on = steps_walk one.0 xs (d.0, (d.1.0, one.2, d.1.2)) in (
        on.0,
        (
          step.0,
          step.1,
          subst (λ (v : ℕ). Walk (way_of s) v xs on.0) (sym step.2)
              (subst (λ (Y : Walker). Walk Y (node one.0) xs on.0) (same_way s (Some x) one.0 one.1) on.1),
        ),
      )

  steps_less : (s : S) (xs : List ℕ) (t : S) (x : ℕ) (u : S) → Yields Steps s xs t → Steps t (Some x) u →
      (leads : List ℕ) (w : ℕ) → Walk (way_of s) (node s) leads w → length xs < length leads
  steps_less s [] t x u y r [] w g = absurd (both_ways ((way_of s).done (node s))
      (subst (λ (q : S). (way_of q).done (node q) ≡ false) (sym y) r.0.0) g.0)
  steps_less s [] t x u y r (i ∷ is) w g = omega arith
  steps_less s (j ∷ js) t x u y r [] w g = absurd (both_ways ((way_of s).done (node s)) y.1.0.0 g.0)
  steps_less s (j ∷ js) t x u y r (i ∷ is) w g =
      let step = y.1.0 in
      let at : (way_of s).next i ≡ node y.0 = ap (way_of s).next (lowest_one g.1 step.1) ∙ step.2 in
      let on : Walk (way_of y.0) (node y.0) is w = subst (λ (Y : Walker). Walk Y (node y.0) is w) (sym (same_way s (Some j) y.0 y.1))
      (subst (λ (v : ℕ). Walk (way_of s) v is w) at g.2) in
      omega (arith, steps_less y.0 js t x u y.2 r is w on)

  module _ (s : S) {begun : S} (same : begun ≡ s) (xs : List ℕ) where
    -- all that they meet is a walk
    pub steps_end : Drains Steps begun xs → (stop : ℕ) × Walk (way_of s) (node s) xs stop
    steps_end d = steps_walk s xs (subst (λ (t : S). Drains Steps t xs) same d)

    -- and before one more of the leads of a walk is met, fewer have been
    pub steps_fewer : (t : S) {x : ℕ} (u : S) → Yields Steps begun xs t → Steps t (Some x) u →
        (leads : List ℕ) (w : ℕ) → Walk (way_of s) (node s) leads w → length xs < length leads
    steps_fewer t {x} u y r = steps_less s xs t x u (subst (λ (q : S). Yields Steps q xs t) same y) r
