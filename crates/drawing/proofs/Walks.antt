-- Walks by lowest leads: there is one, and one only.
use Rattle.std.proofs.Common.{◌≡◌, ℕ, zero, suc, ◌<◌, false, List, [], ◌∷◌, sym, refl, ◌∙◌, subst, ap₂, ⊎_elim, arith}
use Rattle.std.proofs.lemmas.Bool.{cases_Bool, both_ways}
use Rattle.wiring.specs.Lists.{Lowest, Walker, Walk}
use Rattle.flow.proofs.Exist.{lowest_one}

pub walk_one : (X : Walker) (v : ℕ) {a b : ℕ} (js is : List ℕ) → Walk X v js a → Walk X v is b → (js ≡ is) × (a ≡ b)
walk_one X v [] [] x y = (refl, sym x.1 ∙ y.1)
walk_one X v [] (i ∷ is) x y = absurd (both_ways (X.done v) y.0 x.0)
walk_one X v (j ∷ js) [] x y = absurd (both_ways (X.done v) x.0 y.0)
walk_one X v {a} (j ∷ js) (i ∷ is) x y =
    let e : j ≡ i = lowest_one x.1 y.1 in
    let r = walk_one X (X.next i) js is (subst (λ (k : ℕ). Walk X (X.next k) js a) e x.2) y.2 in
    (ap₂ ◌∷◌ e r.0, r.1)

-- where a step is always possible, and brings one nearer, the walk ends
module _ (X : Walker) (On : ℕ → Type 0) (rank : ℕ → ℕ)
    (step : (v : ℕ) → On v → X.done v ≡ false → (j : ℕ) × Lowest (X.by v) j × On (X.next j) × (rank (X.next j) < rank v)) where
  walk_within : (n v : ℕ) → rank v < n → On v → (js : List ℕ) × (w : ℕ) × Walk X v js w × On w
  walk_within zero v far o = absurd (omega arith)
  walk_within (suc n) v far o = ⊎_elim
      (λ e. ([], v, (e, refl), o))
      (λ e.
      let s = step v o e in
      let r = walk_within n (X.next s.0) (omega (arith, s.3)) s.2 in
      (s.0 ∷ r.0, r.1, (e, s.1, r.2), r.3))
      (cases_Bool (X.done v))

  pub walk_exists : (v : ℕ) → On v → (js : List ℕ) × (w : ℕ) × Walk X v js w × On w
  walk_exists v o = walk_within (suc (rank v)) v (omega arith) o
