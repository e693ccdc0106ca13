-- Nodes that are forgotten one by one, by the queue.
use Rattle.std.proofs.Common.{◌≡◌, ℕ, ◌+◌, ◌<◌, Bool, true, false, sym, ◌∙◌, ap, ⊎_elim, arith}
use mathlib.Core.Logic.{∥∥₁_elim}
use Rattle.std.proofs.Props.{props}
use Rattle.std.proofs.lemmas.Bool.{cases_eq, both_ways, false_from_ne_true}
use Rattle.flow.specs.Trails.{put}
use Rattle.flow.proofs.Seek.{put_at, put_off}

module _ (R : ℕ → Bool) (v : ℕ) where
  -- what is still reached was reached
  pub put_less : (w : ℕ) → put R v false w ≡ true → R w ≡ true
  put_less w e = ⊎_elim (λ q. absurd (both_ways (put R v false w) (put_at R v false w q) e)) (λ n. sym (put_off R v false w n) ∙ e) (cases_eq v w)

  -- of a queue q, the nodes up to v are forgotten, and v with them
  pub put_none : (q : ℕ → ℕ) (i : ℕ) → q i ≡ v → ((j : ℕ) → j < i → R (q j) ≡ false) → (j : ℕ) → j < i + 1 → put R v false (q j) ≡ false
  put_none q i at h j l = ⊎_elim
      (λ e. put_at R v false (q j) e)
      (λ n. put_off R v false (q j) n ∙ ⊎_elim (λ e. absurd (n (sym at ∙ ap q e))) (λ m. h j (omega arith)) (cases_eq i j))
      (cases_eq v (q j))

-- once all of the queue is forgotten, nothing is reached
pub none_left : (was is : ℕ → Bool) (q : ℕ → ℕ) (n : ℕ) → ((v : ℕ) → was v ≡ true → ∥ ((i : ℕ) × (i < n) × (q i ≡ v)) ∥₁) →
    ((v : ℕ) → is v ≡ true → was v ≡ true) → ((i : ℕ) → i < n → is (q i) ≡ false) → (v : ℕ) → is v ≡ false
none_left was is q n all less none v = false_from_ne_true (is v)
    (λ e. ∥∥₁_elim (all v (less v e)) (hlevel props) (λ at. both_ways (is v) (ap is (sym at.2) ∙ none at.0 at.1) e))
