-- The numbers below a bound at which a test holds: how many they are, and that they ascend.
use Rattle.std.proofs.Common.{◌≡◌, ℕ, zero, suc, ◌+◌, ◌<◌, Bool, true, false, cond, List, [], ◌∷◌, ◌++◌, length, get_or, sym, refl, subst, ⊎_elim, arith, length-append}
use Rattle.std.proofs.lemmas.List.{get_or_append_left, get_or_push}
use Rattle.std.proofs.lemmas.Bool.{cases_lt}
use Rattle.wiring.specs.Loads.{sum_where}
use Rattle.cover.specs.Arcs.{listed}

pub listed_length : (P : ℕ → Bool) (n : ℕ) → length (listed P n) ≡ sum_where n P (λ k. 1)
listed_length P zero = refl
listed_length P (suc n) = go (P n) (listed_length P n)
  where
    go : (b : Bool) → length (listed P n) ≡ sum_where n P (λ k. 1) → length (cond b (listed P n ++ (n ∷ [])) (listed P n)) ≡ sum_where n P (λ k. 1) + cond b 1 0
    go true e = omega (arith, length-append (listed P n) (n ∷ []))
    go false e = omega arith

-- each number listed passes, and lies below n
pub listed_each : (P : ℕ → Bool) (n i : ℕ) → i < length (listed P n) → (P (get_or (listed P n) i 0) ≡ true) × (get_or (listed P n) i 0 < n)
listed_each P zero i h = absurd (omega arith)
listed_each P (suc n) i h = go (P n) refl h (listed_each P n i)
  where
    w : List ℕ
    w = listed P n

    go : (b : Bool) → P n ≡ b → i < length (cond b (w ++ (n ∷ [])) w) → (i < length w → (P (get_or w i 0) ≡ true) × (get_or w i 0 < n)) →
        (P (get_or (cond b (w ++ (n ∷ [])) w) i 0) ≡ true) × (get_or (cond b (w ++ (n ∷ [])) w) i 0 < suc n)
    go true q l rest = ⊎_elim
        (λ s. let e = get_or_append_left w (n ∷ []) 0 i s in let r = rest s in (subst (λ (x : ℕ). P x ≡ true) (sym e) r.0, omega arith))
        (λ s. let e = get_or_push w n 0 i (omega (arith, length-append w (n ∷ []))) in (subst (λ (x : ℕ). P x ≡ true) (sym e) q, omega arith))
        (cases_lt i (length w))
    go false q l rest = let r = rest l in (r.0, omega arith)

-- they ascend
pub listed_up : (P : ℕ → Bool) (n i j : ℕ) → i < j → j < length (listed P n) → get_or (listed P n) i 0 < get_or (listed P n) j 0
listed_up P zero i j l h = absurd (omega arith)
listed_up P (suc n) i j l h = go (P n) h (listed_up P n i j l)
  where
    w : List ℕ
    w = listed P n

    go : (b : Bool) → j < length (cond b (w ++ (n ∷ [])) w) → (j < length w → get_or w i 0 < get_or w j 0) →
        get_or (cond b (w ++ (n ∷ [])) w) i 0 < get_or (cond b (w ++ (n ∷ [])) w) j 0
    go true m rest =
        let len = length-append w (n ∷ []) in
        ⊎_elim
        (λ s. omega (arith, get_or_append_left w (n ∷ []) 0 i (omega arith), get_or_append_left w (n ∷ []) 0 j s, rest s))
        (λ s. omega (arith, get_or_append_left w (n ∷ []) 0 i (omega arith), get_or_push w n 0 j (omega arith), listed_each P n i (omega arith)))
        (cases_lt j (length w))
    go false m rest = rest m
