-- What is left while the leads of a core are lowered one after another.
use Rattle.std.proofs.Common.{◌≡◌, ℕ, ◌+◌, ◌-◌, ◌<◌, ◌≤◌, cond, eqb, List, [], ◌∷◌, length, get_or, take, drop, set, ap, ⊎_elim, arith}
use mathlib.Core.Path.{fun_ext}
use Rattle.std.proofs.lemmas.Bool.{cases_eq, cases_lt}
use Rattle.std.proofs.lemmas.List.{get_or-set_same, get_or-set_other, get_or_past, take_more, take-append-drop}
use Rattle.wiring.specs.Lists.{count_on, lowered}
use Rattle.wiring.proofs.Runs.{count_append}
use Rattle.flow.proofs.Sums.{unit_at, unit_off}
use Rattle.marks.specs.Marks.{load_of}

-- of the words up to i, the last counts once more
module _ (core : List ℕ) (i : ℕ) (l : i < length core) where
  count_next : (k : ℕ) → count_on k (take (i + 1) core) ≡ count_on k (take i core) + cond (eqb k (get_or core i 0)) 1 0
  count_next k = omega (arith, ap (count_on k) (take_more core i 0 l), count_append k (take i core) (get_or core i 0 ∷ []))

  count_whole : (k : ℕ) → count_on k (take (i + 1) core) ≤ count_on k core
  count_whole k = omega (arith, ap (count_on k) (take-append-drop (i + 1) core), count_append k (take (i + 1) core) (drop (i + 1) core))

  module _ (f : ℕ → ℕ) (xs : List ℕ) (fits : (k : ℕ) → count_on k core ≤ f k) (is : load_of xs ≡ lowered f (take i core)) where
    -- something is left there
    pub lower_some : 1 ≤ load_of xs (get_or core i 0)
    lower_some = let p = get_or core i 0 in
        omega (arith, ap (λ (h : ℕ → ℕ). h p) is, fits p, count_whole p, count_next p, unit_at p p (λ j. p))

    pub lower_within : get_or core i 0 < length xs
    lower_within = let p = get_or core i 0 in
        ⊎_elim (λ h. h) (λ h. absurd (omega (arith, lower_some, get_or_past xs p 0 h))) (cases_lt p (length xs))

    pub lower_step : load_of (set xs (get_or core i 0) (get_or xs (get_or core i 0) 0 - 1)) ≡ lowered f (take (i + 1) core)
    lower_step = fun_ext (λ k.
        let p = get_or core i 0 in let was = ap (λ (h : ℕ → ℕ). h k) is in
        ⊎_elim
        (λ e. let here = ap (λ (x : ℕ). get_or (set xs p (get_or xs p 0 - 1)) x 0) e in let old = ap (λ (x : ℕ). get_or xs x 0) e in
        omega (arith, get_or-set_same xs p (get_or xs p 0 - 1) 0 lower_within, count_next k, unit_at k p e))
        (λ n. omega (arith, get_or-set_other xs p k (get_or xs p 0 - 1) 0 n, count_next k, unit_off k p n))
        (cases_eq k p))
