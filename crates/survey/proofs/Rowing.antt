-- Rows, one more at the end.
use Rattle.std.proofs.Common.{◌≡◌, ℕ, ◌+◌, List, [], ◌∷◌, ◌++◌, length, get_or, sym, ap, ◌∙◌, subst, arith, length-append, below_more}
use Rattle.std.proofs.lemmas.List.{get_or_append_left, get_or-append-add}
use Rattle.survey.specs.Surveyed.{Rows}

pub rows_more : {X : Type 0} (P : ℕ → X → Type 0) (xs : List X) (n : ℕ) (x : X) → Rows P xs n → P n x → Rows P (xs ++ (x ∷ [])) (n + 1)
rows_more {X} P xs n x R p =
    let len : length xs ≡ n = R.0 in (
      length-append xs (x ∷ []) ∙ ap (λ m. m + 1) len,
      λ k d. below_more (λ k. P k (get_or (xs ++ (x ∷ [])) k d)) n
          (λ k h. subst (P k) (sym (get_or_append_left xs (x ∷ []) d k (omega arith))) (R.1 k d h))
          (subst (P n) (sym (last d)) p) k,
    )
  where
    last : (d : X) → get_or (xs ++ (x ∷ [])) n d ≡ x
    last d = ap (λ m. get_or (xs ++ (x ∷ [])) m d) (sym R.0 ∙ omega arith) ∙ get_or-append-add xs (x ∷ []) 0 d
