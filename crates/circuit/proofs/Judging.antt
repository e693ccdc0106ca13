-- Rules judged in order: either the first broken one decides, or all are kept.
use Rattle.std.proofs.Common.{◌≡◌, ℕ, ◌≤◌, ◌&&◌, leb, Decides, true, List, [], ◌∷◌, refl, ◌∙◌}
use Rattle.std.specs.List.{AllByRecursion}
use Rattle.std.proofs.lemmas.Bool.{cond-true, cond_both, leb-true, le-leb}
use Rattle.std.proofs.lemmas.Bool.Decides.{Decides-and, Decides-like, Decides-by_and}
use Rattle.std.proofs.lemmas.List.Elements.{All-from_recursion, recursion_from_All}
use Rattle.wiring.specs.declared.refusals.Refusal.{Refusal}
use Rattle.circuit.specs.Sheet.{PlainSheet}
use Rattle.circuit.specs.Calls.{Rule, Outcome, refused, judge, all_signs}

abbrev pub AllKept : List Rule → Type 0
AllKept rs = AllByRecursion (λ (r : Rule). r.kept ≡ true) rs

-- two numbers, each within its limit; and signs, each 0 or 1
pub both_at_most : (a b m n : ℕ) → Decides (leb a m && leb b n) ((a ≤ m) × (b ≤ n))
both_at_most a b m n = Decides-and (leb a m) (leb b n) (leb-true a m, le-leb a m) (leb-true b n, le-leb b n)

pub all_signs_decides : (xs : List ℕ) → Decides (all_signs xs) (AllByRecursion (λ x. x ≤ 1) xs)
all_signs_decides xs = Decides-like (all_signs xs) (recursion_from_All (λ x. x ≤ 1) xs) (All-from_recursion (λ x. x ≤ 1) xs)
    (Decides-by_and (λ x. leb x 1) (λ x. x ≤ 1) all_signs (λ x. (leb-true x 1, le-leb x 1)) refl (λ x xs. refl) xs)

-- what holds of every refusal that leaves s, and of o if all rules are kept, holds of the outcome
pub judge_either : (Q : Outcome → Type 0) (rs : List Rule) (s : PlainSheet) (o : Outcome) →
    ((r : Refusal) → Q (refused s r)) → (AllKept rs → Q o) → Q (judge rs s o)
judge_either Q [] s o f g = g tt
judge_either Q (r ∷ rs) s o f g =
    cond_both r.kept (judge rs s o) (refused s r.refusal) Q (λ e. judge_either Q rs s o f (λ k. g (e, k))) (λ _. f r.refusal)

pub judge_kept : (rs : List Rule) (s : PlainSheet) (o : Outcome) → AllKept rs → judge rs s o ≡ o
judge_kept [] s o h = refl
judge_kept (r ∷ rs) s o h = cond-true r.kept (judge rs s o) (refused s r.refusal) h.0 ∙ judge_kept rs s o h.1
