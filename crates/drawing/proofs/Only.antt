-- One list only: the types, the best loads and the drawing of a wiring have at most one result.
use Rattle.std.proofs.Common.{◌≡◌, ℕ, List, [], ◌∷◌, ◌++◌, reverse, sym, refl, ◌∙◌, subst, ap₂, arith}
use Rattle.delay.specs.Kind.{Kind}
use Rattle.wiring.specs.Net.{Net}
use Rattle.wiring.specs.Lengths.{Marks}
use Rattle.wiring.specs.Loads.{Best}
use Rattle.wiring.specs.Lists.{lowered, tail_at, head_node, Drawn, Draws, ListOf, Walk, onwards, backwards, forwards}
use Rattle.wiring.proofs.Types.{types_same}
use Rattle.flow.proofs.Best.{best_one}
use Rattle.flow.proofs.Exist.{lowest_one}
use Rattle.drawing.proofs.Walks.{walk_one}
use Rattle.drawing.proofs.Parts.{first_parts}

module _ {D : Type 0} (N : Net D) (m : Marks) where
  -- what is left draws one path only
  pub drawn_one : {left : ℕ → ℕ} {c d p q : List ℕ} → Drawn N m left c p → Drawn N m left d q → (c ≡ d) × (p ≡ q)
  drawn_one {left} {c} {d} {p} {q} A B =
      let e : A.start ≡ B.start = lowest_one A.lowest B.lowest in
      let r = walk_one (onwards N m left) B.start A.rest B.rest (subst (λ (x : ℕ). Walk (onwards N m left) x A.rest A.stop) e A.onward)
      B.onward in
      let b = (walk_one (backwards N m) (tail_at N B.start) A.behind B.behind
      (subst (λ (x : ℕ). Walk (backwards N m) (tail_at N x) A.behind A.input) e A.back) B.back).0 in
      let a = (walk_one (forwards N m) (head_node N B.stop) A.ahead B.ahead
      (subst (λ (x : ℕ). Walk (forwards N m) (head_node N x) A.ahead A.output) r.1 A.fore) B.fore).0 in
      let same : c ≡ d = A.core_is ∙ ap₂ ◌∷◌ e r.0 ∙ sym B.core_is in
      (same, A.path_is ∙ (λ i. reverse (b i) ++ (same i ++ a i)) ∙ sym B.path_is)

  -- while a path is drawn, something is left
  something : {left : ℕ → ℕ} {c p : List ℕ} → Drawn N m left c p → ((k : ℕ) → left k ≡ 0) → ⊥
  something {left} A none = omega (arith, (first_parts N m left A.start A.lowest).some, none A.start)

  pub draws_one : (left : ℕ → ℕ) (ps qs : List (List ℕ)) → Draws N m left ps → Draws N m left qs → ps ≡ qs
  draws_one left [] [] a b = refl
  draws_one left [] (q ∷ qs) a b = absurd (something b.1 a)
  draws_one left (p ∷ ps) [] a b = absurd (something a.1 b)
  draws_one left (p ∷ ps) (q ∷ qs) a b =
      let e = drawn_one a.1 b.1 in
      let rest = draws_one (lowered left b.0) ps qs (subst (λ (c : List ℕ). Draws N m (lowered left c) ps) e.0 a.2) b.2 in
      ap₂ ◌∷◌ e.1 rest

-- a wiring and a kind have one list only
pub list_one : {D : Type 0} {K : Kind D} {N : Net D} {ps qs : List (List ℕ)} → ListOf K N ps → ListOf K N qs → ps ≡ qs
list_one {D} {K} {N} {ps} {qs} A B =
    let e : A.marks ≡ B.marks = types_same A.types B.types in
    let f : A.loads ≡ B.loads = best_one (subst (λ (m : Marks). Best N m A.loads) e A.best) B.best in
    draws_one N B.marks B.loads ps qs
    (subst (λ (g : ℕ → ℕ). Draws N B.marks g ps) f (subst (λ (m : Marks). Draws N m A.loads ps) e A.draws)) B.draws
