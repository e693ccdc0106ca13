-- The number of words as a sum over the places.
use Rattle.std.proofs.Common.{◌≡◌, ℕ, suc, ◌+◌, ◌*◌, ◌<◌, ◌≤◌, cond, eqb, List, [], ◌∷◌, ◌++◌, reverse, length, sym, refl, ap, ◌∙◌, subst, inl, inr, ⊎_elim, add-mul, mul-le-mul, one-mul, zero-mul, arith}
use Rattle.std.proofs.lemmas.List.{length-append, length-reverse}
use Rattle.std.proofs.lemmas.Bool.{cases_lt, cond-true, cond-false, cond_both}
use Rattle.delay.specs.Kind.{Kind}
use Rattle.wiring.specs.declared.Lead.{Lead}
use Rattle.wiring.specs.Net.{Net, Holds, Sound}
use Rattle.wiring.specs.Paths.{On}
use Rattle.wiring.specs.Lengths.{Marks}
use Rattle.wiring.specs.Loads.{is_start_lead, sum_below}
use Rattle.wiring.specs.Lists.{count_on, lowered, tail_at, head_node, Walk, onwards, backwards, forwards, Drawn, Draws, words}
use Rattle.wiring.proofs.Ends.{below_places}
use Rattle.wiring.proofs.Types.{lead_at}
use Rattle.flow.specs.Trails.{put}
use Rattle.flow.proofs.Sums.{sum_cong, sum_add, sum_none, sum_one, unit_at, unit_off}
use Rattle.flow.proofs.Seek.{put_at, put_off}
use Rattle.drawing.proofs.Walks.{walk_one}
use Rattle.drawing.proofs.Parts.{first_parts, goes_parts}
use Rattle.drawing.proofs.Left.{next_link, core_leads, core_fits}
use Rattle.listing.specs.Costs.{Cost, WordsNumber}

-- what the entries of a list weigh
abbrev weigh : (ℕ → ℕ) → List ℕ → ℕ
weigh c [] = 0
weigh c (k ∷ ks) = c k + weigh c ks

sum_weigh : (n : ℕ) (c : ℕ → ℕ) (core : List ℕ) → ((j : ℕ) → On j core → j < n) → sum_below n (λ k. count_on k core * c k) ≡ weigh c core
sum_weigh n c [] h = sum_none n (λ k. 0 * c k) (λ k l. zero-mul (c k))
sum_weigh n c (j ∷ js) h =
    let split = sum_cong n (λ k. (cond (eqb k j) 1 0 + count_on k js) * c k) (λ k. cond (eqb k j) 1 0 * c k + count_on k js * c k)
    (λ k l. add-mul (cond (eqb k j) 1 0) (count_on k js) (c k)) in
    let add = sum_add n (λ k. cond (eqb k j) 1 0 * c k) (λ k. count_on k js * c k) in
    let one = sum_one n j (λ k. cond (eqb k j) 1 0 * c k) (h j (inl refl)) (λ k l d. ap (λ (x : ℕ). x * c k) (unit_off k j d) ∙ zero-mul (c k)) in
    let here = ap (λ (x : ℕ). x * c j) (unit_at j j refl) ∙ one-mul (c j) in
    omega (arith, split, add, one, here, sum_weigh n c js (λ i o. h i (inr o)))

-- what is left weighs less by what the core weighs
lowered_weight : (n : ℕ) (c left : ℕ → ℕ) (core : List ℕ) → ((j : ℕ) → On j core → j < n) → ((k : ℕ) → count_on k core ≤ left k) →
    sum_below n (λ k. left k * c k) ≡ sum_below n (λ k. lowered left core k * c k) + weigh c core
lowered_weight n c left core h le =
    let split = sum_cong n (λ k. left k * c k) (λ k. lowered left core k * c k + count_on k core * c k)
    (λ k l. let e : left k ≡ lowered left core k + count_on k core = omega (arith, le k) in
    ap (λ (x : ℕ). x * c k) e ∙ add-mul (lowered left core k) (count_on k core) (c k)) in
    omega (arith, split, sum_add n (λ k. lowered left core k * c k) (λ k. count_on k core * c k), sum_weigh n c core h)

module _ {D : Type 0} {K : Kind D} {N : Net D} (S : Sound K N) (m : Marks) (c : ℕ → ℕ) (C : (k : ℕ) → k < N.places → Cost N m k (c k)) where
  abbrev at : (k : ℕ) (l : Lead D) → Holds N k l → Cost N m k (c k)
  at k l h = C k (below_places N k l h)

  -- no lead behind the start lead is a start lead, and only the last is an end lead
  rest_weight : (left : ℕ → ℕ) (k : ℕ) (l : Lead D) (h : Holds N k l) (js : List ℕ) (stop : ℕ) → Walk (onwards N m left) k js stop →
      (fs : List ℕ) (u : ℕ) → Walk (forwards N m) (head_node N stop) fs u → weigh c js + (at k l h).after ≡ length js + length fs
  rest_weight left k l h [] stop w fs u a =
      let e = (at k l h).fore.further w.0 in
      let same = walk_one (forwards N m) (head_node N k) e.leads fs e.walk (subst (λ (x : ℕ). Walk (forwards N m) (head_node N x) fs u) (sym w.1) a) in
      omega (arith, e.number, ap length same.0)
  rest_weight left k l h (j ∷ js) stop w fs u a =
      let o = (goes_parts N m left (head_node N k) j w.1).0 in
      let no_start = (next_link N m k l h w.0 j o).0 in
      let here = at j o.lead o.holds in
      omega (
        arith,
        rest_weight left j o.lead o.holds js stop w.2 fs u a,
        (at k l h).fore.no_further w.0,
        here.sums,
        here.back.no_further no_start,
        cond-false {A = ℕ} (is_start_lead N m j) 2 1 no_start,
      )

  drawn_weight : (left : ℕ → ℕ) (core p : List ℕ) → Drawn N m left core p →
      sum_below N.places (λ k. left k * c k) ≡ sum_below N.places (λ k. lowered left core k * c k) + (1 + length p)
  drawn_weight left core p R =
      let k = R.start in let F = first_parts N m left k R.lowest in
      let inside : (j : ℕ) → On j (k ∷ R.rest) → j < N.places = λ j o.
      let l = lead_at N j (core_leads S m left k F.lead F.holds F.some R.rest R.stop R.onward j o).0 in below_places N j l.0 l.1 in
      let w = lowered_weight N.places c left (k ∷ R.rest) inside (core_fits S m left F R.rest R.stop R.onward) in
      let here = at k F.lead F.holds in let b = here.back.further F.starts in
      let part : weigh c (k ∷ R.rest) ≡ 1 + length p = omega (
        arith,
        rest_weight left k F.lead F.holds R.rest R.stop R.onward R.ahead R.output R.fore,
        here.sums,
        cond-true {A = ℕ} (is_start_lead N m k) 2 1 F.starts,
        b.number,
        ap length (walk_one (backwards N m) (tail_at N k) b.leads R.behind b.walk R.back).0,
        ap length R.path_is,
        length-append (reverse R.behind) (core ++ R.ahead),
        length-append core R.ahead,
        length-reverse R.behind,
        ap length R.core_is,
      ) in
      subst (λ (x : List ℕ). sum_below N.places (λ k. left k * c k) ≡ sum_below N.places (λ k. lowered left x k * c k) + (1 + length p))
      (sym R.core_is) (w ∙ ap (λ (x : ℕ). sum_below N.places (λ i. lowered left (k ∷ R.rest) i * c i) + x) part)

  -- the number of words
  words_weight : (left : ℕ → ℕ) (ps : List (List ℕ)) → Draws N m left ps → length (words ps) ≡ sum_below N.places (λ k. left k * c k)
  words_weight left [] d = sym (sum_none N.places (λ k. left k * c k) (λ k l. ap (λ (x : ℕ). x * c k) (d k) ∙ zero-mul (c k)))
  words_weight left (p ∷ ps) d =
      omega (arith, words_weight (lowered left d.0) ps d.2, drawn_weight left d.0 p d.1, length-append p (words ps))

-- one more term of a sum
sum_next : (n : ℕ) (f : ℕ → ℕ) (total x : ℕ) → total ≡ sum_below n f → x ≡ f n → total + x ≡ sum_below (n + 1) f
sum_next n f total x e i = let s : suc n ≡ n + 1 = omega arith in subst (λ (j : ℕ). total + x ≡ sum_below j f) s (omega arith)

module _ {D : Type 0} (N : Net D) (m : Marks) where
  cost_small : (k c : ℕ) → Cost N m k c → c ≤ 8194
  cost_small k c C =
      let own : cond {A = ℕ} (is_start_lead N m k) 2 1 ≤ 2 = cond_both {A = ℕ} (is_start_lead N m k) 2 1 (λ (x : ℕ). x ≤ 2) (λ e. omega arith) (λ e. omega arith) in
      omega (arith, C.sums, C.back.small, C.fore.small)

  -- a sum under way: the words of the loads below n
  pub record Summed (left : ℕ → ℕ) (n words : ℕ) : Type 0 where
    pub costs : ℕ → ℕ
    pub each : (k : ℕ) → k < n → Cost N m k (costs k)
    pub words_are : words ≡ sum_below n (λ k. left k * costs k)
    pub small : words ≤ n * 536993790

  pub summed_none : (left : ℕ → ℕ) → Summed left 0 0
  summed_none left = record { costs = λ k. 0; each = λ k h. absurd (omega arith); words_are = refl; small = omega arith }

  pub summed_more : (left : ℕ → ℕ) (n words c : ℕ) → left n < 65536 → Cost N m n c → Summed left n words → Summed left (n + 1) (words + left n * c)
  summed_more left n words c h C W = record { costs = costs; each = each; words_are = whole; small = small }
    where
      costs : ℕ → ℕ
      costs = put W.costs n c

      each : (k : ℕ) → k < n + 1 → Cost N m k (put W.costs n c k)
      each k l = ⊎_elim
          (λ i. subst (Cost N m k) (sym (put_off W.costs n c k (λ e. omega arith))) (W.each k i))
          (λ i. let e : n ≡ k = omega arith in subst (Cost N m k) (sym (put_at W.costs n c k e)) (subst (λ (x : ℕ). Cost N m x c) e C))
          (cases_lt k n)

      whole : words + left n * c ≡ sum_below (n + 1) (λ k. left k * put W.costs n c k)
      whole = sum_next n (λ k. left k * put W.costs n c k) words (left n * c)
          (W.words_are ∙ sum_cong n (λ k. left k * W.costs k) (λ k. left k * put W.costs n c k)
          (λ k l. ap (λ (x : ℕ). left k * x) (sym (put_off W.costs n c k (λ e. omega arith)))))
          (ap (λ (x : ℕ). left n * x) (sym (put_at W.costs n c n refl)))

      small : words + left n * c ≤ (n + 1) * 536993790
      small =
          let i : left n ≤ 65535 = omega arith in
          let b : left n * c ≤ 65535 * 8194 = mul-le-mul {n₂ = 65535} {m₂ = 8194} i (cost_small n c C) in
          omega (arith, W.small)

  pub summed_all : {K : Kind D} → Sound K N → (left : ℕ → ℕ) (n total : ℕ) → n ≡ N.places → Summed left n total → WordsNumber N m left total
  summed_all S left n total e W ps d =
      words_weight S m W.costs (λ k h. W.each k (omega arith)) left ps d ∙ ap (λ (j : ℕ). sum_below j (λ k. left k * W.costs k)) (sym e)
      ∙ sym W.words_are
