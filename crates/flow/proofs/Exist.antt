-- Through every arc runs a chain from source to sink, and so there are loads.
use Rattle.std.proofs.Common.{◌≡◌, ℕ, zero, suc, ◌+◌, ◌<◌, ◌≤◌, Bool, true, false, cond, ◌⊎◌, List, [], ◌∷◌, sym, refl, ap, ◌∙◌, subst, inl, inr, ⊎_elim, arith}
use Rattle.std.proofs.lemmas.Bool.{cases_order, cases_eq, cases_lt, both_ways, eq-eqb}
use Rattle.wiring.specs.Lists.{count_on, Lowest}
use Rattle.flow.specs.Table.{Table, Sound, begins, ends, Joined}
use Rattle.flow.specs.Loads.{Balanced, Loads}
use Rattle.flow.specs.Chains.{Chain, steps_along, raised}
use Rattle.flow.proofs.Sums.{where_zero}
use Rattle.flow.proofs.Cuts.{arc_inside}
use Rattle.flow.proofs.Shifts.{vacant_not_counted}
use Rattle.flow.proofs.Chains.{chain_way, chain_count, raised_balanced}

-- if a test holds somewhere, it holds at a lowest number
pub scan : (P : ℕ → Bool) (n : ℕ) → ((j : ℕ) → j < n → P j ≡ false) ⊎ ((k : ℕ) × Lowest P k × (k < n))
scan P zero = inl (λ j l. absurd (omega arith))
scan P (suc n) = ⊎_elim (λ none. more none (P n) refl) (λ r. inr (r.0, r.1, omega (arith, r.2))) (scan P n)
  where
    more : ((j : ℕ) → j < n → P j ≡ false) → (b : Bool) → P n ≡ b → ((j : ℕ) → j < suc n → P j ≡ false) ⊎ ((k : ℕ) × Lowest P k × (k < suc n))
    more none true e = inr (n, record { holds = e; below = none }, omega arith)
    more none false e = inl (λ j l. ⊎_elim (λ m. none j m) (λ m. subst (λ (x : ℕ). P x ≡ false) (omega arith) e) (cases_lt j n))

pub lowest : (P : ℕ → Bool) (n : ℕ) → P n ≡ true → (k : ℕ) × Lowest P k × (k ≤ n)
lowest P n e = ⊎_elim (λ none. absurd (both_ways (P n) (none n (omega arith)) e)) (λ r. (r.0, r.1, omega (arith, r.2))) (scan P (suc n))

pub lowest_one : {P : ℕ → Bool} {j k : ℕ} → Lowest P j → Lowest P k → j ≡ k
lowest_one {P} {j} {k} a b = ⊎_elim
    (λ e. e)
    (⊎_elim (λ l. absurd (both_ways (P j) (b.below j l) a.holds)) (λ l. absurd (both_ways (P k) (a.below k l) b.holds)))
    (cases_order j k)

-- a chain from the source to the sink through each arc
onward : (T : Table) → Sound T → Joined T → (n k : ℕ) → T.nodes ≤ T.end k + n → T.arc k ≡ true → (c : List ℕ) × Chain T (T.end k) c T.sink
onward T S J zero k l a = absurd (omega (arith, S.within k a))
onward T S J (suc n) k l a = ⊎_elim (λ e. ([], e)) (λ d. further (J.ahead k a d) (onward T S J n)) (cases_eq (T.end k) T.sink)
  where
    further : (j : ℕ) × (T.arc j ≡ true) × (T.begin j ≡ T.end k) →
        ((j : ℕ) → T.nodes ≤ T.end j + n → T.arc j ≡ true → (c : List ℕ) × Chain T (T.end j) c T.sink) →
        (c : List ℕ) × Chain T (T.end k) c T.sink
    further s rest =
        let r = rest s.0 (omega (arith, S.up s.0 s.1, s.2)) s.1 in
        (s.0 ∷ r.0, (s.1, s.2, r.1))

backward : (T : Table) → Sound T → Joined T → (i : ℕ) (n k : ℕ) → T.begin k < n → T.arc k ≡ true → (c : List ℕ) → Chain T (T.end k) c T.sink →
    1 ≤ count_on i (k ∷ c) → (c : List ℕ) × Chain T T.source c T.sink × (1 ≤ count_on i c)
backward T S J i zero k l a c C o = absurd (omega arith)
backward T S J i (suc n) k l a c C o = ⊎_elim (λ e. (k ∷ c, (a, e, C), o)) (λ d. further (J.behind k a d) (backward T S J i n))
    (cases_eq (T.begin k) T.source)
  where
    further : (j : ℕ) × (T.arc j ≡ true) × (T.end j ≡ T.begin k) →
        ((j : ℕ) → T.begin j < n → T.arc j ≡ true → (b : List ℕ) → Chain T (T.end j) b T.sink → 1 ≤ count_on i (j ∷ b) → (b : List ℕ)
        × Chain T T.source b T.sink × (1 ≤ count_on i b)) →
        (b : List ℕ) × Chain T T.source b T.sink × (1 ≤ count_on i b)
    further s rest = rest s.0 (omega (arith, S.up s.0 s.1, s.2)) s.1 (k ∷ c) (a, sym s.2, C) (omega arith)

pub through : (T : Table) → Sound T → Joined T → (k : ℕ) → T.arc k ≡ true → (c : List ℕ) × Chain T T.source c T.sink × (1 ≤ count_on k c)
through T S J k a =
    let r = onward T S J T.nodes k (omega arith) a in
    let one = ap (λ (b : Bool). cond {A = ℕ} b 1 0) (eq-eqb k k refl) in
    backward T S J k (suc (T.begin k)) k (omega arith) a r.0 r.1 (omega arith)

-- the first loads: balanced, nothing at vacant places, and something at each arc below n
pub record Begun (T : Table) (f : ℕ → ℕ) (n : ℕ) : Type 0 where
  pub arcs : (k : ℕ) → k < n → T.arc k ≡ true → 1 ≤ f k
  pub vacant : (k : ℕ) → T.arc k ≡ false → f k ≡ 0
  pub balanced : Balanced T f

pub begun_none : (T : Table) → Begun T (λ k. 0) 0
begun_none T = record {
  arcs = λ k l a. absurd (omega arith);
  vacant = λ k a. refl;
  balanced = λ v a b. where_zero T.places (ends T v) ∙ sym (where_zero T.places (begins T v));
}

pub begun_kept : (T : Table) (f : ℕ → ℕ) (n : ℕ) → Begun T f n → (T.arc n ≡ true → 1 ≤ f n) → Begun T f (suc n)
begun_kept T f n B h = record {
  arcs = λ k l a. ⊎_elim (λ m. B.arcs k m a) (λ m. here k (omega arith) a) (cases_lt k n);
  vacant = B.vacant;
  balanced = B.balanced;
}
  where
    here : (k : ℕ) → k ≡ n → T.arc k ≡ true → 1 ≤ f k
    here k e a = subst (λ (x : ℕ). 1 ≤ f x) (sym e) (h (subst (λ (x : ℕ). T.arc x ≡ true) e a))

pub begun_raised : (T : Table) → Sound T → (f : ℕ → ℕ) (n : ℕ) → Begun T f n → (c : List ℕ) → Chain T T.source c T.sink → 1 ≤ count_on n c →
    Begun T (raised f c) (suc n)
begun_raised T S f n B c C o =
    begun_kept T (raised f c) n
    (record {
      arcs = λ k l a. omega (arith, B.arcs k l a);
      vacant = λ k a. omega (
        arith,
        B.vacant k a,
        chain_count c k,
        (vacant_not_counted T T.source T.sink (steps_along c) (chain_way T T.source T.sink c C) k a).0,
      );
      balanced = (raised_balanced T S c C f B.balanced).0;
    })
    (λ a. omega arith)

pub begun_all : (T : Table) → Sound T → (f : ℕ → ℕ) → Begun T f T.places → Loads T f
begun_all T S f B =
    record {
      arcs = λ k a. B.arcs k (arc_inside T S k a) a;
      vacant = B.vacant;
      balanced = B.balanced;
    }

pub loads_exist : (T : Table) → Sound T → Joined T → (f : ℕ → ℕ) × Loads T f
loads_exist T S J = let r = upto T.places in (r.0, begun_all T S r.0 r.1)
  where
    more : (n : ℕ) (f : ℕ → ℕ) → Begun T f n → (b : Bool) → T.arc n ≡ b → (f : ℕ → ℕ) × Begun T f (suc n)
    more n f B true a = let r = through T S J n a in (raised f r.0, begun_raised T S f n B r.0 r.1 r.2)
    more n f B false a = (f, begun_kept T f n B (λ b. absurd (both_ways (T.arc n) a b)))

    upto : (n : ℕ) → (f : ℕ → ℕ) × Begun T f n
    upto zero = ((λ k. 0), begun_none T)
    upto (suc n) = let r = upto n in more n r.0 r.1 (T.arc n) refl
