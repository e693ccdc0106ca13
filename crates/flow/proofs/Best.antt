-- Least total by a cut, the least load of each arc by a cut, and that best loads are the only ones.
use Rattle.std.proofs.Common.{◌≡◌, ℕ, zero, suc, ◌+◌, ◌<◌, ◌≤◌, Bool, true, false, cond, not, ◌&&◌, ◌⊎◌, sym, refl, ap, ◌∙◌, subst, ⊎_elim, arith}
use mathlib.Core.Path.{fun_ext}
use Rattle.std.proofs.lemmas.Bool.{cases_order, cases_lt}
use Rattle.wiring.specs.Loads.{sum_below, Before, BestOf}
use Rattle.flow.specs.Table.{Table, Sound, leaving, entering}
use Rattle.flow.specs.Loads.{total, Balanced, Loads, enter, Best, Tight, Settled}
use Rattle.flow.proofs.Sums.{sum_cong, sum_add, sum_le, sum_lt, sum_none}
use Rattle.flow.proofs.Cuts.{cut, arc_inside, leaving_term, not_leaving_term, not_entering_term}

-- with the sink inside, the source outside and nothing that leaves, the total is what enters
total_enters : (T : Table) → Sound T → (f : ℕ → ℕ) → Balanced T f → (R : ℕ → Bool) → R T.sink ≡ true → R T.source ≡ false →
    ((k : ℕ) → T.arc k ≡ true → R (T.begin k) ≡ true → R (T.end k) ≡ true) → total T f ≡ enter T f R
total_enters T S f B R i o n =
    let identity = cut T S f B R in
    let none = sum_none T.places (λ j. cond (leaving T R j) (f j) 0) (λ j l. not_leaving_term T R j (f j) (n j)) in
    let within = ap (λ (b : Bool). cond b (total T f) 0) i in
    let without = ap (λ (b : Bool). cond b (total T f) 0) o in
    omega arith

-- a tight cut counts the total
pub tight_count : (T : Table) → Sound T → (f : ℕ → ℕ) → Balanced T f → (R : ℕ → Bool) → Tight T f R → total T f ≡ enter T (λ k. 1) R
tight_count T S f B R C =
    total_enters T S f B R C.sink_in C.source_out C.none_leaves
    ∙ sum_cong T.places (λ j. cond (entering T R j) (f j) 0) (λ j. cond (entering T R j) 1 0)
    (λ j l. go j (T.arc j) (R (T.begin j)) (R (T.end j)) refl refl refl)
  where
    go : (j : ℕ) (p q r : Bool) → T.arc j ≡ p → R (T.begin j) ≡ q → R (T.end j) ≡ r → cond (p && (not q && r)) (f j) 0 ≡ cond (p && (not q && r)) 1 0
    go j true true r a b c = refl
    go j true false true a b c = C.one_enters j a b c
    go j true false false a b c = refl
    go j false q r a b c = refl

-- what is at least 1 at each arc is at least the number of arcs that enter
enter_least : (T : Table) (g : ℕ → ℕ) → ((k : ℕ) → T.arc k ≡ true → 1 ≤ g k) → (R : ℕ → Bool) → enter T (λ k. 1) R ≤ enter T g R
enter_least T g h R = sum_le T.places (λ j. cond (entering T R j) 1 0) (λ j. cond (entering T R j) (g j) 0)
    (λ j l. go (T.arc j) (R (T.begin j)) (R (T.end j)) (g j) (h j))
  where
    go : (p q r : Bool) (x : ℕ) → (p ≡ true → 1 ≤ x) → cond (p && (not q && r)) 1 0 ≤ cond (p && (not q && r)) x 0
    go true true r x h = omega arith
    go true false true x h = h refl
    go true false false x h = omega arith
    go false q r x h = omega arith

-- a tight cut shows that the total is least
pub tight_least : (T : Table) → Sound T → (f : ℕ → ℕ) → Balanced T f → (R : ℕ → Bool) → Tight T f R → (g : ℕ → ℕ) → Loads T g → total T f ≤ total T g
tight_least T S f B R C g L =
    let mine = tight_count T S f B R C in
    let yours = total_enters T S g L.balanced R C.sink_in C.source_out C.none_leaves in
    let more = enter_least T g L.arcs R in
    omega arith

-- loads that agree with f below k, with the same total, have no less at k
pub settled_least : (T : Table) → Sound T → (f : ℕ → ℕ) → Balanced T f → (k : ℕ) → T.arc k ≡ true → (R : ℕ → Bool) → Settled T f k R →
    (g : ℕ → ℕ) → Loads T g → total T g ≡ total T f → ((j : ℕ) → j < k → g j ≡ f j) → f k ≤ g k
settled_least T S f B k a R C g L same below = ⊎_elim (λ l. absurd (refuted l)) (λ h. h) (cases_lt (g k) (f k))
  where
    give : ℕ → ℕ
    give j = cond (leaving T R j) (g j) 0 + cond (entering T R j) (f j) 0

    take : ℕ → ℕ
    take j = cond (leaving T R j) (f j) 0 + cond (entering T R j) (g j) 0

    sums : sum_below T.places give ≡ sum_below T.places take
    sums =
        let one = cut T S f B R in
        let two = cut T S g L.balanced R in
        let left = sum_add T.places (λ j. cond (leaving T R j) (g j) 0) (λ j. cond (entering T R j) (f j) 0) in
        let right = sum_add T.places (λ j. cond (leaving T R j) (f j) 0) (λ j. cond (entering T R j) (g j) 0) in
        let at_sink = ap (λ (x : ℕ). cond (R T.sink) x 0) same in
        let at_source = ap (λ (x : ℕ). cond (R T.source) x 0) same in
        omega arith

    here : (g k < f k) → give k < take k
    here l =
        let goes = leaving_term T R k (g k) a C.begin_in C.end_out in
        let went = leaving_term T R k (f k) a C.begin_in C.end_out in
        let comes = not_entering_term T R k (f k) (λ b e. C.begin_in) in
        let came = not_entering_term T R k (g k) (λ b e. C.begin_in) in
        omega arith

    above : (j : ℕ) → k < j → give j ≤ take j
    above j l =
        let goes = not_leaving_term T R j (g j) (C.none_leaves j l) in
        let went = not_leaving_term T R j (f j) (C.none_leaves j l) in
        let entries = go (T.arc j) (R (T.begin j)) (R (T.end j)) refl refl refl in
        omega arith
      where
        go : (p q r : Bool) → T.arc j ≡ p → R (T.begin j) ≡ q → R (T.end j) ≡ r → cond (p && (not q && r)) (f j) 0 ≤ cond (p && (not q && r)) (g j) 0
        go true true r x y z = omega arith
        go true false true x y z = omega (arith, C.one_enters j l x y z, L.arcs j x)
        go true false false x y z = omega arith
        go false q r x y z = omega arith

    under : (j : ℕ) → j < k → give j ≤ take j
    under j l =
        let goes = ap (λ (x : ℕ). cond (leaving T R j) x 0) (below j l) in
        let comes = ap (λ (x : ℕ). cond (entering T R j) x 0) (below j l) in
        omega arith

    refuted : g k < f k → ⊥
    refuted l =
        let strict = sum_lt T.places k give take (arc_inside T S k a) (λ j m. ⊎_elim (at j) (⊎_elim (under j) (above j)) (cases_order j k)) (here l) in
        omega (arith, sums)
      where
        at : (j : ℕ) → j ≡ k → give j ≤ take j
        at j e = let one = ap give e in let two = ap take e in let three = here l in omega arith

-- cuts for the total and for each arc make loads best
pub best_by_cuts : (T : Table) → Sound T → (f : ℕ → ℕ) → Loads T f → (R : ℕ → Bool) → Tight T f R →
    ((k : ℕ) → T.arc k ≡ true → (f k ≡ 1) ⊎ ((Q : ℕ → Bool) × Settled T f k Q)) → Best T f
best_by_cuts T S f L R C each =
    record { loads = L; least = λ g M. tight_least T S f L.balanced R C g M; first = λ g M same b. no g M same b (T.arc b.at) refl }
  where
    no : (g : ℕ → ℕ) → Loads T g → total T g ≡ total T f → (b : Before g f) → (p : Bool) → T.arc b.at ≡ p → ⊥
    no g M same b true a =
        ⊎_elim (λ e. omega (arith, M.arcs b.at a, b.smaller))
        (λ q. omega (arith, settled_least T S f L.balanced b.at a q.0 q.1 g M same b.same, b.smaller))
        (each b.at a)
    no g M same b false a = omega (arith, L.vacant b.at a, b.smaller)

-- best loads are the only ones, of a table or of a wiring
pub best_one : {L : (ℕ → ℕ) → Type 0} {t : (ℕ → ℕ) → ℕ} {f g : ℕ → ℕ} → BestOf L t f → BestOf L t g → f ≡ g
best_one {t = t} {f = f} {g = g} F G = fun_ext (λ k. upto (suc k) k (omega arith))
  where
    same_total : t f ≡ t g
    same_total = omega (arith, F.least g G.loads, G.least f F.loads)

    step : (n : ℕ) → ((j : ℕ) → j < n → f j ≡ g j) → f n ≡ g n
    step n h = ⊎_elim (λ e. e) (⊎_elim
        (λ l. absurd (G.first f F.loads same_total (record { at = n; smaller = l; same = h })))
        (λ l. absurd (F.first g G.loads (sym same_total) (record { at = n; smaller = l; same = λ j m. sym (h j m) })))) (cases_order (f n) (g n))

    upto : (n j : ℕ) → j < n → f j ≡ g j
    upto zero j l = omega arith
    upto (suc n) j l = ⊎_elim (λ m. upto n j m) (λ m. subst (λ (x : ℕ). f x ≡ g x) (omega arith) (step n (upto n))) (cases_lt j n)
