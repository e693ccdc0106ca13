-- What a search that ends shows, and the invariant of the loads in order.
use Rattle.std.proofs.Common.{◌≡◌, ℕ, suc, ◌<◌, ◌≤◌, Bool, true, false, ap, ◌∙◌, subst, ⊎_elim, arith}
use Rattle.std.proofs.lemmas.Bool.{cases_lt, both_ways}
use Rattle.flow.specs.Table.{Table, Sound}
use Rattle.flow.specs.Loads.{total, Loads, Best, Tight, Settled, FirstTo, Least}
use Rattle.flow.specs.Trails.{Shut}
use Rattle.flow.proofs.Best.{settled_least}

-- an arc that enters a shut set has load 1
shut_one : (T : Table) (f : ℕ → ℕ) (k : ℕ) (R : ℕ → Bool) → Shut T f k R → ((j : ℕ) → T.arc j ≡ true → 1 ≤ f j) →
    (j : ℕ) → k ≤ j → T.arc j ≡ true → R (T.begin j) ≡ false → R (T.end j) ≡ true → f j ≡ 1
shut_one T f k R C h j l a b e = ⊎_elim (λ m. omega (arith, h j a)) (λ m. absurd (both_ways (R (T.begin j)) b (C.against j l a e m))) (cases_lt (f j) 2)

-- the search from the sink did not reach the source
pub shut_tight : (T : Table) (f : ℕ → ℕ) (R : ℕ → Bool) → Loads T f → Shut T f 0 R → R T.sink ≡ true → R T.source ≡ false → Tight T f R
shut_tight T f R L C i o =
    record {
      sink_in = i;
      source_out = o;
      none_leaves = λ k a b. C.along k (omega arith) a b;
      one_enters = λ k a b e. shut_one T f 0 R C L.arcs k (omega arith) a b e;
    }

-- the search from the begin of k, over the places above k, did not reach its end
pub shut_settled : (T : Table) (f : ℕ → ℕ) (k : ℕ) (R : ℕ → Bool) → Loads T f → Shut T f (suc k) R → R (T.begin k) ≡ true → R (T.end k) ≡ false →
    Settled T f k R
shut_settled T f k R L C i o =
    record { begin_in = i; end_out = o; none_leaves = λ j l a b. C.along j l a b; one_enters = λ j l a b e. shut_one T f (suc k) R C L.arcs j l a b e }

-- the loads in order: none yet
pub first_none : (T : Table) (f : ℕ → ℕ) → FirstTo T f 0
first_none T f g M same b l = omega arith

-- at a place with a settled arc, with load 1, or vacant, one more
first_more : (T : Table) (f : ℕ → ℕ) (k : ℕ) → FirstTo T f k →
    ((g : ℕ → ℕ) → Loads T g → total T g ≡ total T f → ((j : ℕ) → j < k → g j ≡ f j) → f k ≤ g k) → FirstTo T f (suc k)
first_more T f k F h g M same b l = ⊎_elim (λ m. F g M same b m) (λ m. here (omega arith)) (cases_lt b.at k)
  where
    here : b.at ≡ k → ⊥
    here e =
        let under = h g M same (λ j m. b.same j (omega arith)) in
        let one = ap f e in
        let two = ap g e in
        omega (arith, b.smaller)

pub first_settled : (T : Table) → Sound T → (f : ℕ → ℕ) (k : ℕ) → Loads T f → T.arc k ≡ true → (R : ℕ → Bool) → Settled T f k R → FirstTo T f k →
    FirstTo T f (suc k)
first_settled T S f k L a R C F = first_more T f k F (λ g M same below. settled_least T S f L.balanced k a R C g M same below)

pub first_one : (T : Table) (f : ℕ → ℕ) (k : ℕ) → T.arc k ≡ true → f k ≡ 1 → FirstTo T f k → FirstTo T f (suc k)
first_one T f k a e F = first_more T f k F (λ g M same below. omega (arith, M.arcs k a))

pub first_vacant : (T : Table) (f : ℕ → ℕ) (k : ℕ) → f k ≡ 0 → FirstTo T f k → FirstTo T f (suc k)
first_vacant T f k e F = first_more T f k F (λ g M same below. omega arith)

-- loads that agree below k take it over
pub first_kept : (T : Table) (f g : ℕ → ℕ) (k : ℕ) → total T g ≡ total T f → ((j : ℕ) → j < k → g j ≡ f j) → FirstTo T f k → FirstTo T g k
first_kept T f g k same below F h M e b l =
    F h M (e ∙ same) (record {
      at = b.at;
      smaller = subst (λ (x : ℕ). h b.at < x) (below b.at l) b.smaller;
      same = λ j m. b.same j m ∙ below j (omega arith);
    }) l

pub least_kept : (T : Table) (f g : ℕ → ℕ) → total T g ≡ total T f → Least T f → Least T g
least_kept T f g e L h M = omega (arith, L h M)

-- over all places: best
pub first_all : (T : Table) → Sound T → (f : ℕ → ℕ) → Loads T f → Least T f → FirstTo T f T.places → Best T f
first_all T S f L least F =
    record {
      loads = L;
      least = least;
      first = λ g M same b. ⊎_elim (λ l. F g M same b l) (λ l. omega (arith, L.vacant b.at (S.past b.at l), b.smaller)) (cases_lt b.at T.places);
    }
