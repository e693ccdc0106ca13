-- The cut identity, and what follows from it.
use Rattle.std.proofs.Common.{◌≡◌, ℕ, suc, ◌+◌, ◌<◌, ◌≤◌, Bool, true, false, cond, not, ◌&&◌, eqb, leb, sym, refl, ap, ◌∙◌, ⊎_elim, arith}
use Rattle.std.proofs.lemmas.Bool.{ne_eqb, eqb-true, eqb-false, cases_lt, both_ways, false≢true, le-leb, lt-leb, leb-true, cond_both}
use Rattle.wiring.specs.Loads.{sum_where}
use Rattle.flow.specs.Table.{Table, Sound, leaving, entering}
use Rattle.flow.specs.Loads.{out_of, into, total, Balanced, leave, enter}
use Rattle.flow.proofs.Sums.{sum_level, sum_none, where_none, sum_gather, sum_point, sum_term}

-- a node at which no arc has its end e gets nothing there
pub none_at : (T : Table) (e : ℕ → ℕ) (v : ℕ) (f : ℕ → ℕ) → ((k : ℕ) → T.arc k ≡ true → e k ≡ v → ⊥) →
    sum_where T.places (λ k. T.arc k && eqb (e k) v) f ≡ 0
none_at T e v f h = where_none T.places (λ k. T.arc k && eqb (e k) v) f (λ k l. at k (T.arc k) refl)
  where
    at : (k : ℕ) (b : Bool) → T.arc k ≡ b → (b && eqb (e k) v) ≡ false
    at k true a = ne_eqb (e k) v (h k a)
    at k false a = refl

-- nothing ends at the source, and nothing begins at the sink
pub none_into_source : (T : Table) → Sound T → (f : ℕ → ℕ) → into T f T.source ≡ 0
none_into_source T S f = none_at T T.end T.source f S.from_source

none_out_of_sink : (T : Table) → Sound T → (f : ℕ → ℕ) → out_of T f T.sink ≡ 0
none_out_of_sink T S f = none_at T T.begin T.sink f S.to_sink

-- balance at every node, the source and the sink with what begins and ends there
node_level : (T : Table) → Sound T → (f : ℕ → ℕ) → Balanced T f → (v : ℕ) →
    into T f v + cond (eqb T.source v) (total T f) 0 ≡ out_of T f v + cond (eqb T.sink v) (into T f T.sink) 0
node_level T S f B v = go (eqb T.source v) (eqb T.sink v) refl refl
  where
    go : (a b : Bool) → eqb T.source v ≡ a → eqb T.sink v ≡ b → into T f v + cond a (total T f) 0 ≡ out_of T f v + cond b (into T f T.sink) 0
    go true true p q = absurd (S.apart (eqb-true T.source v p ∙ sym (eqb-true T.sink v q)))
    go true false p q =
        let here = ap (into T f) (eqb-true T.source v p) in
        let there = ap (out_of T f) (eqb-true T.source v p) in
        omega (arith, none_into_source T S f)
    go false true p q =
        let here = ap (into T f) (eqb-true T.sink v q) in
        let there = ap (out_of T f) (eqb-true T.sink v q) in
        omega (arith, none_out_of_sink T S f)
    go false false p q = omega (arith, B v (λ e. eqb-false T.source v p (sym e)) (λ e. eqb-false T.sink v q (sym e)))

-- the nodes that count: all ends of arcs, the source and the sink
abbrev bound : Table → ℕ
bound T = T.nodes + (suc T.source + suc T.sink)

-- summed over the nodes of R
sides : (T : Table) → Sound T → (f : ℕ → ℕ) → Balanced T f → (R : ℕ → Bool) →
    sum_where T.places (λ k. T.arc k && R (T.end k)) f + cond (R T.source) (total T f) 0
    ≡ sum_where T.places (λ k. T.arc k && R (T.begin k)) f + cond (R T.sink) (into T f T.sink) 0
sides T S f B R =
    let level = sum_level (bound T) (λ v. cond (R v) (into T f v) 0) (λ v. cond (R v && eqb T.source v) (total T f) 0) (λ v. cond (R v) (out_of T f v) 0)
    (λ v. cond (R v && eqb T.sink v) (into T f T.sink) 0)
    (λ v l. at (R v) (eqb T.source v) (eqb T.sink v) (into T f v) (out_of T f v) (total T f) (into T f T.sink) (node_level T S f B v)) in
    let ins = sum_gather (bound T) T.places T.arc T.end R f (λ k a. omega (arith, S.within k a)) in
    let outs = sum_gather (bound T) T.places T.arc T.begin R f (λ k a. omega (arith, S.within k a, S.up k a)) in
    let first = sum_point (bound T) T.source R (total T f) (omega arith) in
    let last = sum_point (bound T) T.sink R (into T f T.sink) (omega arith) in
    omega arith
  where
    at : (r a b : Bool) (i o t u : ℕ) → i + cond a t 0 ≡ o + cond b u 0 → cond r i 0 + cond (r && a) t 0 ≡ cond r o 0 + cond (r && b) u 0
    at true a b i o t u e = e
    at false a b i o t u e = refl

-- as much ends at the sink as begins at the source
total_at_sink : (T : Table) → Sound T → (f : ℕ → ℕ) → Balanced T f → total T f ≡ into T f T.sink
total_at_sink T S f B = let whole = sides T S f B (λ v. true) in omega arith

pub cut : (T : Table) → Sound T → (f : ℕ → ℕ) → Balanced T f → (R : ℕ → Bool) →
    leave T f R + cond (R T.sink) (total T f) 0 ≡ enter T f R + cond (R T.source) (total T f) 0
cut T S f B R =
    let both = sides T S f B R in
    let same = ap (λ (x : ℕ). cond (R T.sink) x 0) (total_at_sink T S f B) in
    let parts = sum_level T.places (λ k. cond (T.arc k && R (T.end k)) (f k) 0) (λ k. cond (leaving T R k) (f k) 0)
    (λ k. cond (T.arc k && R (T.begin k)) (f k) 0) (λ k. cond (entering T R k) (f k) 0)
    (λ k l. at (T.arc k) (R (T.begin k)) (R (T.end k)) (f k)) in
    omega arith
  where
    at : (a b e : Bool) (x : ℕ) → cond (a && e) x 0 + cond (a && (b && not e)) x 0 ≡ cond (a && b) x 0 + cond (a && (not b && e)) x 0
    at true true true x = refl
    at true true false x = omega arith
    at true false true x = omega arith
    at true false false x = refl
    at false b e x = refl

pub arc_inside : (T : Table) → Sound T → (k : ℕ) → T.arc k ≡ true → k < T.places
arc_inside T S k a = ⊎_elim (λ l. l) (λ g. absurd (both_ways (T.arc k) (S.past k g) a)) (cases_lt k T.places)

-- the term of an arc that leaves R, of one that does not, and of one that does not enter R
pub leaving_term : (T : Table) (R : ℕ → Bool) (k x : ℕ) → T.arc k ≡ true → R (T.begin k) ≡ true → R (T.end k) ≡ false → cond (leaving T R k) x 0 ≡ x
leaving_term T R k x a b e = rw (a, b, e)

pub not_leaving_term : (T : Table) (R : ℕ → Bool) (k x : ℕ) → (T.arc k ≡ true → R (T.begin k) ≡ true → R (T.end k) ≡ true) → cond (leaving T R k) x 0 ≡ 0
not_leaving_term T R k x h = go (T.arc k) (R (T.begin k)) (R (T.end k)) h
  where
    go : (p q r : Bool) → (p ≡ true → q ≡ true → r ≡ true) → cond (p && (q && not r)) x 0 ≡ 0
    go true true true h = refl
    go true true false h = absurd (false≢true (h refl refl))
    go true false r h = refl
    go false q r h = refl

pub not_entering_term : (T : Table) (R : ℕ → Bool) (k x : ℕ) → (T.arc k ≡ true → R (T.end k) ≡ true → R (T.begin k) ≡ true) → cond (entering T R k) x 0 ≡ 0
not_entering_term T R k x h = go (T.arc k) (R (T.begin k)) (R (T.end k)) h
  where
    go : (p q r : Bool) → (p ≡ true → r ≡ true → q ≡ true) → cond (p && (not q && r)) x 0 ≡ 0
    go true true r h = refl
    go true false true h = absurd (false≢true (h refl refl))
    go true false false h = refl
    go false q r h = refl

-- every load is at most the total
pub at_most_total : (T : Table) → Sound T → (f : ℕ → ℕ) → Balanced T f → (k : ℕ) → T.arc k ≡ true → f k ≤ total T f
at_most_total T S f B k a =
    let identity = cut T S f B R in
    let here = sum_term T.places k (λ j. cond (leaving T R j) (f j) 0) (arc_inside T S k a) in
    let leaves = leaving_term T R k (f k) a (le-leb (T.begin k) (T.begin k) (omega arith)) (lt-leb (T.end k) (T.begin k) (S.up k a)) in
    let none = sum_none T.places (λ j. cond (entering T R j) (f j) 0)
    (λ j l. not_entering_term T R j (f j) (λ b e. le-leb (T.begin j) (T.begin k) (omega (arith, S.up j b, leb-true (T.end j) (T.begin k) e)))) in
    let most : cond (R T.source) (total T f) 0 ≤ total T f = cond_both (R T.source) (total T f) 0 (λ x. x ≤ total T f) (λ e. omega arith) (λ e. omega arith) in
    omega arith
  where
    R : ℕ → Bool
    R v = leb v (T.begin k)
