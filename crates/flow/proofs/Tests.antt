-- What the tests show.
use Rattle.std.proofs.Common.{◌≡◌, ℕ, ◌<◌, ◌≤◌, Bool, true, false, cond, not, ◌&&◌, ◌||◌, eqb, leb, ◌⊎◌, sym, ◌∙◌, inl, inr, ⊎_elim, arith}
use Rattle.std.proofs.lemmas.Bool.{cases_lt, eqb-true, leb-true, and_parts, or_cases, not-true}
use Rattle.wiring.specs.Net.{all_below}
use Rattle.wiring.proofs.Ends.{all_below_at}
use Rattle.flow.specs.Table.{Table, Sound}
use Rattle.flow.specs.Loads.{out_of, into, Loads, Best, Tight, Settled}
use Rattle.flow.specs.Tests.{loads_test, keeps, tight_test, settled_test, best_test}
use Rattle.flow.proofs.Cuts.{arc_inside, none_at}
use Rattle.flow.proofs.Best.{best_by_cuts}

-- at nodes past the last nothing begins or ends
past_nodes : (T : Table) → Sound T → (f : ℕ → ℕ) (v : ℕ) → T.nodes ≤ v → into T f v ≡ out_of T f v
past_nodes T S f v l =
    none_at T T.end v f (λ k a e. omega (arith, S.within k a))
    ∙ sym (none_at T T.begin v f (λ k a e. omega (arith, S.within k a, S.up k a)))

loads_by_test : (T : Table) → Sound T → (f : ℕ → ℕ) → ((k : ℕ) → T.places ≤ k → f k ≡ 0) → loads_test T f ≡ true → Loads T f
loads_by_test T S f past h =
    record {
      arcs = λ k a. some k a (at k (arc_inside T S k a));
      vacant = λ k a. ⊎_elim (λ l. none k a (at k l)) (λ l. past k l) (cases_lt k T.places);
      balanced = λ v a b. ⊎_elim (λ l. level v a b l) (λ l. past_nodes T S f v l) (cases_lt v T.nodes);
    }
  where
    load : ℕ → Bool
    load k = cond (T.arc k) (leb 1 (f k)) (eqb (f k) 0)

    even : ℕ → Bool
    even v = (eqb v T.source || eqb v T.sink) || eqb (into T f v) (out_of T f v)

    at : (k : ℕ) → k < T.places → load k ≡ true
    at = all_below_at T.places load (and_parts (all_below T.places load) (all_below T.nodes even) h).0

    some : (k : ℕ) → T.arc k ≡ true → load k ≡ true → 1 ≤ f k
    some k a t = leb-true 1 (f k) (rw a at t)

    none : (k : ℕ) → T.arc k ≡ false → load k ≡ true → f k ≡ 0
    none k a t = eqb-true (f k) 0 (rw a at t)

    level : (v : ℕ) → (v ≡ T.source → ⊥) → (v ≡ T.sink → ⊥) → v < T.nodes → into T f v ≡ out_of T f v
    level v a b l =
        ⊎_elim (λ e. ⊎_elim (λ x. absurd (a (eqb-true v T.source x))) (λ x. absurd (b (eqb-true v T.sink x)))
        (or_cases (eqb v T.source) (eqb v T.sink) e))
        (λ e. eqb-true (into T f v) (out_of T f v) e)
        (or_cases (eqb v T.source || eqb v T.sink) (eqb (into T f v) (out_of T f v))
        (all_below_at T.nodes even (and_parts (all_below T.places load) (all_below T.nodes even) h).1 v l))

-- the two facts of an arc that keeps R
keeps_in : (T : Table) (f : ℕ → ℕ) (R : ℕ → Bool) (k : ℕ) → keeps T f R k ≡ true → T.arc k ≡ true → R (T.begin k) ≡ true → R (T.end k) ≡ true
keeps_in T f R k h a b = rw (a, b) at h

keeps_one : (T : Table) (f : ℕ → ℕ) (R : ℕ → Bool) (k : ℕ) → keeps T f R k ≡ true → T.arc k ≡ true → R (T.begin k) ≡ false → R (T.end k) ≡ true → f k ≡ 1
keeps_one T f R k h a b c = eqb-true (f k) 1 (rw (a, b, c) at h)

tight_by_test : (T : Table) → Sound T → (f : ℕ → ℕ) (R : ℕ → Bool) → tight_test T f R ≡ true → Tight T f R
tight_by_test T S f R h =
    let parts = and_parts (R T.sink && not (R T.source)) (all_below T.places (keeps T f R)) h in
    let ends_are = and_parts (R T.sink) (not (R T.source)) parts.0 in
    record {
      sink_in = ends_are.0;
      source_out = not-true (R T.source) ends_are.1;
      none_leaves = λ k a b. keeps_in T f R k (all_below_at T.places (keeps T f R) parts.1 k (arc_inside T S k a)) a b;
      one_enters = λ k a b c. keeps_one T f R k (all_below_at T.places (keeps T f R) parts.1 k (arc_inside T S k a)) a b c;
    }

settled_by_test : (T : Table) → Sound T → (f : ℕ → ℕ) (k : ℕ) (R : ℕ → Bool) → settled_test T f k R ≡ true → Settled T f k R
settled_by_test T S f k R h =
    record {
      begin_in = (and_parts (R (T.begin k)) (not (R (T.end k))) parts.0).0;
      end_out = not-true (R (T.end k)) (and_parts (R (T.begin k)) (not (R (T.end k))) parts.0).1;
      none_leaves = λ j l a b. keeps_in T f R j (above j l a) a b;
      one_enters = λ j l a b c. keeps_one T f R j (above j l a) a b c;
    }
  where
    parts : ((R (T.begin k) && not (R (T.end k))) ≡ true) × (all_below T.places (λ j. leb j k || keeps T f R j) ≡ true)
    parts = and_parts (R (T.begin k) && not (R (T.end k))) (all_below T.places (λ j. leb j k || keeps T f R j)) h

    above : (j : ℕ) → k < j → T.arc j ≡ true → keeps T f R j ≡ true
    above j l a = ⊎_elim (λ e. absurd (omega (arith, leb-true j k e))) (λ e. e)
        (or_cases (leb j k) (keeps T f R j) (all_below_at T.places (λ i. leb i k || keeps T f R i) parts.1 j (arc_inside T S j a)))

pub best_by_test_lem : (T : Table) → Sound T → (f : ℕ → ℕ) → ((k : ℕ) → T.places ≤ k → f k ≡ 0) → (R : ℕ → Bool) (Q : ℕ → ℕ → Bool) →
    best_test T f R Q ≡ true → Best T f
best_by_test_lem T S f past R Q h =
    best_by_cuts T S f (loads_by_test T S f past one.0) R (tight_by_test T S f R two.0) each
  where
    arc_test : ℕ → Bool
    arc_test k = eqb (f k) 1 || settled_test T f k (Q k)

    one : (loads_test T f ≡ true) × ((tight_test T f R && all_below T.places (λ k. not (T.arc k) || arc_test k)) ≡ true)
    one = and_parts (loads_test T f) (tight_test T f R && all_below T.places (λ k. not (T.arc k) || arc_test k)) h

    two : (tight_test T f R ≡ true) × (all_below T.places (λ k. not (T.arc k) || arc_test k) ≡ true)
    two = and_parts (tight_test T f R) (all_below T.places (λ k. not (T.arc k) || arc_test k)) one.1

    each : (k : ℕ) → T.arc k ≡ true → (f k ≡ 1) ⊎ ((P : ℕ → Bool) × Settled T f k P)
    each k a = ⊎_elim (λ e. inl (eqb-true (f k) 1 e)) (λ e. inr (Q k, settled_by_test T S f k (Q k) e))
        (or_cases (eqb (f k) 1) (settled_test T f k (Q k))
        (rw a at (all_below_at T.places (λ j. not (T.arc j) || arc_test j) two.1 k (arc_inside T S k a))))
