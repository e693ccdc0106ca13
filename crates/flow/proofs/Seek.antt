-- The search, step by step; and from it, that there are best loads.
use Rattle.std.proofs.Common.{◌≡◌, ℕ, zero, suc, ◌+◌, ◌<◌, ◌≤◌, Bool, true, false, cond, not, ◌&&◌, ◌||◌, eqb, leb, ◌⊎◌, List, sym, refl, ap, ◌∙◌, subst, inl, inr, ⊎_elim, arith}
use Rattle.std.proofs.lemmas.Bool.{cases_Bool, cases_eq, cases_lt, both_ways, eqb-true, eq-eqb, ne_eqb, le-leb, leb-true, and_parts, not-true, not-false, or_cases}
use Rattle.std.proofs.Math.Bool.{and-true}
use Rattle.flow.specs.Table.{Table, Sound, Joined}
use Rattle.flow.specs.Loads.{total, Loads, Best, FirstTo, Least, Tight}
use Rattle.flow.specs.Ways.{Step, step_from, step_to, shifted, back}
use Rattle.flow.specs.Trails.{Came, Found, Trail, Opens, put, Shut, unreached}
use Rattle.flow.proofs.Sums.{sum_lt}
use Rattle.flow.proofs.Cuts.{arc_inside}
use Rattle.flow.proofs.Best.{tight_least}
use Rattle.flow.proofs.Search.{shut_tight, shut_settled, first_none, first_settled, first_one, first_vacant, first_kept, least_kept, first_all}
use Rattle.flow.proofs.Trails.{trail_found, reduce_total_lem, reduce_load, lowered_exists}
use Rattle.flow.proofs.Exist.{scan, loads_exist}

pub put_at : {A : Type 0} (h : ℕ → A) (v : ℕ) (x : A) (w : ℕ) → v ≡ w → put h v x w ≡ x
put_at h v x w e = ap (λ (b : Bool). cond b x (h w)) (eq-eqb v w e)

pub put_off : {A : Type 0} (h : ℕ → A) (v : ℕ) (x : A) (w : ℕ) → (v ≡ w → ⊥) → put h v x w ≡ h w
put_off h v x w n = ap (λ (b : Bool). cond b x (h w)) (ne_eqb v w n)

-- the search begins
pub trail_none : (T : Table) (f : ℕ → ℕ) (low u : ℕ) (depth : ℕ → ℕ) (via : ℕ → Step) → Trail T f low u (λ v. eqb v u) depth via
trail_none T f low u depth via = record { start = eq-eqb u u refl; came = λ w r n. absurd (n (eqb-true w u r)) }

-- one more node is reached
pub trail_more : (T : Table) (f : ℕ → ℕ) (low u : ℕ) (R : ℕ → Bool) (depth : ℕ → ℕ) (via : ℕ → Step) → Trail T f low u R depth via → (s : Step) →
    Opens T f low R s → Trail T f low u (put R (step_to T s) true) (put depth (step_to T s) (depth (step_from T s) + 1)) (put via (step_to T s) s)
trail_more T f low u R depth via H s o =
    record { start = kept u H.start; came = λ w r n. ⊎_elim (λ e. new w e) (λ d. old w d r n) (cases_eq (step_to T s) w) }
  where
    v : ℕ
    v = step_to T s

    R' : ℕ → Bool
    R' = put R v true

    depth' : ℕ → ℕ
    depth' = put depth v (depth (step_from T s) + 1)

    via' : ℕ → Step
    via' = put via v s

    kept : (w : ℕ) → R w ≡ true → R' w ≡ true
    kept w r = ⊎_elim (λ e. put_at R v true w e) (λ d. put_off R v true w d ∙ r) (cases_eq v w)

    apart : (w : ℕ) → R w ≡ true → v ≡ w → ⊥
    apart w r e = both_ways (R v) o.to (subst (λ (x : ℕ). R x ≡ true) (sym e) r)

    new : (w : ℕ) → v ≡ w → Came T f low R' depth' (via' w) w
    new w e = subst (λ (t : Step). Came T f low R' depth' t w) (sym (put_at via v s w e))
        (record {
          arc = o.arc;
          above = o.above;
          to = e;
          from = kept (step_from T s) o.from;
          deeper = omega (
            arith,
            put_off depth v (depth (step_from T s) + 1) (step_from T s) (apart (step_from T s) o.from),
            put_at depth v (depth (step_from T s) + 1) w e,
          );
          free = o.free;
        })

    old : (w : ℕ) → (v ≡ w → ⊥) → R' w ≡ true → (w ≡ u → ⊥) → Came T f low R' depth' (via' w) w
    old w d r n =
        let c = H.came w (sym (put_off R v true w d) ∙ r) n in
        subst (λ (t : Step). Came T f low R' depth' t w) (sym (put_off via v s w d))
        (record {
          arc = c.arc;
          above = c.above;
          to = c.to;
          from = kept (step_from T (via w)) c.from;
          deeper = omega (
            arith,
            put_off depth v (depth (step_from T s) + 1) (step_from T (via w)) (apart (step_from T (via w)) c.from),
            put_off depth v (depth (step_from T s) + 1) w d,
            c.deeper,
          );
          free = c.free;
        })

-- the nodes not yet reached become fewer
pub fewer : (T : Table) (R : ℕ → Bool) (v : ℕ) → v < T.nodes → R v ≡ false → unreached T (put R v true) < unreached T R
fewer T R v l e =
    sum_lt T.nodes v (λ w. cond (put R v true w) 0 1) (λ w. cond (R w) 0 1) l (λ w m. at (eqb v w) (R w))
    (here (put R v true v) (R v) (put_at R v true v refl) e)
  where
    at : (a b : Bool) → cond (cond a true b) 0 1 ≤ cond b 0 1
    at true b = omega arith
    at false b = omega arith

    here : (a b : Bool) → a ≡ true → b ≡ false → cond a 0 1 < cond b 0 1
    here a b p q = rw (p, q) (omega arith)

pub step_within : (T : Table) → Sound T → (s : Step) → T.arc s.place ≡ true → step_to T s < T.nodes
step_within T S s a = go s.along
  where
    go : (b : Bool) → cond b (T.end s.place) (T.begin s.place) < T.nodes
    go true = S.within s.place a
    go false = omega (arith, S.within s.place a, S.up s.place a)

-- the step over j, along its arc or against it, leads out of R
abbrev step_test : Table → (ℕ → ℕ) → ℕ → (ℕ → Bool) → Bool → ℕ → Bool
step_test T f low R along j = (T.arc j && leb low j) &&
    ((R (cond along (T.begin j) (T.end j)) && not (R (cond along (T.end j) (T.begin j)))) && (along || leb 2 (f j)))

-- a step leads out of R, or R is shut
opens_or_shut : (T : Table) → Sound T → (f : ℕ → ℕ) (low : ℕ) (R : ℕ → Bool) → ((s : Step) × Opens T f low R s) ⊎ Shut T f low R
opens_or_shut T S f low R = ⊎_elim
    (λ none. ⊎_elim (λ nor. inr (shut none nor)) (λ r. inl (opens false r.0 r.1.holds)) (scan (step_test T f low R false) T.places))
    (λ r. inl (opens true r.0 r.1.holds))
    (scan (step_test T f low R true) T.places)
  where
    opens : (along : Bool) (j : ℕ) → step_test T f low R along j ≡ true → (s : Step) × Opens T f low R s
    opens along j h =
        let from = R (cond along (T.begin j) (T.end j)) in let to = R (cond along (T.end j) (T.begin j)) in
        let p = and_parts (T.arc j && leb low j) ((from && not to) && (along || leb 2 (f j))) h in
        let q = and_parts (T.arc j) (leb low j) p.0 in
        let r = and_parts (from && not to) (along || leb 2 (f j)) p.1 in
        let t = and_parts from (not to) r.0 in (
          record { place = j; along = along },
          record {
            arc = q.0;
            above = leb-true low j q.1;
            from = t.0;
            to = not-true to t.1;
            free = λ e. ⊎_elim (λ x. absurd (both_ways along e x)) (λ x. leb-true 2 (f j) x) (or_cases along (leb 2 (f j)) r.1);
          },
        )

    closed : (p q r s t : Bool) → ((p && q) && ((r && not s) && t)) ≡ false → p ≡ true → q ≡ true → r ≡ true → t ≡ true → s ≡ true
    closed p q r s t e a b c d = not-false s (rw (a, b, c, d, and-true) at e)

    shut : ((j : ℕ) → j < T.places → step_test T f low R true j ≡ false) → ((j : ℕ) → j < T.places → step_test T f low R false j ≡ false) → Shut T f low R
    shut none nor = record {
      along = λ j l a b. closed (T.arc j) (leb low j) (R (T.begin j)) (R (T.end j)) true (none j (arc_inside T S j a)) a (le-leb low j l) b refl;
      against = λ j l a b t.
          closed (T.arc j) (leb low j) (R (T.end j)) (R (T.begin j)) (leb 2 (f j)) (nor j (arc_inside T S j a)) a (le-leb low j l) b (le-leb 2 (f j) t);
    }

-- the search ends: v is reached by a way, or some shut set has u and not v
record Ended (T : Table) (f : ℕ → ℕ) (low u : ℕ) : Type 0 where
  reached : ℕ → Bool
  depth : ℕ → ℕ
  via : ℕ → Step
  trail : Trail T f low u reached depth via
  shut : Shut T f low reached

search_on : (T : Table) → Sound T → (f : ℕ → ℕ) (low u n : ℕ) (R : ℕ → Bool) (depth : ℕ → ℕ) (via : ℕ → Step) → Trail T f low u R depth via →
    unreached T R < n → Ended T f low u
search_on T S f low u zero R depth via H l = absurd (omega arith)
search_on T S f low u (suc n) R depth via H l =
    ⊎_elim
    (λ o. search_on T S f low u n (put R (step_to T o.0) true) (put depth (step_to T o.0) (depth (step_from T o.0) + 1))
    (put via (step_to T o.0) o.0)
    (trail_more T f low u R depth via H o.0 o.1) (omega (arith, fewer T R (step_to T o.0) (step_within T S o.0 o.1.arc) o.1.to)))
    (λ s. record { reached = R; depth = depth; via = via; trail = H; shut = s })
    (opens_or_shut T S f low R)

found_or_shut : (T : Table) → Sound T → (f : ℕ → ℕ) (low u v : ℕ) → Found T f low u v ⊎ ((R : ℕ → Bool) × Shut T f low R × (R u ≡ true) × (R v ≡ false))
found_or_shut T S f low u v =
    let e = search_on T S f low u (suc (unreached T (λ w. eqb w u))) (λ w. eqb w u) (λ w. 0) (λ w. back 0) (trail_none T f low u (λ w. 0) (λ w. back 0))
    (omega arith) in
    ⊎_elim (λ r. inl (trail_found T f low u v e.reached e.depth e.via e.trail.came r)) (λ r. inr (e.reached, e.shut, e.trail.start, r))
    (cases_Bool (e.reached v))

-- loads of the least total
least_exist : (T : Table) → Sound T → (n : ℕ) (f : ℕ → ℕ) → Loads T f → total T f < n → (g : ℕ → ℕ) × Loads T g × Least T g
least_exist T S zero f L l = absurd (omega arith)
least_exist T S (suc n) f L l =
    ⊎_elim (λ w. again (least_exist T S n) w.steps (reduce_total_lem T S f L w 1 (omega arith)))
    (λ r. (f, L, λ g M. tight_least T S f L.balanced r.0 (shut_tight T f r.0 L r.1 r.2 r.3) g M))
    (found_or_shut T S f 0 T.sink T.source)
  where
    again : ((g : ℕ → ℕ) → Loads T g → total T g < n → (g : ℕ → ℕ) × Loads T g × Least T g) → (ss : List Step) →
        (d : ℕ) × (1 ≤ d) × Loads T (shifted d ss f) × (total T (shifted d ss f) + d ≡ total T f) → (g : ℕ → ℕ) × Loads T g × Least T g
    again rest ss r = rest (shifted r.0 ss f) r.2 (omega (arith, r.1, r.3))

-- loads of the least total, with no others before them by a difference below n
record Ordered (T : Table) (f : ℕ → ℕ) (n : ℕ) : Type 0 where
  loads : Loads T f
  least : Least T f
  first : FirstTo T f n

-- what is taken from an arc and put along a way
lower : (T : Table) → Sound T → (f : ℕ → ℕ) → Loads T f → (k : ℕ) → T.arc k ≡ true → 2 ≤ f k → (w : Found T f (suc k) (T.begin k) (T.end k)) →
    (g : ℕ → ℕ) × Loads T g × (total T g ≡ total T f) × ((j : ℕ) → j < k → g j ≡ f j) × (g k < f k)
lower T S f L k a two w =
    let r = lowered_exists T S f k w two in
    let p = reduce_load T S f L k a two w r.0 r.1 in
    (r.0, p.0, p.1, p.2, p.3)

settle : (T : Table) → Sound T → (k n : ℕ) (f : ℕ → ℕ) → Ordered T f k → f k < n → (g : ℕ → ℕ) × Ordered T g (suc k)
settle T S k zero f O l = absurd (omega arith)
settle T S k (suc n) f O l = go (settle T S k n) (T.arc k) refl
  where
    go : ((g : ℕ → ℕ) → Ordered T g k → g k < n → (g : ℕ → ℕ) × Ordered T g (suc k)) → (b : Bool) → T.arc k ≡ b → (g : ℕ → ℕ) × Ordered T g (suc k)
    go rest false a = (f, record { loads = O.loads; least = O.least; first = first_vacant T f k (O.loads.vacant k a) O.first })
    go rest true a = ⊎_elim small large (cases_lt (f k) 2)
      where
        small : f k < 2 → (g : ℕ → ℕ) × Ordered T g (suc k)
        small m = (f, record { loads = O.loads; least = O.least; first = first_one T f k a (omega (arith, O.loads.arcs k a)) O.first })

        large : 2 ≤ f k → (g : ℕ → ℕ) × Ordered T g (suc k)
        large m =
            ⊎_elim (λ w. again (lower T S f O.loads k a m w))
            (λ r. (
              f,
              record {
                loads = O.loads;
                least = O.least;
                first = first_settled T S f k O.loads a r.0 (shut_settled T f k r.0 O.loads r.1 r.2 r.3) O.first;
              },
            ))
            (found_or_shut T S f (suc k) (T.begin k) (T.end k))
          where
            again : (g : ℕ → ℕ) × Loads T g × (total T g ≡ total T f) × ((j : ℕ) → j < k → g j ≡ f j) × (g k < f k) → (g : ℕ → ℕ) × Ordered T g (suc k)
            again r = rest r.0 (record {
              loads = r.1;
              least = least_kept T f r.0 r.2 O.least;
              first = first_kept T f r.0 k r.2 r.3 O.first;
            }) (omega (arith, r.4))

-- best loads of a table in which some loads are
best_exist : (T : Table) → Sound T → (f : ℕ → ℕ) → Loads T f → (g : ℕ → ℕ) × Best T g
best_exist T S f L = let r = upto T.places in (r.0, first_all T S r.0 r.1.loads r.1.least r.1.first)
  where
    upto : (n : ℕ) → (g : ℕ → ℕ) × Ordered T g n
    upto zero = let r = least_exist T S (suc (total T f)) f L (omega arith) in (r.0, record { loads = r.1; least = r.2; first = first_none T r.0 })
    upto (suc n) = let r = upto n in settle T S n (suc (r.0 n)) r.0 r.1 (omega arith)

pub joined_best : (T : Table) → Sound T → Joined T → (g : ℕ → ℕ) × Best T g
joined_best T S J = let r = loads_exist T S J in best_exist T S r.0 r.1

-- loads of least total have a tight cut: a search from the sink cannot reach the source
pub tight_exists : (T : Table) → Sound T → (f : ℕ → ℕ) → Loads T f → Least T f → (R : ℕ → Bool) × Tight T f R
tight_exists T S f L least = ⊎_elim
    (λ w. let r = reduce_total_lem T S f L w 1 (omega arith) in absurd (omega (arith, r.1, r.3, least (shifted r.0 w.steps f) r.2)))
    (λ r. (r.0, shut_tight T f r.0 L r.1 r.2 r.3))
    (found_or_shut T S f 0 T.sink T.source)
