-- From what a search leaves behind, a way; and how much can be shifted along it.
use Rattle.std.proofs.Common.{◌≡◌, ℕ, zero, suc, ◌+◌, ◌-◌, ◌<◌, ◌≤◌, min, Bool, true, false, cond, List, [], ◌∷◌, sym, refl, ap, subst, ⊎_elim, arith}
use Rattle.std.specs.List.{AllByRecursion}
use Rattle.std.proofs.lemmas.Bool.{cases_eq, both_ways}
use Rattle.flow.specs.Table.{Table, Sound}
use Rattle.flow.specs.Loads.{total, Loads}
use Rattle.flow.specs.Ways.{Step, Way, step_from, step_to, Once, Falls, Slack, Shifted, shifted, back}
use Rattle.flow.specs.Trails.{Came, Found, slack_of}
use Rattle.flow.proofs.Shifts.{each_weaker, falling_once, shifted_is, slack_enough, once_more, loads_lowered, loads_down}

-- a number of the nodes rises along the way, up to a bound
pub rising_once : (T : Table) (depth : ℕ → ℕ) (most u v : ℕ) (ss : List Step) → Way T u ss v →
    AllByRecursion (λ s. (depth (step_from T s) < depth (step_to T s)) × (depth (step_to T s) ≤ most)) ss → Once ss
rising_once T depth most u v ss W h =
    falling_once T (λ n. most - depth n) u v ss W
    (each_weaker (λ s. (depth (step_from T s) < depth (step_to T s)) × (depth (step_to T s) ≤ most)) (Falls T (λ n. most - depth n)) (λ s l. omega arith) ss h)

-- a step of a way that a search found: from low on, free, and from a node to one reached later, at most so deep
abbrev pub Good : Table → (ℕ → ℕ) → ℕ → (ℕ → ℕ) → ℕ → Step → Type 0
Good T f low depth most s = (low ≤ s.place) × (s.along ≡ false → 2 ≤ f s.place) × (depth (step_from T s) < depth (step_to T s))
    × (depth (step_to T s) ≤ most)

-- along a way of such steps loads can be shifted
abbrev pub good_found : (T : Table) (f : ℕ → ℕ) (low u v : ℕ) (depth : ℕ → ℕ) (ss : List Step) → Way T u ss v → AllByRecursion (Good T f low depth (depth v)) ss →
    Found T f low u v
good_found T f low u v depth ss W G = record {
  steps = ss;
  way = W;
  above = each_weaker (Good T f low depth (depth v)) (λ s. low ≤ s.place) (λ s g. g.0) ss G;
  free = each_weaker (Good T f low depth (depth v)) (λ s. s.along ≡ false → 2 ≤ f s.place) (λ s g. g.1) ss G;
  once = rising_once T depth (depth v) u v ss W
      (each_weaker (Good T f low depth (depth v)) (λ s. (depth (step_from T s) < depth (step_to T s)) × (depth (step_to T s) ≤ depth v))
      (λ s g. (g.2, g.3)) ss G);
}

walk_back : (T : Table) (f : ℕ → ℕ) (low u v : ℕ) (R : ℕ → Bool) (depth : ℕ → ℕ) (via : ℕ → Step) →
    ((w : ℕ) → R w ≡ true → (w ≡ u → ⊥) → Came T f low R depth (via w) w) → (n w : ℕ) → depth w < n → depth w ≤ depth v → R w ≡ true →
    (ss : List Step) → Way T w ss v → AllByRecursion (Good T f low depth (depth v)) ss → Found T f low u v
walk_back T f low u v R depth via h zero w l m r ss W G = absurd (omega arith)
walk_back T f low u v R depth via h (suc n) w l m r ss W G = ⊎_elim done (λ d. further d (h w r d) (walk_back T f low u v R depth via h n)) (cases_eq w u)
  where
    done : w ≡ u → Found T f low u v
    done e = good_found T f low u v depth ss (subst (λ (x : ℕ). Way T x ss v) e W) G

    further : (w ≡ u → ⊥) → Came T f low R depth (via w) w →
        ((x : ℕ) → depth x < n → depth x ≤ depth v → R x ≡ true → (ts : List Step) → Way T x ts v → AllByRecursion (Good T f low depth (depth v)) ts →
        Found T f low u v) → Found T f low u v
    further d c rest =
        let s = via w in
        let there = ap depth c.to in
        let less = c.deeper in
        rest (step_from T s) (omega arith) (omega arith) c.from (s ∷ ss)
        (c.arc, refl, subst (λ (x : ℕ). Way T x ss v) (sym c.to) W)
        ((c.above, c.free, omega arith, omega arith), G)

-- to each node that was reached leads a way
pub trail_found : (T : Table) (f : ℕ → ℕ) (low u v : ℕ) (R : ℕ → Bool) (depth : ℕ → ℕ) (via : ℕ → Step) →
    ((w : ℕ) → R w ≡ true → (w ≡ u → ⊥) → Came T f low R depth (via w) w) → R v ≡ true → Found T f low u v
trail_found T f low u v R depth via h r = walk_back T f low u v R depth via h (suc (depth v)) v (omega arith) (omega arith) r [] refl tt

-- the slack of a way is at most x, leaves 1 at every step against, and is at least 1
pub slack_le : (f : ℕ → ℕ) (x : ℕ) (ss : List Step) → slack_of f x ss ≤ x
slack_le f x [] = omega arith
slack_le f x (s ∷ ss) = go s.along (slack_le f x ss)
  where
    go : (a : Bool) → slack_of f x ss ≤ x → cond a (slack_of f x ss) (min (f s.place - 1) (slack_of f x ss)) ≤ x
    go true l = l
    go false l = omega arith

slack_weaker : (f : ℕ → ℕ) (d e : ℕ) (ss : List Step) → e ≤ d → AllByRecursion (Slack d f) ss → AllByRecursion (Slack e f) ss
slack_weaker f d e ss l h = each_weaker (Slack d f) (Slack e f) (λ s g q. omega (arith, g q)) ss h

pub slack_fits : (f : ℕ → ℕ) (x : ℕ) (ss : List Step) → AllByRecursion (λ s. s.along ≡ false → 2 ≤ f s.place) ss → AllByRecursion (Slack (slack_of f x ss) f) ss
slack_fits f x [] h = tt
slack_fits f x (s ∷ ss) h = go s.along refl (slack_fits f x ss h.1)
  where
    low : (a : Bool) → ℕ
    low a = cond a (slack_of f x ss) (min (f s.place - 1) (slack_of f x ss))

    go : (a : Bool) → s.along ≡ a → AllByRecursion (Slack (slack_of f x ss) f) ss → AllByRecursion (Slack (low s.along) f) (s ∷ ss)
    go true e r = ((λ q. absurd (both_ways s.along q e)), subst (λ (b : Bool). AllByRecursion (Slack (low b) f) ss) (sym e) r)
    go false e r = (
      (λ q. subst (λ (b : Bool). low b + 1 ≤ f s.place) (sym e) (omega (arith, h.0 q))),
      subst (λ (b : Bool). AllByRecursion (Slack (low b) f) ss) (sym e) (slack_weaker f (slack_of f x ss) (low false) ss (omega arith) r),
    )

pub slack_some : (f : ℕ → ℕ) (x : ℕ) (ss : List Step) → 1 ≤ x → AllByRecursion (λ s. s.along ≡ false → 2 ≤ f s.place) ss → 1 ≤ slack_of f x ss
slack_some f x [] l h = l
slack_some f x (s ∷ ss) l h = go s.along refl (slack_some f x ss l h.1)
  where
    go : (a : Bool) → s.along ≡ a → 1 ≤ slack_of f x ss → 1 ≤ cond a (slack_of f x ss) (min (f s.place - 1) (slack_of f x ss))
    go true e r = r
    go false e r = omega (arith, h.0 e)

-- one reduction of the total: the search from the sink reached the source
pub reduce_total_lem : (T : Table) → Sound T → (f : ℕ → ℕ) → Loads T f → (w : Found T f 0 T.sink T.source) → (x : ℕ) → 1 ≤ x →
    (d : ℕ) × (1 ≤ d) × Loads T (shifted d w.steps f) × (total T (shifted d w.steps f) + d ≡ total T f)
reduce_total_lem T S f L w x l =
    let d = slack_of f x w.steps in
    let sl = slack_fits f x w.steps w.free in
    let sh = shifted_is d w.steps f (slack_enough d w.steps f w.once sl) in
    let both = loads_down T S d w.steps w.way f (shifted d w.steps f) sh w.once sl L in
    (d, slack_some f x w.steps l w.free, both.0, both.1)

-- one reduction of the load of k: the search from its begin, over the places above k, reached its end
pub reduce_load : (T : Table) → Sound T → (f : ℕ → ℕ) → Loads T f → (k : ℕ) → T.arc k ≡ true → 2 ≤ f k →
    (w : Found T f (suc k) (T.begin k) (T.end k)) → (g : ℕ → ℕ) → Shifted (slack_of f (f k - 1) w.steps) (back k ∷ w.steps) f g →
    Loads T g × (total T g ≡ total T f) × ((j : ℕ) → j < k → g j ≡ f j) × (g k < f k)
reduce_load T S f L k a two w g sh =
    let d = slack_of f (f k - 1) w.steps in
    let most = slack_le f (f k - 1) w.steps in
    let some = slack_some f (f k - 1) w.steps (omega arith) w.free in
    let all = loads_lowered T S k d w.steps a w.way f g sh w.once (slack_fits f (f k - 1) w.steps w.free) w.above (omega arith) L in
    (all.0, all.1, all.2, omega (arith, all.3))

-- the loads that come of it
pub lowered_exists : (T : Table) → Sound T → (f : ℕ → ℕ) (k : ℕ) → (w : Found T f (suc k) (T.begin k) (T.end k)) → 2 ≤ f k →
    (g : ℕ → ℕ) × Shifted (slack_of f (f k - 1) w.steps) (back k ∷ w.steps) f g
lowered_exists T S f k w two =
    let d = slack_of f (f k - 1) w.steps in
    let most = slack_le f (f k - 1) w.steps in (
      shifted d (back k ∷ w.steps) f,
      shifted_is d (back k ∷ w.steps) f
          (slack_enough d (back k ∷ w.steps) f (once_more k w.steps w.once w.above) ((λ e. omega arith), slack_fits f (f k - 1) w.steps w.free)),
    )
