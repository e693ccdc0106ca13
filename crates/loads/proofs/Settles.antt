-- What shifts along ways come to, and what a search that finds none shows.
use Rattle.std.proofs.Common.{◌≡◌, ℕ, suc, ◌+◌, ◌-◌, ◌<◌, ◌≤◌, Bool, true, false, ◌⊎◌, List, ◌∷◌, sym, refl, subst, inl, inr, add-one, arith}
use Rattle.std.proofs.lemmas.Bool.{cases_Bool}
use Rattle.flow.specs.Table.{Table, Sound}
use Rattle.flow.specs.Loads.{Loads, FirstTo, Best, Tight, total}
use Rattle.flow.specs.Ways.{Step, Shifted, shifted, back}
use Rattle.flow.specs.Trails.{Found, Shut, slack_of, put}
use Rattle.flow.proofs.Best.{tight_least}
use Rattle.flow.proofs.Shifts.{each_weaker, loads_down, shift_keeps}
use Rattle.flow.proofs.Trails.{slack_fits, slack_some, trail_found, reduce_total_lem, reduce_load}
use Rattle.flow.proofs.Cells.{shifted_after, shifted_against}
use Rattle.flow.proofs.Search.{shut_tight, shut_settled, first_none, first_settled, first_one, first_vacant, first_kept, least_kept, first_all}
use Rattle.marks.specs.declared.mark.Mark.{Mark}
use Rattle.marks.specs.Marks.{reached_of, depth_of, via_of}
use Rattle.loads.specs.Search.{Sought}
use Rattle.loads.specs.Settle.{Reduced, Lowered, SettledTo}
use Rattle.loads.specs.Walk.{way_to}
use Rattle.loads.proofs.Raises.{load_le}
use Rattle.loads.proofs.Walks.{most_le, sought_way}

-- a shift of so much fits, where loads are few
pub shift_room : (T : Table) → Sound T → (f : ℕ → ℕ) → Loads T f → total T f ≤ 4096 → (x : ℕ) → x ≤ 4096 → (k : ℕ) → f k + x < 65536
shift_room T S f L few x l k = omega (arith, load_le T S f L.balanced L.vacant k)

-- shifted from the sink to the source, the total is less
pub reduced : (T : Table) → Sound T → (f g : ℕ → ℕ) (x : ℕ) (ns : List Mark) → Loads T f → 1 ≤ x → Sought T f 0 T.sink T.source ns true →
    (d : ℕ) → d ≡ slack_of f x (way_to T ns T.source) → Shifted d (way_to T ns T.source) f g → Reduced T f g
reduced T S f g x ns L l s d is sh =
    let ss = way_to T ns T.source in
    let found = sought_way T f 0 T.sink T.source ns s in
    let w = found.0 in
    let moved = subst (λ (ts : List Step). Shifted (slack_of f x ts) ts f g) (sym found.1) (subst (λ (y : ℕ). Shifted y ss f g) is sh) in
    let down = loads_down T S (slack_of f x w.steps) w.steps w.way f g moved w.once (slack_fits f x w.steps w.free) L in
    record { loads = down.0; less = omega (arith, down.1, slack_some f x w.steps l w.free) }

-- the arc at k itself is not on a way over the places above k
pub kept_at : (T : Table) (f h : ℕ → ℕ) (k d : ℕ) (u v : ℕ) (ns : List Mark) → Sought T f (k + 1) u v ns true → Shifted d (way_to T ns v) f h → h k ≡ f k
kept_at T f h k d u v ns s sh =
    let found = sought_way T f (k + 1) u v ns s in
    let w = found.0 in
    shift_keeps d w.steps f h (subst (λ (ts : List Step). Shifted d ts f h) (sym found.1) sh) k
    (each_weaker (λ s. k + 1 ≤ s.place) (λ s. s.place ≡ k → ⊥) (λ s m e. omega arith) w.steps w.above)

-- shifted from the begin of the arc at k to its end, and as much taken from k, the load of k is less
pub lowered : (T : Table) → Sound T → (f h : ℕ → ℕ) (k u v : ℕ) (ns : List Mark) → Loads T f → T.arc k ≡ true → T.begin k ≡ u → T.end k ≡ v → 2 ≤ f k →
    Sought T f (k + 1) u v ns true → (d : ℕ) → d ≡ slack_of f (f k - 1) (way_to T ns v) → Shifted d (way_to T ns v) f h →
    Lowered T f (put h k (h k - d)) k
lowered T S f h k u v ns L a begin end two s d is sh =
    let ss = way_to T ns v in
    let g = put h k (h k - d) in
    let at_k = kept_at T f h k d u v ns s sh in
    let most = most_le f (f k - 1) ss d is in
    let both : Shifted d (back k ∷ ss) f g = shifted_after d (back k) ss f h g sh (shifted_against d k h (omega arith)) in
    let found = subst (λ (low : ℕ). (x : Found T f low (T.begin k) (T.end k)) × (x.steps ≡ ss)) (add-one k)
    (subst (λ (y : ℕ). (x : Found T f (k + 1) (T.begin k) y) × (x.steps ≡ ss)) (sym end)
    (subst (λ (y : ℕ). (x : Found T f (k + 1) y v) × (x.steps ≡ ss)) (sym begin) (sought_way T f (k + 1) u v ns s))) in
    let moved = subst (λ (ts : List Step). Shifted (slack_of f (f k - 1) ts) (back k ∷ ts) f g) (sym found.1)
    (subst (λ (y : ℕ). Shifted y (back k ∷ ss) f g) is both) in
    let all = reduce_load T S f L k a two found.0 g moved in
    record { loads = all.0; same = all.1; below = all.2; less = all.3 }

-- a search that did not get from the sink to the source leaves a tight cut
sought_tight : (T : Table) (f : ℕ → ℕ) (ns : List Mark) → Loads T f → Sought T f 0 T.sink T.source ns false → Tight T f (reached_of ns)
sought_tight T f ns L s = shut_tight T f (reached_of ns) L (s.shut refl) s.trail.start s.target

pub settled_none : (T : Table) → Sound T → (f : ℕ → ℕ) (ns : List Mark) → Loads T f → Sought T f 0 T.sink T.source ns false → SettledTo T f 0
settled_none T S f ns L s = record {
  loads = L;
  least = λ g M. tight_least T S f L.balanced (reached_of ns) (sought_tight T f ns L s) g M;
  first = first_none T f;
}

-- with best loads a search from the sink cannot get to the source: a shift along its way would reduce the total
pub best_cut : (T : Table) → Sound T → (f : ℕ → ℕ) (ns : List Mark) (answer : Bool) → Best T f → Sought T f 0 T.sink T.source ns answer →
    Tight T f (reached_of ns)
best_cut T S f ns true B s =
    let w = trail_found T f 0 T.sink T.source (reached_of ns) (depth_of ns) (via_of ns) s.trail.came s.target in
    let less = reduce_total_lem T S f B.loads w 1 (omega arith) in
    absurd (omega (arith, less.1, less.3, B.least (shifted less.0 w.steps f) less.2))
best_cut T S f ns false B s = sought_tight T f ns B.loads s

-- one lead more: lowered again, settled by a search that did not get from its begin to its end, or not above 1
pub settled_lower : (T : Table) (f g : ℕ → ℕ) (k : ℕ) → SettledTo T f k → Lowered T f g k → SettledTo T g k
settled_lower T f g k h l = record {
  loads = l.loads;
  least = least_kept T f g l.same h.least;
  first = first_kept T f g k l.same l.below h.first;
}

pub settled_shut : (T : Table) → Sound T → (f : ℕ → ℕ) (k : ℕ) (ns : List Mark) → SettledTo T f k → T.arc k ≡ true →
    Sought T f (k + 1) (T.begin k) (T.end k) ns false → SettledTo T f (k + 1)
settled_shut T S f k ns h a s =
    let shut = subst (λ (low : ℕ). Shut T f low (reached_of ns)) (add-one k) (s.shut refl) in
    let cut = shut_settled T f k (reached_of ns) h.loads shut s.trail.start s.target in
    let first = first_settled T S f k h.loads a (reached_of ns) cut h.first in
    record { loads = h.loads; least = h.least; first = subst (FirstTo T f) (sym (add-one k)) first }

pub settled_small : (T : Table) (f : ℕ → ℕ) (k : ℕ) → SettledTo T f k → f k ≤ 1 → SettledTo T f (k + 1)
settled_small T f k h l = record { loads = h.loads; least = h.least; first = subst (FirstTo T f) (sym (add-one k)) (go (cases_Bool (T.arc k))) }
  where
    go : (T.arc k ≡ true) ⊎ (T.arc k ≡ false) → FirstTo T f (suc k)
    go (inl a) = first_one T f k a (omega (arith, h.loads.arcs k a)) h.first
    go (inr a) = first_vacant T f k (h.loads.vacant k a) h.first

-- all leads settled
pub settled_best : (T : Table) → Sound T → (f : ℕ → ℕ) (n : ℕ) → n ≡ T.places → SettledTo T f n → Best T f
settled_best T S f n e h = first_all T S f h.loads h.least (subst (FirstTo T f) e h.first)
