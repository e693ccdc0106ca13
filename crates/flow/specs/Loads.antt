-- Loads on a table of arcs, their total, the best loads, and cuts that show them best.
use Rattle.std.specs.Prelude.{◌≡◌, ℕ, ◌<◌, ◌≤◌, Bool, true, false, ◌≢◌}
use Rattle.wiring.specs.Loads.{sum_where, Before, BestOf}
use Rattle.flow.specs.Table.{Table, begins, ends, leaving, entering}

-- what begins at the node v; what ends there
abbrev pub out_of : Table → (ℕ → ℕ) → ℕ → ℕ
out_of T f v = sum_where T.places (begins T v) f

abbrev pub into : Table → (ℕ → ℕ) → ℕ → ℕ
into T f v = sum_where T.places (ends T v) f

-- the total of loads: what begins at the source
abbrev pub total : Table → (ℕ → ℕ) → ℕ
total T f = out_of T f T.source

-- at every node other than source and sink as much ends as begins
abbrev pub Balanced : Table → (ℕ → ℕ) → Type 0
Balanced T f = (v : ℕ) → (v ≢ T.source) → (v ≢ T.sink) → into T f v ≡ out_of T f v

-- f is loads: at least 1 at every arc, nothing at a place without one, and balanced
pub record Loads (T : Table) (f : ℕ → ℕ) : Type 0 where
  pub arcs : (k : ℕ) → T.arc k ≡ true → 1 ≤ f k
  pub vacant : (k : ℕ) → T.arc k ≡ false → f k ≡ 0
  pub balanced : Balanced T f

-- no loads have a smaller total than f
abbrev pub Least : Table → (ℕ → ℕ) → Type 0
Least T f = (g : ℕ → ℕ) → Loads T g → total T f ≤ total T g

-- the best loads of a table
abbrev pub Best : Table → (ℕ → ℕ) → Type 0
Best T f = BestOf (Loads T) (total T) f

-- what leaves the cut R; what enters it
abbrev pub leave : Table → (ℕ → ℕ) → (ℕ → Bool) → ℕ
leave T f R = sum_where T.places (leaving T R) f

abbrev pub enter : Table → (ℕ → ℕ) → (ℕ → Bool) → ℕ
enter T f R = sum_where T.places (entering T R) f

-- R is a tight cut, one that shows that the total of f is least: it has the sink and not the source, no arc leaves it, and the
-- arcs that enter it have load 1
pub record Tight (T : Table) (f : ℕ → ℕ) (R : ℕ → Bool) : Type 0 where
  pub sink_in : R T.sink ≡ true
  pub source_out : R T.source ≡ false
  pub none_leaves : (k : ℕ) → T.arc k ≡ true → R (T.begin k) ≡ true → R (T.end k) ≡ true
  pub one_enters : (k : ℕ) → T.arc k ≡ true → R (T.begin k) ≡ false → R (T.end k) ≡ true → f k ≡ 1

-- R is a cut that shows that the load of the arc k is least, once the loads below k and the total are fixed
pub record Settled (T : Table) (f : ℕ → ℕ) (k : ℕ) (R : ℕ → Bool) : Type 0 where
  pub begin_in : R (T.begin k) ≡ true
  pub end_out : R (T.end k) ≡ false
  pub none_leaves : (j : ℕ) → k < j → T.arc j ≡ true → R (T.begin j) ≡ true → R (T.end j) ≡ true
  pub one_enters : (j : ℕ) → k < j → T.arc j ≡ true → R (T.begin j) ≡ false → R (T.end j) ≡ true → f j ≡ 1

-- no loads of the same total come before f by a difference below n
abbrev pub FirstTo : Table → (ℕ → ℕ) → ℕ → Type 0
FirstTo T f n = (g : ℕ → ℕ) → Loads T g → total T g ≡ total T f → (b : Before g f) → b.at < n → ⊥
