-- What holds of the loads on every sound table of arcs.
use Rattle.std.specs.Prelude.{◌≡◌, ℕ, suc, ◌+◌, ◌≤◌, Bool, true, cond}
use Rattle.flow.specs.Table.{Table, Sound, Joined}
use Rattle.flow.specs.Loads.{total, Balanced, Loads, Least, Best, leave, enter, Tight, Settled, FirstTo}
use Rattle.flow.specs.Tests.{best_test}

-- what leaves a cut, with the total if the sink is inside, is what enters it, with the total if the source is inside
abbrev pub CutIdentity : Type 0
CutIdentity = (T : Table) → Sound T → (f : ℕ → ℕ) → Balanced T f → (R : ℕ → Bool) →
    leave T f R + cond (R T.sink) (total T f) 0 ≡ enter T f R + cond (R T.source) (total T f) 0

-- no load is above the total
abbrev pub LoadWithinTotal : Type 0
LoadWithinTotal = (T : Table) → Sound T → (f : ℕ → ℕ) → Balanced T f → (k : ℕ) → T.arc k ≡ true → f k ≤ total T f

-- a tight cut shows that the total is least, and as many arcs enter it as the total says
abbrev pub TightCutShowsLeast : Type 0
TightCutShowsLeast = (T : Table) → Sound T → (f : ℕ → ℕ) → Loads T f → (R : ℕ → Bool) → Tight T f R →
    Least T f × (total T f ≡ enter T (λ k. 1) R)

-- where the total is least, there is a tight cut
abbrev pub TightCutExists : Type 0
TightCutExists = (T : Table) → Sound T → (f : ℕ → ℕ) → Loads T f → Least T f → (R : ℕ → Bool) × Tight T f R

-- one step of the comparison in ascending number: where no loads of the same total come before f below the arc k, and a cut settles
-- the load of k, none come before f up to k either
abbrev pub SettledCutShowsFirst : Type 0
SettledCutShowsFirst = (T : Table) → Sound T → (f : ℕ → ℕ) (k : ℕ) → Loads T f → T.arc k ≡ true → (R : ℕ → Bool) → Settled T f k R →
    FirstTo T f k → FirstTo T f (suc k)

-- where every arc can be gone on from, both ways, there are best loads, and they are the only ones
abbrev pub OneBestOfTable : Type 0
OneBestOfTable = (T : Table) → Sound T → Joined T → (f : ℕ → ℕ) × Best T f × ((g : ℕ → ℕ) → Best T g → f ≡ g)

-- loads that pass the test with some cuts are best
abbrev pub BestByTest : Type 0
BestByTest = (T : Table) → Sound T → (f : ℕ → ℕ) → ((k : ℕ) → T.places ≤ k → f k ≡ 0) →
    (R : ℕ → Bool) (Q : ℕ → ℕ → Bool) → best_test T f R Q ≡ true → Best T f
