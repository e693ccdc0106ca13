-- Tests that compute: whether given cuts show that given loads are best.
use Rattle.std.specs.Prelude.{ℕ, Bool, cond, not, ◌&&◌, ◌||◌, ◌==◌, nat_le}
use Rattle.wiring.specs.Net.{all_below}
use Rattle.flow.specs.Table.{Table}
use Rattle.flow.specs.Loads.{into, out_of}

-- f is loads
abbrev pub loads_test : Table → (ℕ → ℕ) → Bool
loads_test T f =
    all_below T.places (λ k. cond (T.arc k) (nat_le 1 (f k)) (f k == 0))
    && all_below T.nodes (λ v. (v == T.source || v == T.sink) || into T f v == out_of T f v)

-- the arc at k does not leave R, and if it enters R, it has load 1
abbrev pub keeps : Table → (ℕ → ℕ) → (ℕ → Bool) → ℕ → Bool
keeps T f R k = not (T.arc k) || cond (R (T.begin k)) (R (T.end k)) (not (R (T.end k)) || f k == 1)

-- R is a tight cut
abbrev pub tight_test : Table → (ℕ → ℕ) → (ℕ → Bool) → Bool
tight_test T f R = (R T.sink && not (R T.source)) && all_below T.places (keeps T f R)

-- R settles the arc k
abbrev pub settled_test : Table → (ℕ → ℕ) → ℕ → (ℕ → Bool) → Bool
settled_test T f k R = (R (T.begin k) && not (R (T.end k))) && all_below T.places (λ j. nat_le j k || keeps T f R j)

-- R shows that the total of f is least, and Q k that the load of the arc k is, where it is not 1
abbrev pub best_test : Table → (ℕ → ℕ) → (ℕ → Bool) → (ℕ → ℕ → Bool) → Bool
best_test T f R Q = loads_test T f
    && (tight_test T f R && all_below T.places (λ k. not (T.arc k) || (f k == 1 || settled_test T f k (Q k))))
