-- A shift made cell by cell, from the last step back.
use Rattle.std.proofs.Common.{◌≡◌, ℕ, ◌+◌, ◌-◌, ◌*◌, ◌≤◌, Bool, true, false, cond, eqb, List, [], ◌∷◌, refl, ap, arith}
use Rattle.std.proofs.lemmas.Bool.{eqb-true}
use Rattle.flow.specs.Ways.{Step, Shifted}
use Rattle.flow.specs.Trails.{put}

pub shifted_none : (d : ℕ) (f : ℕ → ℕ) → Shifted d [] f f
shifted_none d f k = refl

-- first the rest, then the step
pub shifted_after : (d : ℕ) (s : Step) (ss : List Step) (f h g : ℕ → ℕ) → Shifted d ss f h → Shifted d (s ∷ []) h g → Shifted d (s ∷ ss) f g
shifted_after d s ss f h g a b k =
    let one = a k in
    let two = b k in
    omega arith

-- one cell lowered
pub shifted_against : (d j : ℕ) (f : ℕ → ℕ) → d ≤ f j → Shifted d (record { place = j; along = false } ∷ []) f (put f j (f j - d))
shifted_against d j f l k = go (eqb j k) refl
  where
    go : (b : Bool) → eqb j k ≡ b → cond b (f j - d) (f k) + d * (cond b 1 0 + 0) ≡ f k + d * (0 + 0)
    go true e = let same = ap f (eqb-true j k e) in omega arith
    go false e = omega arith
