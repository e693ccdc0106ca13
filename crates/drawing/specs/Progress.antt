-- A walk and a drawing under way: what a loop has found so far.
use Rattle.std.specs.Prelude.{◌≡◌, ℕ, false, List, [], ◌∷◌}
use Rattle.wiring.specs.Net.{Net}
use Rattle.wiring.specs.Lengths.{Marks}
use Rattle.wiring.specs.Lists.{Lowest, lowered, Walker, Drawn}

-- the walk from v has come by the leads js to w, and may go on
abbrev pub WalkTo : Walker → ℕ → List ℕ → ℕ → Type 0
WalkTo X v [] w = v ≡ w
WalkTo X v (j ∷ js) w = (X.done v ≡ false) × Lowest (X.by v) j × WalkTo X (X.next j) js w

-- the paths ps have been drawn from f, and left is what is left
abbrev pub DrawnTo : {D : Type 0} → Net D → Marks → (ℕ → ℕ) → List (List ℕ) → (ℕ → ℕ) → Type 0
DrawnTo N m f [] left = (k : ℕ) → f k ≡ left k
DrawnTo N m f (p ∷ ps) left = (core : List ℕ) × Drawn N m f core p × DrawnTo N m (lowered f core) ps left
