-- Steps and ends of a walk and of a drawing under way.
use Rattle.std.proofs.Common.{◌≡◌, ℕ, ◌+◌, true, false, List, [], ◌∷◌, ◌++◌, length, sym, refl, ap, ◌∙◌, subst, arith}
use mathlib.Core.Path.{fun_ext}
use Rattle.delay.specs.Kind.{Kind}
use Rattle.wiring.specs.Net.{Net, Sound}
use Rattle.wiring.specs.Lengths.{Marks}
use Rattle.wiring.specs.Loads.{total_load}
use Rattle.wiring.specs.Lists.{Lowest, lowered, Walker, Walk, Drawn, Draws}
use Rattle.drawing.specs.Progress.{WalkTo, DrawnTo}
use Rattle.drawing.proofs.Left.{Left, drawn_lowers}

pub walk_step : (X : Walker) (v w : ℕ) (js : List ℕ) (j : ℕ) → WalkTo X v js w → X.done w ≡ false → Lowest (X.by w) j →
    WalkTo X v (js ++ (j ∷ [])) (X.next j)
walk_step X v w [] j e n l = (ap X.done e ∙ n, subst (λ (x : ℕ). Lowest (X.by x) j) (sym e) l, refl)
walk_step X v w (i ∷ js) j x n l = (x.0, x.1, walk_step X (X.next i) w js j x.2 n l)

pub walk_done : (X : Walker) (v w : ℕ) (js : List ℕ) → WalkTo X v js w → X.done w ≡ true → Walk X v js w
walk_done X v w [] e d = (ap X.done e ∙ d, e)
walk_done X v w (i ∷ js) x d = (x.0, x.1, walk_done X (X.next i) w js x.2 d)

module _ {D : Type 0} (N : Net D) (m : Marks) where
  pub drawn_step : (f : ℕ → ℕ) (ps : List (List ℕ)) (left : ℕ → ℕ) (core p : List ℕ) → DrawnTo N m f ps left → Drawn N m left core p →
      DrawnTo N m f (ps ++ (p ∷ [])) (lowered left core)
  drawn_step f [] left core p w R =
      let e : left ≡ f = fun_ext (λ k. sym (w k)) in
      (core, subst (λ (g : ℕ → ℕ). Drawn N m g core p) e R, λ k. ap (λ (g : ℕ → ℕ). lowered g core k) (sym e))
  drawn_step f (q ∷ ps) left core p w R = (w.0, w.1, drawn_step (lowered f w.0) ps left core p w.2 R)

  pub drawn_done : (f : ℕ → ℕ) (ps : List (List ℕ)) (left : ℕ → ℕ) → DrawnTo N m f ps left → ((k : ℕ) → left k ≡ 0) → Draws N m f ps
  drawn_done f [] left w z = λ k. w k ∙ z k
  drawn_done f (q ∷ ps) left w z = (w.0, w.1, drawn_done (lowered f w.0) ps left w.2 z)

-- under way what is left stays balanced, and with each path the total falls by 1
pub drawn_balanced : {D : Type 0} {K : Kind D} {N : Net D} → Sound K N → (m : Marks) (f : ℕ → ℕ) (ps : List (List ℕ)) (left : ℕ → ℕ) → Left N m f →
    DrawnTo N m f ps left → Left N m left × (total_load N m f ≡ total_load N m left + length ps)
drawn_balanced {N = N} S m f [] left B w =
    let e : f ≡ left = fun_ext w in (subst (Left N m) e B, let t = ap (total_load N m) e in omega arith)
drawn_balanced {N = N} S m f (p ∷ ps) left B w =
    let b = drawn_lowers S m f w.0 p B w.1 in
    let r = drawn_balanced S m (lowered f w.0) ps left b.0 w.2 in
    (r.0, omega (arith, b.1, r.1))
