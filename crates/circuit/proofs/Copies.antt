-- Numbers 2v and 2v+1 for the two edges, and which leads of the circuit stand behind those of the spread.
use Rattle.std.proofs.Common.{◌≡◌, ℕ, ◌+◌, ◌*◌, ◌%◌, ◌≤◌, Bool, true, false, cond, eqb, sym, refl, ap, ◌∙◌, ⊎_elim, arith}
use Rattle.std.proofs.lemmas.Bool.{cases_Bool, cond-true, cond-false, eq-eqb, ne_eqb, eqb-true, eqb-false}
use Rattle.std.proofs.lemmas.Option.{none-some, same_Some}
use Rattle.wiring.specs.declared.Lead.{Lead}
use Rattle.delay.specs.Kind.{Kind}
use Rattle.wiring.specs.Net.{Net, Holds}
use Rattle.wiring.proofs.Ends.{lead_or_none}
use Rattle.circuit.specs.declared.Times.{Times}
use Rattle.circuit.specs.Spread.{Edge, rising, falling, reversed, carried, copy, half, edge_of, spread_lead, spread_place, spread_net}

pub copy_half : (v : ℕ) (e : Edge) → half (copy v e) ≡ v
copy_half v rising = omega arith
copy_half v falling = omega arith

pub copy_edge : (v : ℕ) (e : Edge) → edge_of (copy v e) ≡ e
copy_edge v rising = cond-true (eqb (2 * v % 2) 0) rising falling (eq-eqb (2 * v % 2) 0 (omega arith))
copy_edge v falling = cond-false (eqb ((2 * v + 1) % 2) 0) rising falling (ne_eqb ((2 * v + 1) % 2) 0 (omega arith))

pub copy_back : (n : ℕ) → copy (half n) (edge_of n) ≡ n
copy_back n = ⊎_elim
    (λ t. let m : n % 2 ≡ 0 = eqb-true (n % 2) 0 t in ap (copy (half n)) (cond-true (eqb (n % 2) 0) rising falling t) ∙ omega arith)
    (λ f. let m = eqb-false (n % 2) 0 f in ap (copy (half n)) (cond-false (eqb (n % 2) 0) rising falling f) ∙ omega arith)
    (cases_Bool (eqb (n % 2) 0))

-- a copy lies at 2v or just above
pub copy_bounds : (v : ℕ) (e : Edge) → (2 * v ≤ copy v e) × (copy v e ≤ 2 * v + 1)
copy_bounds v rising = (omega arith, omega arith)
copy_bounds v falling = (omega arith, omega arith)

reversed_twice : (e : Edge) → reversed (reversed e) ≡ e
reversed_twice rising = refl
reversed_twice falling = refl

-- a node that inverts an edge twice gives it back, and so does one that passes it
pub carried_twice : (sign : ℕ) (e : Edge) → carried sign (carried sign e) ≡ e
carried_twice sign e = go (eqb sign 1)
  where
    go : (b : Bool) → cond b (reversed (cond b (reversed e) e)) (cond b (reversed e) e) ≡ e
    go true = reversed_twice e
    go false = refl

-- the circuit lead behind a lead of the spread
pub record Behind (sign : ℕ → ℕ) {D : Type 0} (K : Kind D) (C : Net Times) (j : ℕ) (m : Lead D) : Type 0 where
  pub lead : Lead Times
  pub holds : Holds C (half j) lead
  pub is : m ≡ spread_lead sign K (edge_of j) lead

module _ (sign : ℕ → ℕ) {D : Type 0} (K : Kind D) (C : Net Times) where
  pub spread_holds : (k : ℕ) (l : Lead Times) (e : Edge) → Holds C k l → Holds (spread_net sign K C) (copy k e) (spread_lead sign K e l)
  spread_holds k l e h =
      ap (λ f. spread_place sign K f (C.at (half (copy k e)))) (copy_edge k e)
      ∙ ap (spread_place sign K e) (ap C.at (copy_half k e) ∙ h)

  pub spread_held : (j : ℕ) (m : Lead D) → Holds (spread_net sign K C) j m → Behind sign K C j m
  spread_held j m h = let place = spread_place sign K (edge_of j) in ⊎_elim
      (λ l. record { lead = l.0; holds = l.1; is = same_Some m (spread_lead sign K (edge_of j) l.0) (sym h ∙ ap place l.1) })
      (λ n. absurd (none-some m (sym (ap place n) ∙ h)))
      (lead_or_none C (half j))
