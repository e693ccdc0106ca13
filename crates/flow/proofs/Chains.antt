-- One more and one less along a chain, and how loads go on.
use Rattle.std.proofs.Common.{◌≡◌, ℕ, ◌+◌, ◌-◌, ◌≤◌, true, eqb, List, [], ◌∷◌, sym, refl, arith}
use Rattle.std.specs.List.{AllByRecursion}
use Rattle.std.proofs.lemmas.Bool.{eqb-true, eq-eqb, and_from, and_parts}
use Rattle.std.proofs.lemmas.Bool.Decides.{nat_tests}
use Rattle.wiring.specs.Lists.{count_on, lowered}
use Rattle.flow.specs.Table.{Table, Sound, begins, ends}
use Rattle.flow.specs.Loads.{out_of, into, total, Balanced}
use Rattle.flow.specs.Ways.{Way, along_count, Shifted, Falls}
use Rattle.flow.specs.Chains.{Chain, steps_along, raised}
use Rattle.flow.proofs.Sums.{unit_at, unit_off, where_some, where_term}
use Rattle.flow.proofs.Cuts.{arc_inside, none_into_source}
use Rattle.flow.proofs.Ways.{shift_level}
use Rattle.flow.proofs.Shifts.{none_against, falling_once}

-- a chain is a way along its arcs
pub chain_way : (T : Table) (u v : ℕ) (c : List ℕ) → Chain T u c v → Way T u (steps_along c) v
chain_way T u v [] e = e
chain_way T u v (k ∷ ks) C = (C.0, C.1, chain_way T (T.end k) v ks C.2)

chain_along : (c : List ℕ) → AllByRecursion (λ s. s.along ≡ true) (steps_along c)
chain_along [] = tt
chain_along (k ∷ ks) = (refl, chain_along ks)

pub chain_count : (c : List ℕ) (k : ℕ) → along_count (steps_along c) k ≡ count_on k c
chain_count [] k = refl
chain_count (j ∷ js) k = let turn : eqb j k ≡ eqb k j = grind (arith, nat_tests) in rw turn (omega (arith, chain_count js k))

-- f and g differ by a chain: one more along it
chain_shifted : (c : List ℕ) (f g : ℕ → ℕ) → ((k : ℕ) → g k ≡ f k + count_on k c) → Shifted 1 (steps_along c) f g
chain_shifted c f g h k = omega (arith, h k, chain_count c k, none_against (steps_along c) (chain_along c) k)

-- node numbers rise along a chain, so it has no place twice
pub chain_once : (T : Table) → Sound T → (u v : ℕ) (c : List ℕ) → Chain T u c v → (k : ℕ) → count_on k c ≤ 1
chain_once T S u v c C k =
    let once = falling_once T (λ n. T.nodes - n) u v (steps_along c) (chain_way T u v c C) (falls u c C) k in
    omega (arith, chain_count c k)
  where
    falls : (w : ℕ) (c : List ℕ) → Chain T w c v → AllByRecursion (Falls T (λ n. T.nodes - n)) (steps_along c)
    falls w [] e = tt
    falls w (j ∷ js) D = (omega (arith, S.up j D.0, S.within j D.0), falls (T.end j) js D.2)

-- more along a chain from source to sink: balance both ways, and the total rises by 1
chain_level : (T : Table) → Sound T → (c : List ℕ) → Chain T T.source c T.sink → (f g : ℕ → ℕ) → ((k : ℕ) → g k ≡ f k + count_on k c) →
    (Balanced T f → Balanced T g) × (Balanced T g → Balanced T f) × (total T g ≡ total T f + 1)
chain_level T S c C f g h = (
  (λ B v a b. let before = B v a b in (inner v a b).0 before),
  (λ B v a b. let after = B v a b in (inner v a b).1 after),
  (let level = shift_level T S T.source T.sink 1 (steps_along c) (chain_way T T.source T.sink c C) f g (chain_shifted c f g h) T.source in
      let z = unit_off T.sink T.source (λ e. S.apart (sym e)) in
      let y = unit_at T.source T.source refl in
      omega (arith, none_into_source T S f, none_into_source T S g)),
)
  where
    inner : (v : ℕ) → (v ≡ T.source → ⊥) → (v ≡ T.sink → ⊥) →
        (into T f v ≡ out_of T f v → into T g v ≡ out_of T g v) × (into T g v ≡ out_of T g v → into T f v ≡ out_of T f v)
    inner v a b =
        let level = shift_level T S T.source T.sink 1 (steps_along c) (chain_way T T.source T.sink c C) f g (chain_shifted c f g h) v in
        let z = unit_off T.sink v (λ e. b (sym e)) in
        let y = unit_off T.source v (λ e. a (sym e)) in
        ((λ e. omega arith), (λ e. omega arith))

pub raised_balanced : (T : Table) → Sound T → (c : List ℕ) → Chain T T.source c T.sink → (f : ℕ → ℕ) → Balanced T f →
    Balanced T (raised f c) × (total T (raised f c) ≡ total T f + 1)
raised_balanced T S c C f B = let both = chain_level T S c C f (raised f c) (λ k. refl) in (both.0 B, both.2)

pub lowered_balanced : (T : Table) → Sound T → (c : List ℕ) → Chain T T.source c T.sink → (f : ℕ → ℕ) → Balanced T f → ((k : ℕ) → count_on k c ≤ f k) →
    Balanced T (lowered f c) × (total T f ≡ total T (lowered f c) + 1)
lowered_balanced T S c C f B h = let both = chain_level T S c C (lowered f c) f (λ k. omega (arith, h k)) in (both.1 B, both.2)

-- behind an arc with something left that does not end at the sink another begins with something left
pub goes_on : (T : Table) → Sound T → (left : ℕ → ℕ) → Balanced T left → (k : ℕ) → T.arc k ≡ true → 1 ≤ left k → (T.end k ≡ T.sink → ⊥) →
    (j : ℕ) × (T.arc j ≡ true) × (T.begin j ≡ T.end k) × (1 ≤ left j)
goes_on T S left B k a l n =
    let here = where_term T.places k (ends T (T.end k)) left (arc_inside T S k a)
    (and_from (T.arc k) (eqb (T.end k) (T.end k)) a (eq-eqb (T.end k) (T.end k) refl)) in
    let same = B (T.end k) (S.from_source k a) n in
    let found = where_some T.places (begins T (T.end k)) left (omega arith) in
    let parts = and_parts (T.arc found.0) (eqb (T.begin found.0) (T.end k)) found.2 in
    (found.0, parts.0, eqb-true (T.begin found.0) (T.end k) parts.1, found.3)
