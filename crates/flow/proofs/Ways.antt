-- Shifting loads along a way.
use Rattle.std.proofs.Common.{◌≡◌, ℕ, ◌+◌, ◌*◌, Bool, true, false, cond, not, ◌&&◌, eqb, List, [], ◌∷◌, sym, refl, ap, arith}
use Rattle.wiring.specs.Loads.{sum_where}
use Rattle.flow.specs.Table.{Table, Sound, begins, ends}
use Rattle.flow.specs.Loads.{out_of, into, total, Balanced}
use Rattle.flow.specs.Ways.{Step, Way, step_to, along_count, against_count, Shifted}
use Rattle.flow.proofs.Sums.{unit_at, unit_off, where_add, where_cong, where_times, where_unit, where_zero}
use Rattle.flow.proofs.Cuts.{arc_inside, none_into_source}

-- along a way, what the steps bring to a node and take from it telescopes
way_level : (T : Table) → Sound T → (u v : ℕ) (ss : List Step) → Way T u ss v → (w : ℕ) →
    into T (along_count ss) w + out_of T (against_count ss) w + cond (eqb u w) 1 0 ≡ out_of T (along_count ss) w + into T (against_count ss) w + cond
    (eqb v w) 1 0
way_level T S u v [] e w =
    let ends_same = ap (λ (x : ℕ). cond {A = ℕ} (eqb x w) 1 0) e in
    let one = where_zero T.places (ends T w) in
    let two = where_zero T.places (begins T w) in
    omega arith
way_level T S u v (s ∷ ss) W w =
    let rest = way_level T S (step_to T s) v ss W.2 w in
    let n = T.places in
    let j = s.place in
    let inside = arc_inside T S j W.0 in
    let a = where_add n (ends T w) (λ k. cond (s.along && eqb j k) 1 0) (along_count ss) in
    let b = where_add n (begins T w) (λ k. cond (s.along && eqb j k) 1 0) (along_count ss) in
    let c = where_add n (ends T w) (λ k. cond (not s.along && eqb j k) 1 0) (against_count ss) in
    let d = where_add n (begins T w) (λ k. cond (not s.along && eqb j k) 1 0) (against_count ss) in
    let a' = where_unit n (ends T w) s.along j inside in
    let b' = where_unit n (begins T w) s.along j inside in
    let c' = where_unit n (ends T w) (not s.along) j inside in
    let d' = where_unit n (begins T w) (not s.along) j inside in
    let from = ap (λ (x : ℕ). cond {A = ℕ} (eqb x w) 1 0) W.1 in
    let here = at s.along (T.arc j) (T.begin j) (T.end j) W.0 in
    omega arith
  where
    at : (g a : Bool) (x y : ℕ) → a ≡ true →
        cond (g && (a && eqb y w)) 1 0 + cond (not g && (a && eqb x w)) 1 0 + cond (eqb (cond g x y) w) 1 0
        ≡ cond (g && (a && eqb x w)) 1 0 + cond (not g && (a && eqb y w)) 1 0 + cond (eqb (cond g y x) w) 1 0
    at true a x y e = rw e (omega arith)
    at false a x y e = rw e (omega arith)

-- a shift changes the balance at the two ends of its way alone
pub shift_level : (T : Table) → Sound T → (u v d : ℕ) (ss : List Step) → Way T u ss v → (f g : ℕ → ℕ) → Shifted d ss f g → (w : ℕ) →
    into T g w + out_of T f w + d * cond (eqb u w) 1 0 ≡ into T f w + out_of T g w + d * cond (eqb v w) 1 0
shift_level T S u v d ss W f g h w =
    let level = ap (λ (x : ℕ). d * x) (way_level T S u v ss W w) in
    let ins = part (ends T w) in
    let outs = part (begins T w) in
    omega arith
  where
    part : (P : ℕ → Bool) →
        sum_where T.places P g + d * sum_where T.places P (against_count ss) ≡ sum_where T.places P f + d * sum_where T.places P (along_count ss)
    part P =
        let a = where_add T.places P g (λ k. d * against_count ss k) in
        let b = where_add T.places P f (λ k. d * along_count ss k) in
        let c = where_times T.places P d (against_count ss) in
        let e = where_times T.places P d (along_count ss) in
        let same = where_cong T.places P (λ k. g k + d * against_count ss k) (λ k. f k + d * along_count ss k) h in
        omega arith

-- round a closed way everything stays balanced, and the total stays
pub shift_round : (T : Table) → Sound T → (u d : ℕ) (ss : List Step) → Way T u ss u → (f g : ℕ → ℕ) → Shifted d ss f g → Balanced T f →
    Balanced T g × (total T g ≡ total T f)
shift_round T S u d ss W f g h B = (
  (λ v a b. let level = shift_level T S u u d ss W f g h v in let before = B v a b in omega arith),
  (let level = shift_level T S u u d ss W f g h T.source in omega (arith, none_into_source T S f, none_into_source T S g)),
)

-- from the sink to the source: the total falls by d
pub shift_down : (T : Table) → Sound T → (d : ℕ) (ss : List Step) → Way T T.sink ss T.source → (f g : ℕ → ℕ) → Shifted d ss f g → Balanced T f →
    Balanced T g × (total T g + d ≡ total T f)
shift_down T S d ss W f g h B = (
  (λ v a b. let level = shift_level T S T.sink T.source d ss W f g h v in let before = B v a b in
      let z = ap (λ (x : ℕ). d * x) (unit_off T.sink v (λ e. b (sym e))) in let y = ap (λ (x : ℕ). d * x) (unit_off T.source v (λ e. a (sym e))) in
      omega arith),
  (let level = shift_level T S T.sink T.source d ss W f g h T.source in
      let z = ap (λ (x : ℕ). d * x) (unit_off T.sink T.source (λ e. S.apart (sym e))) in
      let y = ap (λ (x : ℕ). d * x) (unit_at T.source T.source refl) in
      omega (arith, none_into_source T S f, none_into_source T S g)),
)
