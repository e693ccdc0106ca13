-- When shifted loads are loads.
use Rattle.std.proofs.Common.{◌≡◌, ℕ, ◌+◌, ◌*◌, ◌<◌, ◌≤◌, Bool, true, false, cond, not, ◌&&◌, eqb, ◌⊎◌, List, [], ◌∷◌, sym, refl, ap, ◌∙◌, subst, inl, inr, ⊎_elim, arith}
use Rattle.std.specs.List.{AllByRecursion}
use Rattle.std.proofs.lemmas.Bool.{cases_lt, both_ways, eqb-true, eq-eqb, ne_eqb}
use Rattle.std.proofs.lemmas.List.Elements.{All-from_recursion, recursion_from_All, All-weaker}
use Rattle.flow.specs.Table.{Table, Sound}
use Rattle.flow.specs.Loads.{total, Loads, Balanced}
use Rattle.flow.specs.Ways.{Step, Way, step_from, step_to, along_count, against_count, Shifted, shifted, Once, Slack, Falls, back}
use Rattle.flow.proofs.Ways.{shift_round, shift_down}

-- what holds of each step, and so does what follows from it
pub each_weaker : (P Q : Step → Type 0) → ((s : Step) → P s → Q s) → (ss : List Step) → AllByRecursion P ss → AllByRecursion Q ss
each_weaker P Q f ss h = recursion_from_All Q ss (All-weaker P Q f ss (All-from_recursion P ss h))

-- a way steps on arcs only
way_arcs : (T : Table) (u v : ℕ) (ss : List Step) → Way T u ss v → AllByRecursion (λ s. T.arc s.place ≡ true) ss
way_arcs T u v [] e = tt
way_arcs T u v (s ∷ ss) W = (W.0, way_arcs T (step_to T s) v ss W.2)

-- a place that no step has is not counted
not_counted : (ss : List Step) (k : ℕ) → AllByRecursion (λ s. s.place ≡ k → ⊥) ss → (along_count ss k ≡ 0) × (against_count ss k ≡ 0)
not_counted [] k h = (refl, refl)
not_counted (s ∷ ss) k h =
    let rest = not_counted ss k h.1 in
    let other = ne_eqb s.place k h.0 in
    (one s.along (eqb s.place k) other (along_count ss k) rest.0, one (not s.along) (eqb s.place k) other (against_count ss k) rest.1)
  where
    one : (a b : Bool) → b ≡ false → (x : ℕ) → x ≡ 0 → cond (a && b) 1 0 + x ≡ 0
    one true b e x z = rw e (omega arith)
    one false b e x z = omega arith

-- a vacant place is not counted on a way
pub vacant_not_counted : (T : Table) (u v : ℕ) (ss : List Step) → Way T u ss v → (k : ℕ) → T.arc k ≡ false → (along_count ss k ≡ 0) × (against_count ss k ≡ 0)
vacant_not_counted T u v ss W k e =
    not_counted ss k (each_weaker (λ s. T.arc s.place ≡ true) (λ s. s.place ≡ k → ⊥)
    (λ s a q. both_ways (T.arc k) e (subst (λ (x : ℕ). T.arc x ≡ true) q a)) ss (way_arcs T u v ss W))

-- where a step goes against k there is slack
slack_at : (d : ℕ) (f : ℕ → ℕ) (ss : List Step) → AllByRecursion (Slack d f) ss → (k : ℕ) → 1 ≤ against_count ss k → d + 1 ≤ f k
slack_at d f [] h k l = absurd (omega arith)
slack_at d f (s ∷ ss) h k l = go s.along (eqb s.place k) refl refl l (slack_at d f ss h.1 k)
  where
    go : (a b : Bool) → s.along ≡ a → eqb s.place k ≡ b → 1 ≤ cond (not a && b) 1 0 + against_count ss k → (1 ≤ against_count ss k → d + 1 ≤ f k) →
        d + 1 ≤ f k
    go true b p q m later = later (omega arith)
    go false true p q m later = subst (λ (x : ℕ). d + 1 ≤ f x) (eqb-true s.place k q) (h.0 p)
    go false false p q m later = later (omega arith)

-- so d times the steps against k leaves at least 1 there, if there was something
slack_left : (d : ℕ) (ss : List Step) (f : ℕ → ℕ) → Once ss → AllByRecursion (Slack d f) ss → (k : ℕ) →
    (d * against_count ss k ≡ 0) ⊎ (d * against_count ss k + 1 ≤ f k)
slack_left d ss f o a k = ⊎_elim
    (λ (m : against_count ss k < 1). let none : against_count ss k ≡ 0 = omega arith in inl (rw none (omega arith)))
    (λ (m : 1 ≤ against_count ss k). let one : against_count ss k ≡ 1 = omega (arith, o k) in inr (rw one (omega (arith, slack_at d f ss a k m))))
    (cases_lt (against_count ss k) 1)

-- loads stay at least 1
shift_arcs : (d : ℕ) (ss : List Step) (f g : ℕ → ℕ) → Shifted d ss f g → Once ss → AllByRecursion (Slack d f) ss → (k : ℕ) → 1 ≤ f k → 1 ≤ g k
shift_arcs d ss f g h o a k l = ⊎_elim (λ e. omega (arith, h k)) (λ m. omega (arith, h k)) (slack_left d ss f o a k)

-- a place that is not counted keeps its load, and so does one that is not stepped
counted_keeps : (d : ℕ) (ss : List Step) (f g : ℕ → ℕ) → Shifted d ss f g → (k : ℕ) → (along_count ss k ≡ 0) × (against_count ss k ≡ 0) → g k ≡ f k
counted_keeps d ss f g h k nowhere = omega (arith, h k, ap (λ (x : ℕ). d * x) nowhere.0, ap (λ (x : ℕ). d * x) nowhere.1)

pub shift_keeps : (d : ℕ) (ss : List Step) (f g : ℕ → ℕ) → Shifted d ss f g → (k : ℕ) → AllByRecursion (λ s. s.place ≡ k → ⊥) ss → g k ≡ f k
shift_keeps d ss f g h k a = counted_keeps d ss f g h k (not_counted ss k a)

-- with slack, what is shifted stays loads, if it stays balanced
loads_shifted : (T : Table) (u v d : ℕ) (ss : List Step) → Way T u ss v → (f g : ℕ → ℕ) → Shifted d ss f g → Once ss → AllByRecursion (Slack d f) ss →
    Loads T f → Balanced T g → Loads T g
loads_shifted T u v d ss W f g h o a L B = record {
  arcs = λ k e. shift_arcs d ss f g h o a k (L.arcs k e);
  vacant = λ k e. counted_keeps d ss f g h k (vacant_not_counted T u v ss W k e) ∙ L.vacant k e;
  balanced = B;
}

-- round a closed way the total stays
loads_round : (T : Table) → Sound T → (u d : ℕ) (ss : List Step) → Way T u ss u → (f g : ℕ → ℕ) → Shifted d ss f g → Once ss → AllByRecursion (Slack d f) ss →
    Loads T f → Loads T g × (total T g ≡ total T f)
loads_round T S u d ss W f g h o a L =
    let both = shift_round T S u d ss W f g h L.balanced in (loads_shifted T u u d ss W f g h o a L both.0, both.1)

-- from the sink to the source the total falls by d
pub loads_down : (T : Table) → Sound T → (d : ℕ) (ss : List Step) → Way T T.sink ss T.source → (f g : ℕ → ℕ) → Shifted d ss f g → Once ss →
    AllByRecursion (Slack d f) ss → Loads T f → Loads T g × (total T g + d ≡ total T f)
loads_down T S d ss W f g h o a L =
    let both = shift_down T S d ss W f g h L.balanced in (loads_shifted T T.sink T.source d ss W f g h o a L both.0, both.1)

-- steps over places above k step neither on k nor below it
none_upto : (k j : ℕ) (ss : List Step) → j ≤ k → AllByRecursion (λ s. k < s.place) ss → AllByRecursion (λ s. s.place ≡ j → ⊥) ss
none_upto k j ss i = each_weaker (λ s. k < s.place) (λ s. s.place ≡ j → ⊥) (λ s m e. omega arith) ss

-- one more step, below all the others
pub once_more : (k : ℕ) (ss : List Step) → Once ss → AllByRecursion (λ s. k < s.place) ss → Once (back k ∷ ss)
once_more k ss o above j = go (eqb k j) refl
  where
    nowhere : (along_count ss k ≡ 0) × (against_count ss k ≡ 0)
    nowhere = not_counted ss k (none_upto k k ss (omega arith) above)

    go : (b : Bool) → eqb k j ≡ b → 0 + along_count ss j + (cond b 1 0 + against_count ss j) ≤ 1
    go true q = subst (λ (x : ℕ). 0 + along_count ss x + (1 + against_count ss x) ≤ 1) (eqb-true k j q) (omega (arith, nowhere))
    go false q = omega (arith, o j)

-- the arc k lowered by d, and d more along a way from its begin to its end: over places above k, with slack.
-- Loads stay loads, the total and what stands below k stay, and k falls by d
pub loads_lowered : (T : Table) → Sound T → (k d : ℕ) (ss : List Step) → T.arc k ≡ true → Way T (T.begin k) ss (T.end k) → (f g : ℕ → ℕ) →
    Shifted d (back k ∷ ss) f g → Once ss → AllByRecursion (Slack d f) ss → AllByRecursion (λ s. k < s.place) ss → d + 1 ≤ f k → Loads T f →
    Loads T g × (total T g ≡ total T f) × ((j : ℕ) → j < k → g j ≡ f j) × (g k + d ≡ f k)
loads_lowered T S k d ss a W f g h o sl above room L =
    let closed = loads_round T S (T.end k) d (back k ∷ ss) (a, refl, W) f g h (once_more k ss o above) ((λ e. room), sl) L in (
      closed.0,
      closed.1,
      (λ j l. shift_keeps d (back k ∷ ss) f g h j ((λ e. omega arith), none_upto k j ss (omega arith) above)),
      at_k,
    )
  where
    at_k : g k + d ≡ f k
    at_k =
        let nowhere = not_counted ss k (none_upto k k ss (omega arith) above) in
        let here = ap (λ (b : Bool). d * (cond b 1 0 + against_count ss k)) (eq-eqb k k refl) in
        let none = ap (λ (x : ℕ). d * x) nowhere.0 in
        let no_more = ap (λ (x : ℕ). d * x) nowhere.1 in
        omega (arith, h k)

-- what the shift computes, where it does not fall below zero
pub shifted_is : (d : ℕ) (ss : List Step) (f : ℕ → ℕ) → ((k : ℕ) → d * against_count ss k ≤ f k + d * along_count ss k) → Shifted d ss f (shifted d ss f)
shifted_is d ss f h k = omega (arith, h k)

pub slack_enough : (d : ℕ) (ss : List Step) (f : ℕ → ℕ) → Once ss → AllByRecursion (Slack d f) ss → (k : ℕ) → d * against_count ss k ≤ f k + d * along_count ss k
slack_enough d ss f o a k = ⊎_elim (λ e. omega arith) (λ m. omega arith) (slack_left d ss f o a k)

-- on a way on which a number of the nodes falls, no place is stepped twice
falling_from : (T : Table) (rank : ℕ → ℕ) (u v : ℕ) (ss : List Step) → Way T u ss v → AllByRecursion (Falls T rank) ss →
    AllByRecursion (λ s. Falls T rank s × (rank (step_from T s) ≤ rank u)) ss
falling_from T rank u v [] W h = tt
falling_from T rank u v (s ∷ ss) W h =
    let start = ap rank W.1 in
    let less = h.0 in
    let rest = falling_from T rank (step_to T s) v ss W.2 h.1 in (
      (less, omega arith),
      each_weaker (λ r. Falls T rank r × (rank (step_from T r) ≤ rank (step_to T s))) (λ r. Falls T rank r × (rank (step_from T r) ≤ rank u))
          (λ r l. (l.0, omega arith)) ss rest,
    )

pub falling_once : (T : Table) (rank : ℕ → ℕ) (u v : ℕ) (ss : List Step) → Way T u ss v → AllByRecursion (Falls T rank) ss → Once ss
falling_once T rank u v [] W h k = omega arith
falling_once T rank u v (s ∷ ss) W h k = go (falling_once T rank (step_to T s) v ss W.2 h.1 k) s.along (eqb s.place k) refl
  where
    later : AllByRecursion (λ r. Falls T rank r × (rank (step_from T r) ≤ rank (step_to T s))) ss
    later = falling_from T rank (step_to T s) v ss W.2 h.1

    differ : (r : Step) → Falls T rank r × (rank (step_from T r) ≤ rank (step_to T s)) → r.place ≡ s.place → ⊥
    differ r l e = clash s.along r.along s.place r.place e h.0 l.0 l.1
      where
        clash : (a b : Bool) (i j : ℕ) → j ≡ i → rank (cond a (T.end i) (T.begin i)) < rank (cond a (T.begin i) (T.end i)) →
            rank (cond b (T.end j) (T.begin j)) < rank (cond b (T.begin j) (T.end j)) →
            rank (cond b (T.begin j) (T.end j)) ≤ rank (cond a (T.end i) (T.begin i)) → ⊥
        clash a b i j q x y z = sides a b (ap (λ (n : ℕ). rank (T.begin n)) q) (ap (λ (n : ℕ). rank (T.end n)) q) x y z
          where
            sides : (a b : Bool) → rank (T.begin j) ≡ rank (T.begin i) → rank (T.end j) ≡ rank (T.end i) →
                rank (cond a (T.end i) (T.begin i)) < rank (cond a (T.begin i) (T.end i)) →
                rank (cond b (T.end j) (T.begin j)) < rank (cond b (T.begin j) (T.end j)) →
                rank (cond b (T.begin j) (T.end j)) ≤ rank (cond a (T.end i) (T.begin i)) → ⊥
            sides true true p q x y z = omega arith
            sides true false p q x y z = omega arith
            sides false true p q x y z = omega arith
            sides false false p q x y z = omega arith

    nowhere : eqb s.place k ≡ true → (along_count ss k ≡ 0) × (against_count ss k ≡ 0)
    nowhere q = not_counted ss k (each_weaker (λ r. Falls T rank r × (rank (step_from T r) ≤ rank (step_to T s))) (λ r. r.place ≡ k → ⊥)
        (λ r l e. differ r l (e ∙ sym (eqb-true s.place k q))) ss later)

    go : along_count ss k + against_count ss k ≤ 1 → (a b : Bool) → eqb s.place k ≡ b →
        cond (a && b) 1 0 + along_count ss k + (cond (not a && b) 1 0 + against_count ss k) ≤ 1
    go rest true true q = omega (arith, nowhere q)
    go rest false true q = omega (arith, nowhere q)
    go rest true false q = omega arith
    go rest false false q = omega arith

-- steps along only
pub none_against : (ss : List Step) → AllByRecursion (λ s. s.along ≡ true) ss → (k : ℕ) → against_count ss k ≡ 0
none_against [] h k = refl
none_against (s ∷ ss) h k =
    let rest = none_against ss h.1 k in
    let here = ap (λ (b : Bool). cond {A = ℕ} (not b && eqb s.place k) 1 0) h.0 in
    omega arith
