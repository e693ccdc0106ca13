-- Reading a way back by the marks of a search.
use Rattle.std.proofs.Common.{get_or, is_some, Some, ◌≡◌, ℕ, zero, suc, ◌+◌, ◌-◌, ◌*◌, ◌<◌, ◌≤◌, min, Bool, true, false, cond, not, ◌&&◌, eqb, List, [], ◌∷◌, ◌++◌, sym, refl, ap, ◌∙◌, subst, ⊎_elim, append_assoc, arith}
use Rattle.std.specs.List.{AllByRecursion}
use Rattle.std.proofs.lemmas.List.{append-nil}
use Rattle.std.proofs.lemmas.Bool.{both_ways, cases_eq, eq-eqb, ne_eqb}
use Rattle.flow.specs.Table.{Table}
use Rattle.flow.specs.Ways.{Step, Way, step_from, Once, Shifted, along_count, against_count}
use Rattle.flow.specs.Trails.{Came, Found, slack_of}
use Rattle.flow.proofs.Trails.{Good, good_found, slack_le}
use Rattle.marks.specs.declared.mark.Mark.{Mark}
use Rattle.marks.specs.declared.mark.Reached.{Reached}
use Rattle.marks.specs.declared.mark.Step.{Step as StepMark}
use Rattle.marks.specs.Marks.{blank, step_in, via_in, reached_of, depth_of, via_of}
use Rattle.loads.specs.Steps.{over}
use Rattle.loads.specs.Search.{TrailOf, Sought, Stepped, stepped_in, stepped_of}
use Rattle.loads.specs.Walk.{LeadsBack, steps_back, turned, way_to}

-- what a search leaves leads back from every node but its start
pub leads_back : (T : Table) (f : ℕ → ℕ) (low u to : ℕ) (ns : List Mark) → Sought T f low u to ns true → LeadsBack T ns
leads_back T f low u to ns s v r e =
    let c = s.trail.came v r (λ q. both_ways (stepped_of ns v) (s.stepped v r ∙ ap not (eq-eqb v u q)) e) in
    (c.arc, c.from, c.deeper)

module _ (T : Table) (ns : List Mark) where
  -- the depth of a node is enough to come to the start
  pub back_enough : LeadsBack T ns → (n m v : ℕ) → reached_of ns v ≡ true → depth_of ns v < n → depth_of ns v < m →
      steps_back T ns n v ≡ steps_back T ns m v
  back_enough B zero m v r a b = absurd (omega arith)
  back_enough B (suc n) zero v r a b = absurd (omega arith)
  back_enough B (suc n) (suc m) v r a b = go (back_enough B n m) (stepped_of ns v) refl
    where
      from : ℕ
      from = step_from T (via_of ns v)

      go : ((w : ℕ) → reached_of ns w ≡ true → depth_of ns w < n → depth_of ns w < m → steps_back T ns n w ≡ steps_back T ns m w) →
          (t : Bool) → stepped_of ns v ≡ t → cond t (via_of ns v ∷ steps_back T ns n from) [] ≡ cond t (via_of ns v ∷ steps_back T ns m from) []
      go on true e = let c = B v r e in ap (λ (xs : List Step). via_of ns v ∷ xs) (on from c.1 (omega (arith, c.2)) (omega (arith, c.2)))
      go on false e = refl

  -- the step by which a search came to v is the first one back
  pub step_first : LeadsBack T ns → (v w : ℕ) (x : Reached) (s : StepMark) → (get_or ns v blank).reached ≡ Some x → x.by ≡ Some s →
      w ≡ step_from T (over s.place s.along) →
      steps_back T ns (suc (depth_of ns v)) v ≡ over s.place s.along ∷ steps_back T ns (suc (depth_of ns w)) w
  step_first B v w x s is by to =
      let stepped : stepped_of ns v ≡ true = ap stepped_in is ∙ ap is_some by in
      let via : via_of ns v ≡ over s.place s.along = ap via_in is ∙ ap step_in by in
      let back = B v (ap is_some is) stepped in
      let there = ap (step_from T) via ∙ sym to in
      let deep = ap (depth_of ns) there in
      let d = depth_of ns v in
      ap (λ (b : Bool). cond b (via_of ns v ∷ steps_back T ns d (step_from T (via_of ns v))) []) stepped
      ∙ ap (λ (t : Step). t ∷ steps_back T ns d (step_from T (via_of ns v))) via
      ∙ ap (λ (xs : List Step). over s.place s.along ∷ xs) (ap (steps_back T ns d) there
      ∙ back_enough B d (suc (depth_of ns w)) w (sym (ap (reached_of ns) there) ∙ back.1) (omega (arith, back.2)) (omega arith))

  -- every step back is over an arc
  pub back_arcs : LeadsBack T ns → (n v : ℕ) → reached_of ns v ≡ true → AllByRecursion (λ s. T.arc s.place ≡ true) (steps_back T ns n v)
  back_arcs B zero v r = tt
  back_arcs B (suc n) v r = go (back_arcs B n) (stepped_of ns v) refl
    where
      from : ℕ
      from = step_from T (via_of ns v)

      go : ((w : ℕ) → reached_of ns w ≡ true → AllByRecursion (λ s. T.arc s.place ≡ true) (steps_back T ns n w)) →
          (t : Bool) → stepped_of ns v ≡ t → AllByRecursion (λ s. T.arc s.place ≡ true) (cond t (via_of ns v ∷ steps_back T ns n from) [])
      go on true e = let c = B v r e in (c.0, on from c.1)
      go on false e = tt

-- the way that is read back from a node is one that loads can be shifted along
module _ (T : Table) (f : ℕ → ℕ) (low u to : ℕ) (ns : List Mark) (t : TrailOf T f low u ns) (st : Stepped u ns) where
  walk : (n v : ℕ) (ss : List Step) → reached_of ns v ≡ true → depth_of ns v < n → depth_of ns v ≤ depth_of ns to → Way T v ss to →
      AllByRecursion (Good T f low (depth_of ns) (depth_of ns to)) ss → (w : Found T f low u to) × (w.steps ≡ turned (steps_back T ns n v) ss)
  walk zero v ss r l m W G = absurd (omega arith)
  walk (suc n) v ss r l m W G = ⊎_elim
      (λ e. (good_found T f low u to (depth_of ns) ss (subst (λ (x : ℕ). Way T x ss to) e W) G, sym (ends (st v r ∙ ap not (eq-eqb v u e)))))
      (λ d. further (t.came v r d) (st v r ∙ ap not (ne_eqb v u d)) (walk n))
      (cases_eq v u)
    where
      s : Step
      s = via_of ns v

      from : ℕ
      from = step_from T s

      ends : stepped_of ns v ≡ false → turned (steps_back T ns (suc n) v) ss ≡ ss
      ends e = ap (λ (b : Bool). turned (cond b (s ∷ steps_back T ns n from) []) ss) e

      goes : stepped_of ns v ≡ true → turned (steps_back T ns (suc n) v) ss ≡ turned (steps_back T ns n from) (s ∷ ss)
      goes e = ap (λ (b : Bool). turned (cond b (s ∷ steps_back T ns n from) []) ss) e

      further : Came T f low (reached_of ns) (depth_of ns) s v → stepped_of ns v ≡ true →
          ((w : ℕ) (ts : List Step) → reached_of ns w ≡ true → depth_of ns w < n → depth_of ns w ≤ depth_of ns to → Way T w ts to →
          AllByRecursion (Good T f low (depth_of ns) (depth_of ns to)) ts → (w' : Found T f low u to) × (w'.steps ≡ turned (steps_back T ns n w) ts)) →
          (w : Found T f low u to) × (w.steps ≡ turned (steps_back T ns (suc n) v) ss)
      further c e on =
          let there = ap (depth_of ns) c.to in
          let less = c.deeper in
          let found = on from (s ∷ ss) c.from (omega arith) (omega arith)
          (c.arc, refl, subst (λ (x : ℕ). Way T x ss to) (sym c.to) W) ((c.above, c.free, omega arith, omega arith), G) in
          (found.0, found.1 ∙ sym (goes e))

  pub way_found : reached_of ns to ≡ true → (w : Found T f low u to) × (w.steps ≡ way_to T ns to)
  way_found r = walk (suc (depth_of ns to)) to [] r (omega arith) (omega arith) refl tt

-- the same, of all that a search leaves
pub sought_way : (T : Table) (f : ℕ → ℕ) (low u to : ℕ) (ns : List Mark) → Sought T f low u to ns true → (w : Found T f low u to) × (w.steps ≡ way_to T ns to)
sought_way T f low u to ns s = way_found T f low u to ns s.trail s.stepped s.target

-- steps turned round
turned_join : (xs ys ss : List Step) → turned (xs ++ ys) ss ≡ turned ys (turned xs ss)
turned_join [] ys ss = refl
turned_join (x ∷ xs) ys ss = turned_join xs ys (x ∷ ss)

turned_more : (xs : List Step) (s : Step) → turned (xs ++ s ∷ []) [] ≡ s ∷ turned xs []
turned_more xs s = turned_join xs (s ∷ []) []

all_turned : (P : Step → Type 0) (xs ss : List Step) → AllByRecursion P (turned xs ss) → AllByRecursion P xs × AllByRecursion P ss
all_turned P [] ss h = (tt, h)
all_turned P (x ∷ xs) ss h = let r = all_turned P xs (x ∷ ss) h in ((r.1.0, r.0), r.1.1)

passing : (P : Step → Type 0) (done : List Step) (s : Step) (more : List Step) → AllByRecursion P (done ++ s ∷ more) → P s
passing P [] s more h = h.0
passing P (x ∷ xs) s more h = passing P xs s more h.1

count_turned : (k : ℕ) (xs ss : List Step) → (along_count (turned xs ss) k ≡ along_count xs k + along_count ss k)
    × (against_count (turned xs ss) k ≡ against_count xs k + against_count ss k)
count_turned k [] ss = (omega arith, omega arith)
count_turned k (x ∷ xs) ss = let r = count_turned k xs (x ∷ ss) in (omega (arith, r.0), omega (arith, r.1))

-- of all steps back some are done and the others left; Q holds of those done, turned round
pub record WalkedTo (all left : List Step) (Q : List Step → Type 0) : Type 0 where
  pub done : List Step
  pub split : all ≡ done ++ left
  pub so : Q (turned done [])

pub walked_none : (all left : List Step) (Q : List Step → Type 0) → all ≡ left → Q [] → WalkedTo all left Q
walked_none all left Q e h = record { done = []; split = e; so = h }

pub walked_end : (all left : List Step) (Q : List Step → Type 0) → WalkedTo all left Q → left ≡ [] → Q (turned all [])
walked_end all left Q W e = subst (λ (xs : List Step). Q (turned xs [])) (sym (W.split ∙ ap (λ (xs : List Step). W.done ++ xs) e ∙ append-nil W.done)) W.so

module _ (all left more : List Step) (s : Step) (Q : List Step → Type 0) (W : WalkedTo all left Q) (e : left ≡ s ∷ more) where
  at_hand : all ≡ W.done ++ s ∷ more
  at_hand = W.split ∙ ap (λ (xs : List Step). W.done ++ xs) e

  pub walked_more : (R : List Step → Type 0) → ((ss : List Step) → Q ss → R (s ∷ ss)) → WalkedTo all more R
  walked_more R go = record {
    done = W.done ++ s ∷ [];
    split = at_hand ∙ sym (append_assoc W.done (s ∷ []) more);
    so = subst R (sym (turned_more W.done s)) (go (turned W.done []) W.so);
  }

  -- what holds of all steps back, or of all the way, holds of the step at hand
  pub back_at : (P : Step → Type 0) → AllByRecursion P all → P s
  back_at P h = passing P W.done s more (subst (AllByRecursion P) at_hand h)

  pub way_at : (P : Step → Type 0) → AllByRecursion P (turned all []) → P s
  way_at P h = back_at P (all_turned P all [] h).0

-- the load at the next step has not been changed yet, since the way has no place twice
pub unchanged : (all left more : List Step) (s : Step) (d : ℕ) (f g : ℕ → ℕ) → WalkedTo all left (λ ss. Shifted d ss f g) → left ≡ s ∷ more →
    Once (turned all []) → g s.place ≡ f s.place
unchanged all left more s d f g W e O =
    let ss = turned W.done [] in
    let k = s.place in
    let way = ap (λ (xs : List Step). turned xs []) (at_hand all left more s (λ ss. Shifted d ss f g) W e) ∙ turned_join W.done (s ∷ more) [] in
    let once = subst Once way O k in
    let split = count_turned k more (s ∷ ss) in
    let counts = none ss s.along (eqb k k) (eq-eqb k k refl) (omega (arith, split.0, split.1, once)) in
    let more_along = ap (λ (x : ℕ). d * x) counts.0 in
    let less = ap (λ (x : ℕ). d * x) counts.1 in
    omega (arith, W.so k)
  where
    none : (ss : List Step) (a b : Bool) → b ≡ true →
        cond (a && b) 1 0 + along_count ss s.place + (cond (not a && b) 1 0 + against_count ss s.place) ≤ 1 →
        (along_count ss s.place ≡ 0) × (against_count ss s.place ≡ 0)
    none ss true true e l = (omega arith, omega arith)
    none ss false true e l = (omega arith, omega arith)
    none ss a false e l = absurd (mathlib.Core.Bool.true≢false (sym e))

-- a step along an arc takes no slack; one against it leaves what its load can spare
pub slack_along : (f : ℕ → ℕ) (x : ℕ) (s : Step) (ss : List Step) → s.along ≡ true → slack_of f x (s ∷ ss) ≡ slack_of f x ss
slack_along f x s ss e = ap (λ (b : Bool). cond b (slack_of f x ss) (min (f s.place - 1) (slack_of f x ss))) e

pub slack_against : (f : ℕ → ℕ) (x : ℕ) (s : Step) (ss : List Step) → s.along ≡ false →
    slack_of f x (s ∷ ss) ≡ min (f s.place - 1) (slack_of f x ss)
slack_against f x s ss e = ap (λ (b : Bool). cond b (slack_of f x ss) (min (f s.place - 1) (slack_of f x ss))) e

-- no more is shifted than was asked
pub most_le : (f : ℕ → ℕ) (x : ℕ) (ss : List Step) (d : ℕ) → d ≡ slack_of f x ss → d ≤ x
most_le f x ss d e = omega (arith, slack_le f x ss)
