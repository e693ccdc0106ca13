-- Raising loads along chains, and the first loads.
use Rattle.std.proofs.Common.{◌≡◌, ℕ, ◌+◌, ◌-◌, ◌<◌, ◌≤◌, Bool, true, false, cond, eqb, List, [], ◌∷◌, ◌++◌, length, is_some, sym, refl, ap, ◌∙◌, subst, ⊎_elim, add-one, arith}
use mathlib.Core.Path.{fun_ext}
use mathlib.Core.Logic.{∥∥₁_elim}
use Rattle.std.proofs.Props.{props}
use Rattle.std.proofs.lemmas.Bool.{cases_Bool, eq-eqb}
use Rattle.wiring.proofs.Runs.{count_append}
use Rattle.flow.specs.Table.{Table, Sound, Joined, begins}
use Rattle.flow.specs.Loads.{Balanced, Loads, total}
use Rattle.flow.specs.Chains.{Chain, raised}
use Rattle.flow.specs.Ways.{step_from, step_to}
use Rattle.flow.proofs.Sums.{where_zero}
use Rattle.flow.proofs.Cuts.{at_most_total}
use Rattle.flow.proofs.Chains.{chain_once, raised_balanced}
use Rattle.flow.proofs.Exist.{Begun, begun_none, begun_raised, begun_kept, begun_all}
use Rattle.marks.specs.declared.arcs.Arcs.{Arcs}
use Rattle.marks.specs.declared.mark.Mark.{Mark}
use Rattle.marks.specs.Follow.{near_at}
use Rattle.marks.specs.Links.{arc_at, link_at, Linked}
use Rattle.marks.specs.Shown.{shown}
use Rattle.marks.proofs.Following.{head_some, linked_first}
use Rattle.loads.specs.Raise.{Raised, RaisedOn, RaisedThrough, far_end}
use Rattle.loads.specs.Steps.{over}

pub raise_le : (f : ℕ → ℕ) (j k : ℕ) → raised f (j ∷ []) k ≤ f k + 1
raise_le f j k = go (eqb k j)
  where
    go : (b : Bool) → f k + (cond b 1 0 + 0) ≤ f k + 1
    go true = omega arith
    go false = omega arith

chain_join : (T : Table) (u v w : ℕ) (a b : List ℕ) → Chain T u a v → Chain T v b w → Chain T u (a ++ b) w
chain_join T u v w [] b e C = subst (λ (x : ℕ). Chain T x b w) (sym e) C
chain_join T u v w (k ∷ a) b R C = (R.0, R.1, chain_join T (T.end k) v w a b R.2 C)

-- a chain followed from u, along its arcs or against them: no arc yet, and one arc more
pub raised_none : (T : Table) (f : ℕ → ℕ) (along : Bool) (u v : ℕ) → v ≡ u → RaisedOn T f f along u v
raised_none T f true u v e = record { chain = []; run = sym e; is = λ k. omega arith }
raised_none T f false u v e = record { chain = []; run = e; is = λ k. omega arith }

pub raised_more : (T : Table) (f g h : ℕ → ℕ) (along : Bool) (u v w j : ℕ) → T.arc j ≡ true → step_from T (over j along) ≡ v →
    w ≡ step_to T (over j along) → ((k : ℕ) → h k ≡ raised g (j ∷ []) k) → RaisedOn T f g along u v → RaisedOn T f h along u w
raised_more T f g h true u v w j a b e more r = record {
  chain = r.chain ++ (j ∷ []);
  run = chain_join T u v w r.chain (j ∷ []) r.run (a, b, sym e);
  is = λ k. omega (arith, more k, r.is k, count_append k r.chain (j ∷ []));
}
raised_more T f g h false u v w j a b e more r = record {
  chain = j ∷ r.chain;
  run = (a, sym e, subst (λ (x : ℕ). Chain T x r.chain u) (sym b) r.run);
  is = λ k. omega (arith, more k, r.is k);
}

-- no load is raised twice
pub raised_le : (T : Table) → Sound T → (f g : ℕ → ℕ) (along : Bool) (u v : ℕ) → RaisedOn T f g along u v → (k : ℕ) → g k ≤ f k + 1
raised_le T S f g true u v r k = omega (arith, r.is k, chain_once T S u v r.chain r.run k)
raised_le T S f g false u v r k = omega (arith, r.is k, chain_once T S v u r.chain r.run k)

-- from each arc a chain goes on, up to its far end
pub joined_on : (T : Table) → Joined T → (along : Bool) (i : ℕ) → T.arc i ≡ true → (step_to T (over i along) ≡ far_end T along → ⊥) →
    (j : ℕ) × (T.arc j ≡ true) × (step_from T (over j along) ≡ step_to T (over i along))
joined_on T J true i a n = J.ahead i a n
joined_on T J false i a n = J.behind i a n

-- so by the links the node where it comes to has a first arc
pub goes_on : (A : Arcs) (ns : List Mark) → Linked A.marks.now ns 0 → ∥ Joined (shown A) ∥₁ → (along : Bool) (i v : ℕ) → v < length ns →
    (shown A).arc i ≡ true → v ≡ step_to (shown A) (over i along) → (v ≡ far_end (shown A) along → ⊥) → is_some (link_at ns along v) ≡ true
goes_on A ns L J along i v l a to far = ∥∥₁_elim J (hlevel props)
    (λ j. let ps = A.marks.now in let next = joined_on (shown A) j along i a (λ e. far (to ∙ e)) in
    head_some (arc_at ps) (near_at ps along) v (link_at ns along v) (linked_first ps ns L along v l) next.0 next.1 (next.2 ∙ sym to))

-- how far it can still go on: less with each arc
abbrev pub still : Table → Bool → ℕ → ℕ
still T along v = cond along (T.nodes - v) v

pub still_less : (T : Table) → Sound T → (along : Bool) (v w j : ℕ) → T.arc j ≡ true → step_from T (over j along) ≡ v → w ≡ step_to T (over j along) →
    still T along w < still T along v
still_less T S true v w j a b e = omega (arith, S.up j a, S.within j a)
still_less T S false v w j a b e = omega (arith, S.up j a)

-- behind an arc and ahead of it: a chain through it from the source to the sink
pub raised_through : (T : Table) (f e g h : ℕ → ℕ) (k : ℕ) → T.arc k ≡ true → ((j : ℕ) → e j ≡ raised f (k ∷ []) j) →
    Raised T e g (T.end k) T.sink → Raised T g h T.source (T.begin k) → RaisedThrough T f h k
raised_through T f e g h k a one ahead behind = record {
  raised = record {
    chain = behind.chain ++ (k ∷ ahead.chain);
    run = chain_join T T.source (T.begin k) T.sink behind.chain (k ∷ ahead.chain) behind.run (a, refl, ahead.run);
    is = λ j. omega (arith, one j, ahead.is j, behind.is j, count_append j behind.chain (k ∷ ahead.chain));
  };
  through = omega (arith, ap (λ (b : Bool). cond {A = ℕ} b 1 0) (eq-eqb k k refl), count_append k behind.chain (k ∷ ahead.chain));
}

-- no load is above the total
pub load_le : (T : Table) → Sound T → (f : ℕ → ℕ) → Balanced T f → ((k : ℕ) → T.arc k ≡ false → f k ≡ 0) → (k : ℕ) → f k ≤ total T f
load_le T S f B none k = ⊎_elim (λ a. at_most_total T S f B k a) (λ a. omega (arith, none k a)) (cases_Bool (T.arc k))

-- the first loads: none, one place more, all; the total is at most the number of places that are done
pub begun_clear : (T : Table) (f : ℕ → ℕ) → ((k : ℕ) → f k ≡ 0) → Begun T f 0 × (total T f ≤ 0)
begun_clear T f h =
    let all = fun_ext h in
    let none = ap (total T) all ∙ where_zero T.places (begins T T.source) in
    (subst (λ (g : ℕ → ℕ). Begun T g 0) (sym all) (begun_none T), omega arith)

pub begun_through : (T : Table) → Sound T → (f g : ℕ → ℕ) (k : ℕ) → Begun T f k → total T f ≤ k → RaisedThrough T f g k →
    Begun T g (k + 1) × (total T g ≤ k + 1)
begun_through T S f g k B l r =
    let c = r.raised.chain in
    let same : g ≡ raised f c = fun_ext r.raised.is in
    let more = ap (total T) same ∙ (raised_balanced T S c r.raised.run f B.balanced).1 in
    let begun = subst (Begun T (raised f c)) (sym (add-one k)) (begun_raised T S f k B c r.raised.run r.through) in
    (subst (λ (h : ℕ → ℕ). Begun T h (k + 1)) (sym same) begun, omega arith)

pub begun_on : (T : Table) (f : ℕ → ℕ) (k : ℕ) → Begun T f k → total T f ≤ k → (T.arc k ≡ true → 1 ≤ f k) → Begun T f (k + 1) × (total T f ≤ k + 1)
begun_on T f k B l h = (subst (Begun T f) (sym (add-one k)) (begun_kept T f k B h), omega arith)

pub begun_end : (T : Table) → Sound T → (f : ℕ → ℕ) (k : ℕ) → k ≡ T.places → Begun T f k → Loads T f
begun_end T S f k e B = begun_all T S f (subst (Begun T f) e B)
