use Rattle.std.proofs.Common.{◌≡◌, ℕ, true, sym, subst}
use Rattle.std.proofs.lemmas.List.Elements.{All-push, All-same}
use Rattle.flow.specs.Ways.{step_from}
use Rattle.marks.specs.declared.arcs.Arcs.{Arcs}
use Rattle.marks.specs.Follow.{near_at, arcs_of}
use Rattle.marks.specs.Left.{left}
use Rattle.marks.specs.Links.{arc_at}
use Rattle.marks.specs.Marks.{load_of, reached_of}
use Rattle.marks.specs.Shown.{shown}
use Rattle.marks.proofs.Following.{arcs_each, arcs_all, passed_more, passed_all, passing}
use Rattle.loads.specs.Search.{Grown}
use Rattle.loads.specs.Steps.{over}
use Rattle.loads.proofs.Going.{moved, went_then}
use Rattle.loads.proofs.Searches.{Made, made_kept}
use Rattle.loads.proofs.search.Spread.follow.Goals as goal
use Rattle.loads.proofs.search.Spread.follow.Goals.{In-Some}

-- the arc at hand is one of v
at_hand : (c : In-Some) → (arc_at c.args.self.now.arcs.marks.now c.in-Some.place ≡ true)
    × (near_at c.args.self.now.arcs.marks.now c.args.along c.in-Some.place ≡ c.args.v)
at_hand c =
    let ps = c.args.self.now.arcs.marks.now in
    let along = c.args.along in
    let v = c.args.v in
    passing (λ k. (arc_at ps k ≡ true) × (near_at ps along k ≡ v)) (arcs_of ps along v) c.loop-place.yielded (left c.loop-place.place-iterator)
    (left c.next.new.self) c.in-Some.place c.loop-place.invariant.3 c.in-Some.ensures.steps (arcs_each ps along v)

pub step_over-requires : goal.step_over-requires
step_over-requires c =
    let k = c.in-Some.place in
    let along = c.args.along in
    let at = at_hand (goal.at.step_over-requires c).In-Some in
    let went = c.loop-place.invariant.2 in
    let ns = c.loop-place.self.nodes.now in
    let from = subst (λ (w : ℕ). reached_of ns w ≡ true) (sym at.1) (went.grown.kept c.args.v c.requires) in
    record {
      arc = subst (λ (A : Arcs). (shown A).arc k ≡ true) (sym went.arcs) at.0;
      from = subst (λ (A : Arcs). reached_of ns (step_from (shown A) (over k along)) ≡ true) (sym went.arcs) from;
    }

pub loop-place-preserved : goal.loop-place-preserved
loop-place-preserved c =
    let a = c.args.self.now in
    let b = c.loop-place.self in
    let d = c.step_over.new.self in
    let T = shown a.arcs in
    let f = load_of a.loads.now in
    let along = c.args.along in
    let k = c.in-Some.place in
    let ks = c.loop-place.yielded in
    let inv = c.loop-place.invariant in
    let step = c.step_over.ensures in
    let after = went_then a b d inv.2 step.went in
    let kept = moved a b inv.2 (λ A g low. Grown (shown A) g low b.nodes.now d.nodes.now b.count d.count) step.went.grown in
    let here = moved a b inv.2 (λ A g low. Made (shown A) g low d.nodes.now along k) step.reaches in (
      tt,
      tt,
      after,
      passed_more (arcs_of a.arcs.marks.now along c.args.v) ks (left c.loop-place.place-iterator) (left c.next.new.self) k inv.3 c.in-Some.ensures.steps,
      All-push (Made T f a.low d.nodes.now along) ks k (made_kept T f a.low b.nodes.now d.nodes.now along kept.kept ks inv.4) here,
    )

pub returns-clause-followed : goal.returns-clause-followed
returns-clause-followed c =
    let a = c.args.self.now in
    let along = c.args.along in
    let v = c.args.v in
    let ps = a.arcs.marks.now in
    let Q = Made (shown a.arcs) (load_of a.loads.now) a.low c.loop-place.self.nodes.now along in
    let inv = c.loop-place.invariant in
    let passed = passed_all (arcs_of ps along v) c.loop-place.yielded (left c.loop-place.place-iterator) inv.3 c.in-None.ensures.steps.0 in
    let all = All-same Q (arcs_of ps along v) c.loop-place.yielded (sym passed) inv.4 in
    λ k l _ x y e. arcs_all ps along v Q all k x y l e
