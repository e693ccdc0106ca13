use Rattle.std.proofs.Common.{◌≡◌, ℕ, ◌+◌, false, sym, refl, ◌∙◌, subst, arith}
use Rattle.flow.specs.Ways.{step_from, step_to}
use Rattle.flow.specs.Trails.{Opens}
use Rattle.marks.specs.Marks.{load_of, reached_of}
use Rattle.marks.specs.Shown.{shown}
use Rattle.marks.proofs.Fields.{shown_sound}
use Rattle.loads.specs.Steps.{over}
use Rattle.loads.specs.Search.{Reaches, Grown}
use Rattle.loads.proofs.Stepping.{step_inside}
use Rattle.loads.proofs.Searches.{queue_room, grown_step, step_new, links_stay}
use Rattle.loads.proofs.search.Spread.step_over.Goals as goal
use Rattle.loads.proofs.search.Spread.step_over.Goals.{After-reach}

pub reach-requires-clause-queue : goal.reach-requires-clause-queue
reach-requires-clause-queue c =
    let a = c.args.self.now in
    let T = shown a.arcs in
    let v = c.step_ends-u.result.1 in
    let inside = step_inside T (shown_sound a.arcs) (over c.args.step.place c.args.step.along) c.requires.arc in
    let none : reached_of a.nodes.now v ≡ false = sym c.is_some.ensures ∙ c.if-is_some.false in
    omega (arith, queue_room T a.nodes.now a.count v a.queued (omega (arith, inside.1)) none, a.sized)

-- the step leads out of what was reached, to its end
opens : (c : After-reach) → Opens (shown c.args.self.now.arcs) (load_of c.args.self.now.loads.now) c.args.self.now.low (reached_of c.args.self.now.nodes.now)
    (over c.args.step.place c.args.step.along)
opens c = record {
  arc = c.requires.arc;
  above = omega arith;
  from = c.requires.from;
  to = subst (λ (w : ℕ). reached_of c.args.self.now.nodes.now w ≡ false) c.step_ends-u.ensures.to (sym c.is_some.ensures ∙ c.if-is_some.false);
  free = c.is_free.ensures.only c.if-not-is_free.false;
}

reaches : (c : After-reach) → Reaches c.args.self.now.nodes.now c.reach.new.nodes (step_from (shown c.args.self.now.arcs) (over c.args.step.place c.args.step.along))
    (step_to (shown c.args.self.now.arcs) (over c.args.step.place c.args.step.along)) (over c.args.step.place c.args.step.along) c.args.self.now.count
reaches c =
    let ns = c.args.self.now.nodes.now in
    let ms = c.reach.new.nodes in
    let s = over c.args.step.place c.args.step.along in
    let i = c.args.self.now.count in
    subst (λ (w : ℕ). Reaches ns ms (step_from (shown c.args.self.now.arcs) s) w s i) c.step_ends-u.ensures.to
    (subst (λ (w : ℕ). Reaches ns ms w c.step_ends-u.result.1 s i) c.step_ends-u.ensures.from c.reach.ensures)

grown : (c : After-reach) → Grown (shown c.args.self.now.arcs) (load_of c.args.self.now.loads.now) c.args.self.now.low c.args.self.now.nodes.now c.reach.new.nodes
    c.args.self.now.count (c.args.self.now.count + 1)
grown c =
    let a = c.args.self.now in
    grown_step (shown a.arcs) (shown_sound a.arcs) (load_of a.loads.now) a.low a.nodes.now c.reach.new.nodes a.count
    (over c.args.step.place c.args.step.along) (opens c) (reaches c) c.reach.auto.nodes a.queued

pub invariant_of-self : goal.invariant_of-self
invariant_of-self c =
    let a = c.args.self.now in
    let g = grown c in
    record {
      sized = omega (arith, c.reach.auto.nodes, a.sized);
      loaded = a.loaded;
      linked = links_stay a.arcs.marks.now a.nodes.now c.reach.new.nodes g.long g.out g.into a.linked;
      queued = g.queued;
    }

pub returns-clause-went : goal.returns-clause-went
returns-clause-went c = record { arcs = refl; loads = refl; low = refl; lent = refl; grown = grown (goal.at.returns-clause-went c).After-reach }

pub returns-clause-reaches : goal.returns-clause-reaches
returns-clause-reaches c = λ l e.
    let a = c.args.self.now in
    let here = (goal.at.returns-clause-reaches c).After-reach in
    step_new (shown a.arcs) (shown_sound a.arcs) (load_of a.loads.now) a.low a.nodes.now c.reach.new.nodes a.count
    (over c.args.step.place c.args.step.along) (opens here) (reaches here)
