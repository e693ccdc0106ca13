use Rattle.std.proofs.Common.{◌≡◌, ℕ, sym, subst, arith}
use Rattle.std.specs.List.{AllByRecursion}
use Rattle.flow.specs.Ways.{Once, Slack}
use Rattle.flow.specs.Trails.{Found}
use Rattle.flow.proofs.Trails.{slack_fits}
use Rattle.marks.specs.Marks.{load_of}
use Rattle.marks.specs.Shown.{shown}
use Rattle.loads.specs.Steps.{Spare}
use Rattle.loads.specs.Walk.{way_to}
use Rattle.loads.proofs.Walks.{leads_back, most_le, sought_way}
use Rattle.loads.proofs.shift.shift_most.Goals as goal
use Rattle.loads.proofs.shift.shift_most.Goals.{Start}

-- the way that the search found
way : (c : Start) → (w : Found (shown c.args.arcs) (load_of c.args.loads.now) c.requires.sought.0 c.requires.sought.1 c.args.to)
    × (w.steps ≡ way_to (shown c.args.arcs) c.args.nodes.now c.args.to)
way c =
    let s = c.requires.sought in
    sought_way (shown c.args.arcs) (load_of c.args.loads.now) s.0 s.1 c.args.to c.args.nodes.now s.2

pub invariant_of-way : goal.invariant_of-way
invariant_of-way c =
    let s = c.requires.sought in
    record { reached = s.2.target; back = leads_back (shown c.args.arcs) (load_of c.args.loads.now) s.0 s.1 c.args.to c.args.nodes.now s.2 }

pub slack-by-requires-clause-spare : goal.slack-by-requires-clause-spare
slack-by-requires-clause-spare c =
    let w = way (goal.at.slack-by-requires-clause-spare c).Start in
    subst (AllByRecursion (Spare (load_of c.args.loads.now))) w.1 w.0.free

pub shift-requires-clause-once : goal.shift-requires-clause-once
shift-requires-clause-once c = let w = way (goal.at.shift-requires-clause-once c).Start in subst Once w.1 w.0.once

pub shift-requires-clause-room : goal.shift-requires-clause-room
shift-requires-clause-room c = λ k.
    let f = load_of c.args.loads.now in
    omega (arith, c.requires.room k, most_le f c.args.most (way_to (shown c.args.arcs) c.args.nodes.now c.args.to) c.slack-by.result c.slack-by.ensures)

pub shift-requires-clause-slack : goal.shift-requires-clause-slack
shift-requires-clause-slack c =
    let f = load_of c.args.loads.now in
    let ss = way_to (shown c.args.arcs) c.args.nodes.now c.args.to in
    let w = way (goal.at.shift-requires-clause-slack c).Start in
    subst (λ (d : ℕ). AllByRecursion (Slack d f) ss) (sym c.slack-by.ensures)
    (slack_fits f c.args.most ss (subst (AllByRecursion (Spare f)) w.1 w.0.free))
