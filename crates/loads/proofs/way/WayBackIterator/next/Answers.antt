use Rattle.std.proofs.Common.{rules, length, ap}
use Rattle.marks.specs.Shown.{shown}
use Rattle.loads.proofs.Walks.{step_first}
use Rattle.loads.proofs.way.WayBackIterator.next.Goals as goal

pub returns-clause-steps : goal.returns-clause-steps
returns-clause-steps c =
    let w = c.args.self.now in
    step_first (shown w.arcs) w.nodes.now w.back w.at c.step_ends.result.0 c.in_ok-self.field-0 c.in_ok-step.step c.in_ok-self.was c.in_ok-step.was
    c.step_ends.ensures.from

pub returns-clause-goes : goal.returns-clause-goes
returns-clause-goes c =
    let w = c.args.self.now in
    let one = step_first (shown w.arcs) w.nodes.now w.back w.at c.step_ends.result.0 c.in_ok-self.field-0 c.in_ok-step.step c.in_ok-self.was
    c.in_ok-step.was c.step_ends.ensures.from in
    let less = ap length one in
    search rules
