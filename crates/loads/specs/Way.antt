-- The way that is read back from a node.
use Rattle.std.specs.Prelude.{suc, List}
use Rattle.flow.specs.Ways.{Step}
use Rattle.marks.specs.declared.mark.Step.{Step as StepMark}
use Rattle.marks.specs.Marks.{depth_of}
use Rattle.marks.specs.Shown.{shown}
use Rattle.loads.specs.declared.way.WayBack.{WayBack}
use Rattle.loads.specs.Steps.{over}
use Rattle.loads.specs.Walk.{steps_back, way_to}

abbrev pub flow_step : StepMark → Step
flow_step s = over s.place s.along

-- the steps that are left, the last one first
abbrev pub steps_left : WayBack → List Step
steps_left w = steps_back (shown w.arcs) w.nodes.now (suc (depth_of w.nodes.now w.at)) w.at

-- all of them from the start
abbrev pub way_of : WayBack → List Step
way_of w = way_to (shown w.arcs) w.nodes.now w.at
