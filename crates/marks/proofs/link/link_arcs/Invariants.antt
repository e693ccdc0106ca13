use Rattle.marks.specs.Links.{Linked, ArcsKept}
use Rattle.marks.proofs.link.link_arcs.Given as goal

abbrev pub invariant-loop-k : goal.invariant-loop-k
invariant-loop-k l = ArcsKept l.initial.places l.places × Linked l.places l.nodes l.k
