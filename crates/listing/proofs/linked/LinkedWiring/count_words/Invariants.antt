use Rattle.marks.specs.Marks.{load_of}
use Rattle.listing.specs.Shows.{types_in}
use Rattle.listing.proofs.Weights.{Summed}
use Rattle.listing.proofs.linked.LinkedWiring.count_words.Given as goal

abbrev pub invariant-loop-place : goal.invariant-loop-place
invariant-loop-place g l = Summed (g.W.Wiring.net l.self.wiring.now) (types_in l.self.links) (load_of l.left) l.place l.words
