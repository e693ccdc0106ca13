-- What an iterator over the arcs of a node has left.
use Rattle.std.specs.Prelude.{ℕ, List}
use Rattle.marks.specs.declared.follow.ArcsAt.{ArcsAt}
use Rattle.marks.specs.Follow.{arcs_from}

abbrev pub left : ArcsAt → List ℕ
left s = arcs_from s.places.now s.along s.next
