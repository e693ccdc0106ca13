-- The witness that a cut gives.
use Rattle.std.specs.Prelude.{ℕ, List}
use Rattle.cover.specs.Arcs.{listed}
use Rattle.flow.specs.Table.{Table, entering}
use Rattle.marks.specs.declared.mark.Mark.{Mark}
use Rattle.marks.specs.Marks.{reached_of}

-- the places with an arc that enters the cut of the nodes reached, ascending
abbrev pub entered : Table → List Mark → List ℕ
entered T ns = listed (entering T (reached_of ns)) T.places
