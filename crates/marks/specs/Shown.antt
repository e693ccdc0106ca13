-- The table of arcs that a view of a mark table shows.
use Rattle.flow.specs.Table.{Table}
use Rattle.marks.specs.declared.arcs.Arcs.{Arcs}
use Rattle.marks.specs.Marks.{table}

abbrev pub shown : Arcs → Table
shown a = table a.marks.now a.nodes a.source a.sink
