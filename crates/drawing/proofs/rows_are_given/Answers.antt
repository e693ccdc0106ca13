use Rattle.drawing.proofs.Rows.{rows_are_given_lem}
use Rattle.drawing.proofs.rows_are_given.Goals as goal

pub returns : goal.returns
returns c = rows_are_given_lem
