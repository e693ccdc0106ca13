use Rattle.drawing.proofs.Only.{list_one}
use Rattle.drawing.proofs.Alike.{same_leads}
use Rattle.drawing.proofs.one_list.Goals as goal

pub returns : goal.returns
returns g c = record { one = λ K N ps qs. list_one; same = same_leads }
