use Rattle.netlist.proofs.Unique.{exact_place}
use Rattle.netlist.proofs.fields.read_place.Goals as goal

pub returns-in_ok-read_wire-in_default : goal.returns-in_ok-read_wire-in_default
returns-in_ok-read_wire-in_default c = exact_place c.args.kind c.args.line.now _ c.in_ok-read_wire-in_default.ensures
