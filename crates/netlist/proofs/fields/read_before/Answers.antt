use Rattle.std.proofs.Common.{arith}
use Rattle.netlist.proofs.Splitting.{no_cut, number_cut}
use Rattle.netlist.proofs.fields.read_before.Goals as goal

pub returns-in_err-number : goal.returns-in_err-number
returns-in_err-number c = rw c.from_residual.ensures (λ n back l e. no_cut c.args.mark c.args.text.now _ _ c.in_err-number.ensures e)

pub returns-in_err-read_number : goal.returns-in_err-read_number
returns-in_err-read_number c =
    rw c.from_residual-in_err-read_number.ensures
    (λ n back l e. c.in_err-read_number.ensures.gives n l (number_cut c.args.mark n c.args.text.now _ _ _ l (λ h. omega arith) c.in_ok-number.ensures e).0)
