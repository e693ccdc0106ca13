use Rattle.std.proofs.Common.{◌-◌, ◌<◌, ◌∷◌, length, take, drop, sym, ap, ◌∙◌, arith, length-drop}
use Rattle.std.proofs.lemmas.List.{drop_all, take_rest}
use Rattle.netlist.specs.Lines.{lines_of}
use Rattle.netlist.proofs.Cutting.{line_cut, last_line, past_line}
use Rattle.netlist.proofs.lines.LineReader.next_line.Goals as goal

pub returns-in-Some-clause-gives : goal.returns-in-Some-clause-gives
returns-in-Some-clause-gives c =
    let bs = c.args.self.now.bytes.now in
    let i = c.args.self.now.at in
    let cut = c.in-Some.ensures in
    ap lines_of (sym (take_rest bs i)) ∙ line_cut _ _ _ cut ∙ ap (λ b. c.in-Some.line.now ∷ lines_of b) (sym (past_line bs _ _ _ i (take_rest bs i) cut))

pub returns-in-None-clause-gives : goal.returns-in-None-clause-gives
returns-in-None-clause-gives c =
    let bs = c.args.self.now.bytes.now in
    let i = c.args.self.now.at in
    let whole = take_rest bs i in
    let some : 0 < length (take (length bs - i) (drop i bs)) = rw whole (simp length-drop (omega arith)) in
    ap lines_of (sym whole) ∙ last_line _ some c.in-None.ensures ∙ ap (λ b. take (length bs - i) (drop i bs) ∷ lines_of b) (sym (drop_all (length bs) bs (omega arith)))
