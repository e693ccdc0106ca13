use Rattle.std.proofs.Common.{◌≡◌, ◌-◌, ◌<◌, get_or, ap, ◌∙◌, arith}
use Rattle.lengths.proofs.Filling.{holds_from}
use Rattle.lengths.proofs.table.Lengths.turn_back.Goals as goal

pub returns-clause-filled : goal.returns-clause-filled
returns-clause-filled g c =
    let K = g.D.Delay.kind in let N = g.W.Wiring.net c.args.w.now in
    let n : c.nodes.result ≡ N.nodes = c.nodes.ensures in
    let ys = c.args.self.now.table.now in let zs = c.mirror_row.new.table in
    holds_from K N c.requires.sound g.met.D.Delay.laws zs ys c.requires.turned
    (λ v i. let j : v < c.nodes.result = omega arith in
    c.mirror_row.ensures.turned v K.zero j ∙ ap (λ m. get_or ys (m - 1 - v) K.zero) n)
