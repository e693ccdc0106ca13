use Rattle.std.proofs.Common.{sym, ap, ◌∙◌, arith}
use Rattle.wiring.specs.Lengths.{marks_of}
use Rattle.lengths.specs.Tables.{entry}
use Rattle.cover.proofs.Arcs.{arcs_sound}
use Rattle.filling.proofs.Ending.{node_links}
use Rattle.filling.proofs.ends.link_ends.Goals as goal

pub fill_arcs-requires-clause-links : goal.fill_arcs-requires-clause-links
fill_arcs-requires-clause-links g c =
    let N = g.W.Wiring.net c.args.w.now in
    node_links N c.args.places.now c.args.nodes.now c.requires.linked.leads c.requires.linked.linked

pub link_arcs-requires-clause-within : goal.link_arcs-requires-clause-within
link_arcs-requires-clause-within g c =
    let K = g.D.Delay.kind in let N = g.W.Wiring.net c.args.w.now in
    let to = entry K c.args.lengths.now.to.table.now in let from = entry K c.args.lengths.now.from.table.now in
    let H = c.fill_arcs.ensures.arcs in
    let T = arcs_sound c.requires.filled.sound (marks_of K N to from) in
    λ k a.
    let arc = sym (ap (λ f. f k) H.arc) ∙ a in
    let b = ap (λ f. f k) H.begin in let e = ap (λ f. f k) H.end in
    (omega (arith, T.up k arc, T.within k arc, c.requires.linked.nodes), omega (arith, T.within k arc, c.requires.linked.nodes))
