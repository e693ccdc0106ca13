use Rattle.std.proofs.Common.{◌≡◌, ◌-◌, List, length, sym, ap, subst, arith}
use Rattle.wiring.specs.Lengths.{Marks, Types, marks_of}
use Rattle.wiring.specs.Loads.{Best as BestLoads}
use Rattle.wiring.proofs.Types.{types_by_tables}
use Rattle.lengths.specs.Tables.{entry}
use Rattle.lengths.proofs.Asking.{tables}
use Rattle.flow.specs.Table.{Table, Joined}
use Rattle.flow.specs.Loads.{Best}
use Rattle.marks.specs.declared.mark.Mark.{Mark}
use Rattle.marks.specs.Marks.{classes, load_of}
use Rattle.cover.proofs.Arcs.{arcs_joined, arcs_to_best}
use Rattle.filling.specs.Ends.{HoldsArcs}
use Rattle.chooser.proofs.Shown.{shown_arcs, arcs_right}
use Rattle.chooser.proofs.best.find_loads.Goals as goal

pub balance-requires-clause-sound : goal.balance-requires-clause-sound
balance-requires-clause-sound g c =
    let K = g.D.Delay.kind in let N = g.W.Wiring.net c.args.w.now in let t = c.prepare.new.self in
    let n = c.prepare.ensures.measured.fits.nodes in
    arcs_right c.requires.sound c.requires.two (marks_of K N (entry K t.lengths.now.to.table.now) (entry K t.lengths.now.from.table.now)) t.places.now
    c.prepare.ensures.arcs (length t.nodes.now) (length t.nodes.now - 1) n (ap (λ k. k - 1) n)

pub balance-requires-clause-joined : goal.balance-requires-clause-joined
balance-requires-clause-joined g c =
    let K = g.D.Delay.kind in let L = g.met.D.Delay.laws in let N = g.W.Wiring.net c.args.w.now in let t = c.prepare.new.self in
    let m : Marks = marks_of K N (entry K t.lengths.now.to.table.now) (entry K t.lengths.now.from.table.now) in
    let M = c.prepare.ensures.measured in
    let W = tables K L N t.lengths.now.to.table.now t.lengths.now.from.table.now M.filled in
    let n = M.fits.nodes in
    subst Joined (sym (shown_arcs c.requires.sound c.requires.two m t.places.now c.prepare.ensures.arcs (length t.nodes.now) (length t.nodes.now - 1) n (ap (λ k. k - 1) n)))
    (arcs_joined L c.requires.sound W (types_by_tables L c.requires.sound W))

pub returns-clause-ready : goal.returns-clause-ready
returns-clause-ready g c =
    let K = g.D.Delay.kind in let L = g.met.D.Delay.laws in let N = g.W.Wiring.net c.args.w.now in let t = c.prepare.new.self in
    let m : Marks = marks_of K N (entry K t.lengths.now.to.table.now) (entry K t.lengths.now.from.table.now) in
    let P = c.prepare.ensures in let B = c.balance.ensures in let ps = c.balance.new.places in let xs = c.balance.new.loads in
    let n : length c.balance.new.nodes ≡ N.nodes = omega (arith, P.measured.fits.nodes) in
    let arcs = subst (λ (qs : List Mark). HoldsArcs N m qs) (sym B.places) P.arcs in
    let found : BestLoads N m (load_of xs) =
    arcs_to_best c.requires.sound m (load_of xs)
    (subst (λ (T : Table). Best T (load_of xs))
    (shown_arcs c.requires.sound c.requires.two m ps arcs (length c.balance.new.nodes) (length c.balance.new.nodes - 1) n (ap (λ k. k - 1) n)) B.best) in
    let typed : m ≡ classes ps = sym arcs.types in
    let W = tables K L N t.lengths.now.to.table.now t.lengths.now.from.table.now P.measured.filled in
    record {
      sound = c.requires.sound;
      two = c.requires.two;
      nodes = n;
      loads = omega (arith, c.balance.auto.loads, c.requires.loads);
      types = subst (Types K N) typed (types_by_tables L c.requires.sound W);
      arcs = subst (λ (x : Marks). HoldsArcs N x ps) typed arcs;
      linked = B.linked;
      best = subst (λ (x : Marks). BestLoads N x (load_of xs)) typed found;
    }
