use Rattle.std.proofs.Common.{◌-◌, ◌<◌, sym, ap, ◌∙◌, subst, arith}
use Rattle.wiring.specs.Lengths.{marks_of}
use Rattle.wiring.proofs.Types.{types_by_tables}
use Rattle.lengths.specs.Tables.{entry}
use Rattle.lengths.proofs.Asking.{tables}
use Rattle.flow.specs.Table.{Table}
use Rattle.flow.specs.Loads.{total}
use Rattle.marks.specs.Marks.{classes, load_of, ArcsSound}
use Rattle.cover.proofs.Arcs.{same_total}
use Rattle.chooser.proofs.Bare.{bare_best, bare_total}
use Rattle.chooser.proofs.Shown.{ready_sound, shown_arcs}
use Rattle.chooser.proofs.best.settle_loads.Goals as goal

pub returns-then-nodes-lt-FEWEST_NODES-clause-best : goal.returns-then-nodes-lt-FEWEST_NODES-clause-best
returns-then-nodes-lt-FEWEST_NODES-clause-best g c =
    let K = g.D.Delay.kind in let L = g.met.D.Delay.laws in let N = g.W.Wiring.net c.args.w.now in let t = c.measure.new.self in
    let to = t.lengths.now.to.table.now in let from = t.lengths.now.from.table.now in let F = c.measure.ensures.measured.filled in
    let few : N.nodes < 2 = omega (arith, c.nodes-2.ensures, c.if-nodes-lt-FEWEST_NODES.true) in
    let m = marks_of K N (entry K to) (entry K from) in
    let xs = c.clear.new.loads in
    record {
      marks = m;
      types = types_by_tables L c.requires.sound (tables K L N to from F);
      best = bare_best c.requires.sound few m (load_of xs) c.clear.ensures;
      total_is = sym (bare_total c.requires.sound few m (load_of xs) c.clear.ensures);
    }

pub arcs_of-requires-clause-sound : goal.arcs_of-requires-clause-sound
arcs_of-requires-clause-sound g c =
    let R = c.find_loads.ensures.ready in
    subst (λ n. ArcsSound c.find_loads.new.tables.places.now n 0 (n - 1)) (R.nodes ∙ sym c.nodes-3.ensures) (ready_sound R)

pub returns-clause-best : goal.returns-clause-best
returns-clause-best g c =
    let R = c.find_loads.ensures.ready in let A = c.arcs_of.ensures in
    let ps = c.find_loads.new.tables.places.now in let xs = c.find_loads.new.loads in
    let n = c.nodes-3.ensures in
    let seen = A.shown ∙ shown_arcs R.sound R.two (classes ps) ps R.arcs c.nodes-3.result (c.nodes-3.result - 1) n (ap (λ k. k - 1) n) in
    record {
      marks = classes ps;
      types = R.types;
      best = R.best;
      total_is = c.count_paths.ensures ∙ ap (λ (T : Table). total T (load_of xs)) seen ∙ same_total R.sound (classes ps) (load_of xs);
    }
