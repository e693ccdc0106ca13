use Rattle.std.proofs.Common.{Bool, sym, subst}
use Rattle.marks.specs.Marks.{load_of}
use Rattle.marks.specs.Shown.{shown}
use Rattle.marks.proofs.Fields.{shown_sound}
use Rattle.loads.specs.Search.{Sought}
use Rattle.loads.specs.Settle.{SettledTo}
use Rattle.loads.proofs.Settles.{settled_none}
use Rattle.loads.proofs.Staying.{over_first}
use Rattle.loads.proofs.best.Settling.settle_total.Goals as goal

pub returns-clause-settled : goal.returns-clause-settled
returns-clause-settled c =
    let a = c.args.self.now in
    let b = c.loop-self.self in
    let T = shown b.arcs in
    let f = load_of b.loads.now in
    let ns = c.search.new.self.nodes.now in
    let sought = subst (λ (t : Bool). Sought T f 0 T.sink T.source ns t) c.loop-self-test.false c.search.ensures.sought in
    subst (λ xs. SettledTo (shown a.arcs) (load_of xs) 0) (sym c.search.ensures.loads)
    (over_first a b c.loop-self.invariant (λ A. SettledTo (shown A) f 0) (settled_none T (shown_sound b.arcs) f ns b.balanced sought))
