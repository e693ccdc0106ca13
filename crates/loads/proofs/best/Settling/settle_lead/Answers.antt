use Rattle.std.proofs.Common.{◌+◌, Bool, false, is_some, sym, ap, subst, arith}
use Rattle.marks.specs.Marks.{begin_in, end_in, load_of}
use Rattle.marks.specs.Shown.{shown}
use Rattle.marks.proofs.Fields.{shown_sound}
use Rattle.loads.specs.Search.{Sought}
use Rattle.loads.specs.Settle.{Lowered, SettledTo}
use Rattle.loads.proofs.Settles.{settled_lower, settled_shut, settled_small}
use Rattle.loads.proofs.Staying.{kept_then, over_first}
use Rattle.loads.proofs.best.Settling.settle_lead.Goals as goal

pub returns-in_default-clause-settled : goal.returns-in_default-clause-settled
returns-in_default-clause-settled c =
    let a = c.args.self.now in
    settled_small (shown a.arcs) (load_of a.loads.now) c.args.k c.requires.settled (omega (arith, a.balanced.vacant c.args.k (ap is_some c.in_default.is)))

pub returns-then-not-search-clause-settled : goal.returns-then-not-search-clause-settled
returns-then-not-search-clause-settled c =
    let a = c.args.self.now in
    let b = c.loop-self.self in
    let T = shown a.arcs in
    let f = load_of b.loads.now in
    let k = c.args.k in
    let ns = c.search.new.self.nodes.now in
    let none = subst (λ (t : Bool). Sought (shown b.arcs) f (k + 1) c.in-Some.arc.begin c.in-Some.arc.end ns t) c.if-not-search.true c.search.ensures.sought in
    let here = over_first a b c.loop-self.invariant.0 (λ A. Sought (shown A) f (k + 1) c.in-Some.arc.begin c.in-Some.arc.end ns false) none in
    let begin = ap begin_in c.in-Some.is in
    let end = ap end_in c.in-Some.is in
    let sought = subst (λ u. Sought T f (k + 1) u (T.end k) ns false) (sym begin)
    (subst (λ v. Sought T f (k + 1) c.in-Some.arc.begin v ns false) (sym end) here) in
    subst (λ xs. SettledTo T (load_of xs) (k + 1)) (sym c.search.ensures.loads)
    (settled_shut T (shown_sound a.arcs) f k ns c.loop-self.invariant.1 (ap is_some c.in-Some.is) sought)

pub loop-self-preserved : goal.loop-self-preserved
loop-self-preserved c =
    let a = c.args.self.now in
    let b = c.loop-self.self in
    let s = c.search.new.self in
    let g = load_of c.lower.new.self.loads.now in
    let k = c.args.k in
    let inv = c.loop-self.invariant in
    let kept = kept_then a b s inv.0 c.search.ensures.kept in
    let lower = over_first a s kept (λ A. Lowered (shown A) (load_of s.loads.now) g k) c.lower.ensures.lowered in (
      kept_then a s c.lower.new.self kept c.lower.ensures.kept,
      settled_lower (shown a.arcs) (load_of s.loads.now) g k
          (subst (λ xs. SettledTo (shown a.arcs) (load_of xs) k) (sym c.search.ensures.loads) inv.1) lower,
    )

pub returns-clause-settled : goal.returns-clause-settled
returns-clause-settled c =
    settled_small (shown c.args.self.now.arcs) (load_of c.loop-self.self.loads.now) c.args.k c.loop-self.invariant.1 (omega arith)
