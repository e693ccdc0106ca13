use Rattle.std.proofs.Common.{◌≡◌, ◌<◌, ◌++◌, ◌∷◌, [], true, false, length, Some, unwrap_or, sym, ap, ◌∙◌, subst, arith}
use Rattle.std.proofs.lemmas.List.{get_or_read}
use Rattle.wiring.specs.declared.Lead.{Lead}
use Rattle.wiring.proofs.Ends.{head_inside, one_lead}
use Rattle.lengths.specs.Tables.{entry}
use Rattle.lengths.specs.Steps.{longer_of, offer, LengthAt}
use Rattle.lengths.proofs.Filling.{length_of_best}
use Rattle.marks.specs.Links.{arc_at, end_at}
use Rattle.marks.specs.Follow.{arcs_of}
use Rattle.marks.specs.Left.{left}
use Rattle.marks.proofs.Following.{arcs_each, passed_more, passed_all, passing}
use Rattle.filling.proofs.Measuring.{BestIn, linked_lead, best_in_more, best_in_all}
use Rattle.filling.proofs.measure.ByLinksMeasure.length_at.Goals as goal

pub loop-k-preserved-in-Some-lead : goal.loop-k-preserved-in-Some-lead
loop-k-preserved-in-Some-lead g c =
    let K = g.D.Delay.kind in let m = c.args.self.now in let N = g.W.Wiring.net m.under.now in let R = c.requires.ready in
    let xs = c.args.table.now in let to = entry K xs in let v = c.args.v in let i = c.loop-k.invariant in
    let k = c.in-Some.k in let l = c.in-Some-lead.l in let ks = c.loop-k.yielded in
    let all = arcs_of m.places.now false v in let rest = left c.loop-k.k-iterator in let more = left c.next.new.self in
    let next : rest ≡ k ∷ more = c.in-Some.ensures.steps in
    let at : N.at k ≡ Some l = sym c.in-Some-lead.ensures in
    let found = linked_lead N m.places.now R.leads v k
    (passing (λ k. (arc_at m.places.now k ≡ true) × (end_at m.places.now k ≡ v)) all ks rest more k i.0 next (arcs_each m.places.now false v)) in
    let into : l.head ≡ v = ap (λ (x : Lead g.row.D.Denot). x.head) (one_lead N k at found.1) ∙ found.2 in
    let b = head_inside R.sound k l at in
    let low : l.tail < length xs = omega (arith, c.requires.room) in
    let read : c.index-table-l.result ≡ to l.tail = get_or_read xs l.tail c.index-table-l.result low c.index-table-l.is K.zero in
    let given : c.longer.result ≡ longer_of K c.loop-k.best (offer K to l) = cc in (
      passed_more all ks rest more k i.0 next,
      subst (λ b. BestIn K N to v (ks ++ k ∷ []) (Some b)) (sym given) (best_in_more K N to v g.met.D.Delay.laws R.sound c.requires.lower ks c.loop-k.best k l i.1 at into),
    )

pub loop-k-preserved : goal.loop-k-preserved
loop-k-preserved g c =
    let m = c.args.self.now in let N = g.W.Wiring.net m.under.now in let v = c.args.v in let k = c.in-Some.k in
    let found = linked_lead N m.places.now c.requires.ready.leads v k
    (passing (λ k. (arc_at m.places.now k ≡ true) × (end_at m.places.now k ≡ v)) (arcs_of m.places.now false v) c.loop-k.yielded (left c.loop-k.k-iterator)
    (left c.next.new.self) k c.loop-k.invariant.0 c.in-Some.ensures.steps (arcs_each m.places.now false v)) in
    absurd (c.in_default.not-Some found.0 (c.lead.ensures ∙ found.1))

pub returns : goal.returns
returns g c =
    let K = g.D.Delay.kind in let m = c.args.self.now in let N = g.W.Wiring.net m.under.now in let R = c.requires.ready in
    let to = entry K c.args.table.now in let v = c.args.v in let i = c.loop-k.invariant in
    let all : c.loop-k.yielded ≡ arcs_of m.places.now false v = passed_all (arcs_of m.places.now false v) c.loop-k.yielded (left c.loop-k.k-iterator) i.0 c.in-None.ensures.steps.0 in
    subst (LengthAt K N to v) (sym (c.unwrap_or.ensures ∙ ap (unwrap_or c.loop-k.best) c.zero.ensures))
    (length_of_best K N R.sound to v c.loop-k.best
    (best_in_all K N to v m.places.now R.leads c.loop-k.best (subst (λ ks. BestIn K N to v ks c.loop-k.best) all i.1)))
