use Rattle.std.proofs.Common.{◌≡◌, ℕ, ◌+◌, ◌<◌, length, Some, Option, unwrap_or, sym, ap, ◌∙◌, subst, arith}
use Rattle.std.proofs.lemmas.List.{get_or_read}
use Rattle.delay.specs.Kind.{Within}
use Rattle.wiring.specs.declared.Lead.{Lead}
use Rattle.wiring.specs.Net.{Holds}
use Rattle.wiring.proofs.Ends.{head_inside, one_lead}
use Rattle.lengths.specs.Tables.{entry}
use Rattle.lengths.specs.Steps.{longer_of, offer, LengthAt}
use Rattle.lengths.proofs.Best.{BestBelow, best_skip, best_more}
use Rattle.lengths.proofs.Filling.{offers_within, length_of_best}
use Rattle.lengths.proofs.measure.ScanMeasure.length_at.Goals as goal
use Rattle.lengths.proofs.measure.ScanMeasure.length_at.Goals.{in-Some+then-l-v, in-Some+else-l-v, in_default}

pub loop-place-preserved : goal.loop-place-preserved
loop-place-preserved g c =
    let K = g.D.Delay.kind in let N = g.W.Wiring.net c.args.self.now.under.now in let to = entry K c.args.table.now in let v = c.args.v in
    let p = c.loop-place.place in let best = c.loop-place.best in
    let L = g.met.D.Delay.laws in let S = c.requires.ready in
    let Q : Lead g.row.D.Denot → Type 0 = λ e. e.head ≡ v in
    let within : (k : ℕ) (l : Lead g.row.D.Denot) → Holds N k l → Q l → Within K (offer K to l) = offers_within K N S to v c.requires.lower in
    let Inv : Option g.row.D.Denot → Type 0 = BestBelow K N Q (offer K to) (p + 1) in
    elim c.match-lead.branch [
      | in-Some+then-l-v w ↦
          let e = w.in-Some.l in
          let at : N.at p ≡ Some e = sym w.in-Some.ensures in
          let b = head_inside S p e at in
          let low : e.tail < length c.args.table.now = omega (arith, c.requires.room) in
          let read : w.index-table-l.result ≡ to e.tail = get_or_read c.args.table.now e.tail w.index-table-l.result low w.index-table-l.is K.zero in
          let now_best : c.match-lead.best ≡ Some (longer_of K best (offer K to e)) = cc in
          subst Inv (sym now_best) (best_more K L N Q (offer K to) within p best e c.loop-place.invariant at w.if-l-v.true)
      | in-Some+else-l-v w ↦
          let e = w.in-Some.l in
          let at : N.at p ≡ Some e = sym w.in-Some.ensures in
          subst Inv (sym w.best-is) (best_skip K L N Q (offer K to) within p best c.loop-place.invariant
          (λ f a t. w.if-l-v.false (ap (λ (x : Lead g.row.D.Denot). x.head) (one_lead N p at a) ∙ t)))
      | in_default w ↦
          subst Inv (sym w.best-is) (best_skip K L N Q (offer K to) within p best c.loop-place.invariant
          (λ f a t. w.in_default.not-Some f (c.lead.ensures ∙ a)))
    ]

pub returns : goal.returns
returns g c =
    let K = g.D.Delay.kind in let N = g.W.Wiring.net c.args.self.now.under.now in let to = entry K c.args.table.now in let v = c.args.v in
    let end : c.loop-place.place ≡ N.places = omega arith in
    subst (LengthAt K N to v) (sym (c.unwrap_or.ensures ∙ ap (unwrap_or c.loop-place.best) c.zero.ensures))
    (length_of_best K N c.requires.ready to v c.loop-place.best
    (subst (λ p. BestBelow K N (λ l. l.head ≡ v) (offer K to) p c.loop-place.best) end c.loop-place.invariant))
