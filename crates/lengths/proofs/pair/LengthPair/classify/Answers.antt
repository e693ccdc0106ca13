use Rattle.std.proofs.Common.{◌≡◌, Bool, Some, Option, sym, refl, ap, ◌∙◌, subst}
use Rattle.delay.specs.Kind.{level}
use Rattle.wiring.specs.Lengths.{type_by}
use Rattle.lengths.specs.Tables.{entry}
use Rattle.lengths.specs.Asked.{of_lead, TypeOf}
use Rattle.lengths.proofs.Asking.{type_told}
use Rattle.lengths.proofs.pair.LengthPair.classify.Goals as goal

pub returns-clause-types : goal.returns-clause-types
returns-clause-types g c =
    let K = g.D.Delay.kind in let N = g.W.Wiring.net c.args.w.now in
    let to = c.args.self.now.to.table.now in let from = c.args.self.now.from.table.now in
    let l = c.in_ok-lead.lead in
    let at : N.at c.args.place ≡ Some l = sym c.lead.ensures ∙ c.in_ok-lead.was in
    let drains : c.level-drains.result ≡ level K (K.plus l.delay (entry K from l.head)) (entry K from l.tail) = cc in
    let fed : c.level-fed.result ≡ level K (K.plus (entry K to l.tail) l.delay) (entry K to l.head) = cc in
    let pair : ◌≡◌ {A = Bool × Bool} (c.level-drains.result, c.level-fed.result) (type_by K (entry K to) (entry K from) l) = λ i. (drains i, fed i) in
    let is : ◌≡◌ {A = Option (Bool × Bool)} (Some (c.level-drains.result, c.level-fed.result)) (of_lead (type_by K (entry K to) (entry K from)) (N.at c.args.place)) =
    ap {B = Option (Bool × Bool)} (λ m. Some m) pair ∙ sym (ap (of_lead (type_by K (entry K to) (entry K from))) at) in
    λ F. subst (TypeOf K N c.args.place) (sym is) (type_told K g.met.D.Delay.laws N to from F c.args.place (N.at c.args.place) refl)
