use Rattle.std.proofs.Common.{◌≡◌, Some, Option, sym, refl, ap, ◌∙◌, subst}
use Rattle.wiring.specs.Lengths.{through_by}
use Rattle.lengths.specs.Tables.{entry}
use Rattle.lengths.specs.Asked.{of_lead, ThroughOf}
use Rattle.lengths.proofs.Asking.{through_told}
use Rattle.lengths.proofs.pair.LengthPair.longest_through.Goals as goal

pub returns-clause-longest : goal.returns-clause-longest
returns-clause-longest g c =
    let K = g.D.Delay.kind in let N = g.W.Wiring.net c.args.w.now in
    let to = c.args.self.now.to.table.now in let from = c.args.self.now.from.table.now in
    let l = c.in_ok-lead.lead in
    let at : N.at c.args.place ≡ Some l = sym c.lead.ensures ∙ c.in_ok-lead.was in
    let sum : c.plus.result ≡ through_by K (entry K to) (entry K from) l = cc in
    let is : ◌≡◌ {A = Option g.row.D.Denot} (Some c.plus.result) (of_lead (through_by K (entry K to) (entry K from)) (N.at c.args.place)) =
    ap {B = Option g.row.D.Denot} (λ x. Some x) sum ∙ sym (ap (of_lead (through_by K (entry K to) (entry K from))) at) in
    λ F. subst (ThroughOf K N c.args.place) (sym is) (through_told K g.met.D.Delay.laws N to from F c.args.place (N.at c.args.place) refl)
