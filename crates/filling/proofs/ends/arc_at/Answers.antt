use Rattle.std.proofs.Common.{◌≡◌, ℕ, Bool, cond, not, ◌||◌, is_some, Some, Option, sym, ap, ◌∙◌, arith}
use Rattle.wiring.specs.Net.{stands}
use Rattle.wiring.specs.Lengths.{Marks, type_by, marks_in, marks_of}
use Rattle.wiring.proofs.Ends.{head_inside}
use Rattle.lengths.specs.Tables.{entry}
use Rattle.lengths.specs.Asked.{of_lead}
use Rattle.marks.specs.Links.{out_at, into_at}
use Rattle.filling.proofs.Ending.{begin_by, end_by}
use Rattle.filling.proofs.ends.arc_at.Goals as goal

pub returns-clause-ends : goal.returns-clause-ends
returns-clause-ends g c =
    let K = g.D.Delay.kind in let N = g.W.Wiring.net c.args.w.now in let ns = c.args.nodes.now in
    let to = entry K c.args.lengths.now.to.table.now in let from = entry K c.args.lengths.now.from.table.now in
    let m : Marks = marks_of K N to from in
    let k = c.args.k in let l = c.in_ok-lead.lead in let class : Bool × Bool = (c.in_ok-drains.drains, c.in_ok-drains.fed) in
    let at : N.at k ≡ Some l = sym c.lead.ensures ∙ c.in_ok-lead.was in
    let b = head_inside c.requires.filled.sound k l at in
    let told : ◌≡◌ {A = Option (Bool × Bool)} (Some class) (Some (type_by K to from l)) =
    sym c.in_ok-drains.was ∙ c.classify.ensures.marks ∙ ap (of_lead (type_by K to from)) at in
    let same : class ≡ m k = let e : class ≡ type_by K to from l = cc in e ∙ sym (ap (marks_in K to from) at) in
    record {
      arc = sym (ap stands at);
      begin = c.end_or_pole.ensures
          ∙ ap (λ (x : Bool × Bool). cond (not x.0 || not (is_some (into_at ns l.tail))) 0 l.tail) same
          ∙ begin_by N ns c.requires.links k l at m (omega (arith, c.requires.nodes));
      end = c.end_or_pole-2.ensures
          ∙ ap (λ (x : Bool × Bool). cond (not x.1 || not (is_some (out_at ns l.head))) c.args.sink l.head) same
          ∙ ap (λ (x : ℕ). cond (not (m k).1 || not (is_some (out_at ns l.head))) x l.head) c.requires.sink
          ∙ end_by N ns c.requires.links k l at m (omega (arith, c.requires.nodes));
      class = same;
    }
