use Rattle.std.proofs.Common.{◌≡◌, ℕ, ◌+◌, Some, Option, sym, ap, ◌∙◌, subst, arith}
use Rattle.delay.specs.Kind.{Within}
use Rattle.wiring.specs.declared.Lead.{Lead}
use Rattle.wiring.specs.Net.{Holds}
use Rattle.wiring.specs.Lengths.{through_by}
use Rattle.wiring.proofs.Cover.{through_within}
use Rattle.lengths.specs.Tables.{entry}
use Rattle.lengths.specs.Steps.{longer_of}
use Rattle.lengths.specs.Asked.{Filled, of_lead}
use Rattle.lengths.proofs.Best.{BestBelow, best_skip, best_more}
use Rattle.lengths.proofs.Asking.{tables, longest_told, lead_from}
use Rattle.lengths.proofs.pair.LengthPair.longest_path.Goals as goal
use Rattle.lengths.proofs.pair.LengthPair.longest_path.Goals.{in-Some, in_default}

pub loop-place-preserved : goal.loop-place-preserved
loop-place-preserved g c =
    let K = g.D.Delay.kind in let L = g.met.D.Delay.laws in let N = g.W.Wiring.net c.args.w.now in
    let to = c.args.self.now.to.table.now in let from = c.args.self.now.from.table.now in
    let value : Lead g.row.D.Denot → g.row.D.Denot = through_by K (entry K to) (entry K from) in
    let Q : Lead g.row.D.Denot → Type 0 = λ l. Unit {0} in
    let p = c.loop-place.place in let best = c.loop-place.best in
    let inv = c.loop-place.invariant in
    let within : Filled K N to from → (k : ℕ) (l : Lead g.row.D.Denot) → Holds N k l → Q l → Within K (value l) =
    λ F k l h q. through_within L F.sound (tables K L N to from F) k l h in
    let e : c.longest_through.result ≡ of_lead value (N.at p) =
    c.longest_through.ensures.delay
    ∙ ap (λ x. of_lead (through_by K (entry K x) (entry K c.loop-place.self.from.table.now)) (N.at p)) inv.1.to.0
    ∙ ap (λ x. of_lead (through_by K (entry K to) (entry K x)) (N.at p)) inv.1.from.0 in
    let Inv : Option g.row.D.Denot → Type 0 = BestBelow K N Q value (p + 1) in (
      λ F. elim c.match-longest_through.branch [
        | in-Some w ↦
            let f = lead_from value (N.at p) w.in-Some.delay (sym e ∙ w.in-Some.is) in
            let now_best : c.match-longest_through.best ≡ Some (longer_of K best (value f.0)) =
            w.best-is ∙ ap {B = Option g.row.D.Denot} (λ x. Some x) (w.longer.ensures ∙ ap (longer_of K best) (sym f.2)) in
            subst Inv (sym now_best) (best_more K L N Q value (within F) p best f.0 (inv.0 F) f.1 tt)
        | in_default w ↦
            subst Inv (sym w.best-is) (best_skip K L N Q value (within F) p best (inv.0 F) (λ l h q. w.in_default.not-Some (value l) (e ∙ ap (of_lead value) h)))
      ],
      record {
        to = (c.longest_through.ensures.kept.to.0 ∙ inv.1.to.0, c.longest_through.ensures.kept.to.1 ∙ inv.1.to.1);
        from = (c.longest_through.ensures.kept.from.0 ∙ inv.1.from.0, c.longest_through.ensures.kept.from.1 ∙ inv.1.from.1);
      },
    )

pub returns-clause-longest : goal.returns-clause-longest
returns-clause-longest g c =
    let K = g.D.Delay.kind in let L = g.met.D.Delay.laws in let N = g.W.Wiring.net c.args.w.now in
    let to = c.args.self.now.to.table.now in let from = c.args.self.now.from.table.now in
    let inv = c.loop-place.invariant in
    let end : c.loop-place.place ≡ N.places = omega arith in
    λ F. longest_told K L N to from F c.loop-place.best
    (subst (λ p. BestBelow K N (λ l. Unit {0}) (through_by K (entry K to) (entry K from)) p c.loop-place.best) end (inv.0 F))
