use Rattle.std.proofs.Common.{Err, sym, ap, ◌∙◌, subst, arith, below_more}
use Rattle.lengths.specs.Check.{Sized, Keeps, Breaks, Finds}
use Rattle.lengths.proofs.Checks.{finds_first}
use Rattle.lengths.proofs.Pinned.{finds_one, sound_finds_none}
use Rattle.lengths.proofs.check.check.Goals as goal

pub loop-place-preserved : goal.loop-place-preserved
loop-place-preserved g c =
    let K = g.D.Delay.kind in
    let same = c.nodes-nodes.ensures in
    below_more _ _ c.loop-place.invariant (λ l h. subst (λ n. Keeps K n l) same (c.in_default.ensures l (c.lead.ensures ∙ h)))

pub returns-in-Some : goal.returns-in-Some
returns-in-Some g c =
    let K = g.D.Delay.kind in let N = g.W.Wiring.net c.args.w.now in
    let few : Sized N = (omega arith, omega arith) in
    let b = c.in-Some.ensures in
    let same = c.nodes-nodes.ensures in
    let F : Finds K N c.in-Some.fault = finds_first K N few c.loop-place.place c.loop-place.invariant c.in-Some.fault
    (b.0, sym c.lead.ensures ∙ b.1, subst (λ n. Breaks K n c.loop-place.place b.0 c.in-Some.fault) same b.2) in
    record { found = F; fault = λ f h. ap (λ x. Err x) (finds_one K N c.in-Some.fault f F h); none = λ S. absurd (sound_finds_none K N S c.in-Some.fault F) }
