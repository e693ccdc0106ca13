use Rattle.std.proofs.Common.{◌-◌, ◌<◌, length, is_some, sym, ap, ◌∙◌, arith}
use Rattle.marks.specs.Marks.{begin_in, end_in}
use Rattle.marks.proofs.Linking.{linked_step, kept_more}
use Rattle.marks.proofs.link.link_arcs.Goals as goal
use Rattle.marks.proofs.link.link_arcs.Goals.{In-Some}

-- the ends of the arc at hand are nodes
ends : (c : In-Some) → (c.in-Some.arc.begin < length c.args.nodes.now) × (c.in-Some.arc.end < length c.args.nodes.now)
ends c =
    let j = c.loop-k.k - 1 in
    let kept = c.loop-k.invariant.0 in
    let within = c.requires.within j (sym (ap (λ h. h j) kept.arc) ∙ ap is_some c.in-Some.is) in
    let begin = sym (ap (λ h. h j) kept.begin) ∙ ap begin_in c.in-Some.is in
    let end = sym (ap (λ h. h j) kept.end) ∙ ap end_in c.in-Some.is in
    (omega arith, omega arith)

pub link_place-requires-clause-begin : goal.link_place-requires-clause-begin
link_place-requires-clause-begin c = let within = ends (goal.at.link_place-requires-clause-begin c).In-Some in omega arith

pub link_place-requires-clause-end : goal.link_place-requires-clause-end
link_place-requires-clause-end c = let within = ends (goal.at.link_place-requires-clause-end c).In-Some in omega arith

pub loop-k-preserved-in-Some : goal.loop-k-preserved-in-Some
loop-k-preserved-in-Some c =
    let ps = c.loop-k.places in
    let step = c.link_place.ensures in
    let within = ends (goal.at.loop-k-preserved-in-Some c).In-Some in
    let begin = ap begin_in c.in-Some.is in
    let end = ap end_in c.in-Some.is in (
      kept_more c.args.places.now ps c.link_place.new.places c.loop-k.invariant.0 step.arcs,
      linked_step ps c.loop-k.nodes c.link_place.new.places c.link_place.new.nodes (c.loop-k.k - 1) c.loop-k.k (omega arith) (omega arith)
          (ap is_some c.in-Some.is) (omega arith) (omega arith) c.loop-k.invariant.1 step,
    )
