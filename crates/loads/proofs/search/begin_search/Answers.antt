use Rattle.std.proofs.Common.{◌<◌, length, set, refl, ◌∙◌, arith, length-set}
use Rattle.marks.specs.declared.mark.Mark.{Mark}
use Rattle.marks.specs.Marks.{blank}
use Rattle.loads.proofs.Cells.{cell_kept}
use Rattle.loads.proofs.search.begin_search.Goals as goal

pub returns-clause-out : goal.returns-clause-out
returns-clause-out c =
    let ns = c.args.nodes.now in
    let u = c.args.from in
    let some : 0 < length ns = omega arith in
    let far : 0 < length (set ns u _) = simp length-set some in
    cell_kept (λ (m : Mark). m.out) (set ns u _) 0 _ blank far refl ∙ cell_kept (λ (m : Mark). m.out) ns u _ blank c.requires.node refl

pub returns-clause-into : goal.returns-clause-into
returns-clause-into c =
    let ns = c.args.nodes.now in
    let u = c.args.from in
    let some : 0 < length ns = omega arith in
    let far : 0 < length (set ns u _) = simp length-set some in
    cell_kept (λ (m : Mark). m.into) (set ns u _) 0 _ blank far refl ∙ cell_kept (λ (m : Mark). m.into) ns u _ blank c.requires.node refl
