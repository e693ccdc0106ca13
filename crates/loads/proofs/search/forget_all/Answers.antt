use Rattle.std.proofs.Common.{ℕ, ◌<◌, Bool, length, is_some, refl, ap, ◌∙◌, arith}
use Rattle.marks.specs.declared.mark.Mark.{Mark}
use Rattle.marks.specs.Marks.{blank, reached_of}
use Rattle.marks.proofs.Fields.{cell_set, one_less}
use Rattle.loads.proofs.Cells.{cell_kept}
use Rattle.loads.proofs.search.forget_all.Goals as goal

pub loop-node-preserved : goal.loop-node-preserved
loop-node-preserved c =
    let ns = c.loop-node.nodes in
    let v = c.loop-node.node-index in
    let l : v < length ns = omega arith in (
      (λ k m. ap (λ (h : ℕ → Bool). h k) (cell_set (λ (m : Mark). is_some m.reached) ns v _ blank l)
          ∙ one_less (reached_of ns) v c.loop-node.invariant.0 k m),
      cell_kept (λ (m : Mark). m.out) ns v _ blank l refl ∙ c.loop-node.invariant.1,
      cell_kept (λ (m : Mark). m.into) ns v _ blank l refl ∙ c.loop-node.invariant.2,
    )
