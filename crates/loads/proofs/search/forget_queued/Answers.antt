use Rattle.std.proofs.Common.{ℕ, ◌<◌, Bool, length, is_some, refl, ap, sym, ◌∙◌, arith}
use Rattle.marks.specs.declared.mark.Mark.{Mark}
use Rattle.marks.specs.Marks.{blank, reached_of}
use Rattle.marks.proofs.Fields.{cell_set}
use Rattle.loads.specs.Search.{queued_at}
use Rattle.loads.proofs.Cells.{cell_kept}
use Rattle.loads.proofs.Forgetting.{put_less, put_none, none_left}
use Rattle.loads.proofs.search.forget_queued.Goals as goal

pub bounds-nodes-v : goal.bounds-nodes-v
bounds-nodes-v c =
    let i = c.loop-i.i in
    let at = ap (λ (q : ℕ → ℕ). q i) c.loop-i.invariant.2 in
    omega (arith, at, c.requires.inside i (omega arith), c.loop-i.auto.nodes)

pub loop-i-preserved : goal.loop-i-preserved
loop-i-preserved c =
    let ns = c.loop-i.nodes in
    let i = c.loop-i.i in
    let v = queued_at ns i in
    let q = queued_at c.args.nodes.now in
    let inv = c.loop-i.invariant in
    let at = ap (λ (q : ℕ → ℕ). q i) inv.2 in
    let l : v < length ns = omega (arith, at, c.requires.inside i (omega arith), c.loop-i.auto.nodes) in
    let cell = cell_set (λ (m : Mark). is_some m.reached) ns v _ blank l in (
      (λ w e. inv.0 w (put_less (reached_of ns) v w (ap (λ (h : ℕ → Bool). h w) (sym cell) ∙ e))),
      (λ j m. ap (λ (h : ℕ → Bool). h (q j)) cell ∙ put_none (reached_of ns) v q i (sym at) inv.1 j m),
      cell_kept (λ (m : Mark). m.queued) ns v _ blank l refl ∙ inv.2,
      cell_kept (λ (m : Mark). m.out) ns v _ blank l refl ∙ inv.3,
      cell_kept (λ (m : Mark). m.into) ns v _ blank l refl ∙ inv.4,
    )

pub returns-clause-forgotten : goal.returns-clause-forgotten
returns-clause-forgotten c =
    let inv = c.loop-i.invariant in
    none_left (reached_of c.args.nodes.now) (reached_of c.loop-i.nodes) (queued_at c.args.nodes.now) c.args.count c.requires.all inv.0
    (λ j l. inv.1 j (omega arith))
