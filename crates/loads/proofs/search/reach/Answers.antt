use Rattle.std.proofs.Common.{ℕ, ◌+◌, ◌<◌, length, set, is_some, sym, refl, ap, ◌∙◌, length-set}
use Rattle.flow.specs.Trails.{put}
use Rattle.marks.specs.declared.mark.Mark.{Mark}
use Rattle.marks.specs.Marks.{blank, depth_in, via_in, depth_of}
use Rattle.marks.proofs.Fields.{cell_set}
use Rattle.loads.specs.Search.{stepped_in}
use Rattle.loads.proofs.Cells.{cell_kept}
use Rattle.loads.proofs.search.reach.Goals as goal

pub returns : goal.returns
returns c =
    let ns = c.args.nodes.now in
    let v = c.args.v in
    let i = c.args.count in
    let l = c.requires.to in
    let far : i < length (set ns v _) = simp length-set c.requires.queue in
    let kept = cell_kept (λ (m : Mark). m.reached) (set ns v _) i _ blank far refl in
    let deep = sym (ap depth_in c.unwrap-depth.ensures) in
    record {
      reached = ap (λ h w. is_some (h w)) kept ∙ cell_set (λ (m : Mark). is_some m.reached) ns v _ blank l;
      depth = ap (λ h w. depth_in (h w)) kept ∙ cell_set (λ (m : Mark). depth_in m.reached) ns v _ blank l
          ∙ ap (λ (d : ℕ). put (depth_of ns) v (d + 1)) deep;
      via = ap (λ h w. via_in (h w)) kept ∙ cell_set (λ (m : Mark). via_in m.reached) ns v _ blank l;
      stepped = ap (λ h w. stepped_in (h w)) kept ∙ cell_set (λ (m : Mark). stepped_in m.reached) ns v _ blank l;
      queued = cell_set (λ (m : Mark). m.queued) (set ns v _) i _ blank far
          ∙ ap (λ (h : ℕ → ℕ). put h i v) (cell_kept (λ (m : Mark). m.queued) ns v _ blank l refl);
      out = cell_kept (λ (m : Mark). m.out) (set ns v _) i _ blank far refl ∙ cell_kept (λ (m : Mark). m.out) ns v _ blank l refl;
      into = cell_kept (λ (m : Mark). m.into) (set ns v _) i _ blank far refl ∙ cell_kept (λ (m : Mark). m.into) ns v _ blank l refl;
    }
