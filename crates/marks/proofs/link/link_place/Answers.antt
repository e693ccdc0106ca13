use Rattle.std.proofs.Common.{ℕ, ◌<◌, length, set, Some, Option, is_some, sym, ap, ◌∙◌, length-set}
use Rattle.flow.specs.Trails.{put}
use Rattle.marks.specs.declared.mark.Mark.{Mark}
use Rattle.marks.specs.Marks.{blank, begin_in, end_in, class_in, classes}
use Rattle.marks.specs.Links.{arc_at, begin_at, end_at, out_at, into_at}
use Rattle.marks.proofs.Fields.{cell_set, put_same}
use Rattle.marks.proofs.link.link_place.Goals as goal

pub returns : goal.returns
returns c =
    let ps = c.args.places.now in
    let ns = c.args.nodes.now in
    let k = c.args.k in
    let u = c.args.arc.begin in
    let v = c.args.arc.end in
    let begin = sym (ap begin_in c.requires.arc) in
    let end = sym (ap end_in c.requires.arc) in
    let l = c.requires.place in
    let far : v < length (set ns u _) = simp length-set c.requires.end in
    record {
      arcs = record {
        arc = cell_set (λ (m : Mark). is_some m.arc) ps k _ blank l ∙ put_same (arc_at ps) k;
        begin = cell_set (λ (m : Mark). begin_in m.arc) ps k _ blank l ∙ put_same (begin_at ps) k;
        end = cell_set (λ (m : Mark). end_in m.arc) ps k _ blank l ∙ put_same (end_at ps) k;
        classes = cell_set (λ (m : Mark). class_in m.arc) ps k _ blank l ∙ put_same (classes ps) k;
        places = simp length-set;
      };
      next_out = cell_set (λ (m : Mark). m.out) ps k _ blank l ∙ ap (λ (w : ℕ). put (out_at ps) k (out_at ns w)) begin;
      next_into = cell_set (λ (m : Mark). m.into) ps k _ blank l ∙ ap (λ (w : ℕ). put (into_at ps) k (into_at ns w)) end;
      out = cell_set (λ (m : Mark). m.out) (set ns u _) v _ blank far ∙ put_same (out_at (set ns u _)) v ∙ cell_set
          (λ (m : Mark). m.out) ns u _ blank c.requires.begin ∙ ap (λ (w : ℕ). put (out_at ns) w (Some k)) begin;
      into = cell_set (λ (m : Mark). m.into) (set ns u _) v _ blank far ∙ ap (λ (h : ℕ → Option ℕ). put h v (Some k))
          (cell_set (λ (m : Mark). m.into) ns u _ blank c.requires.begin ∙ put_same (into_at ns) u)
          ∙ ap (λ (w : ℕ). put (into_at ns) w (Some k)) end;
    }
