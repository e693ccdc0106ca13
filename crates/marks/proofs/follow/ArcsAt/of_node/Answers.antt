use Rattle.std.proofs.Common.{◌-◌, ◌≡◌, ℕ, sym, ap, ◌∙◌, length, arith}
use Rattle.std.specs.List.{filter, range_with_len}
use Rattle.marks.specs.Links.{arc_at, belongs, link_at}
use Rattle.marks.specs.Follow.{near_at, arcs_from}
use Rattle.marks.proofs.Following.{head_at, picked_link, linked_chained, linked_first}
use Rattle.marks.proofs.follow.ArcsAt.of_node.Goals as goal

pub invariant_of-result : goal.invariant_of-result
invariant_of-result c =
    let ps = c.args.places.now in
    let ns = c.args.nodes.now in
    let along = c.args.along in
    let v = c.args.v in
    record {
      chained = linked_chained ps ns c.requires.linked along;
      at = λ k e. (head_at (arc_at ps) (near_at ps along) v 0 (link_at ns along v) k (linked_first ps ns c.requires.linked along v c.requires.node)
          (sym c.link_of.ensures ∙ e)).0;
    }

pub returns : goal.returns
returns c =
    let ps = c.args.places.now in
    let ns = c.args.nodes.now in
    let along = c.args.along in
    let v = c.args.v in
    let first = linked_first ps ns c.requires.linked along v c.requires.node in
    let P = belongs (arc_at ps) (near_at ps along) v in
    let all : length ps - 0 ≡ length ps = omega arith in
    ap (arcs_from ps along) c.link_of.ensures
    ∙ sym (picked_link ps along v 0 (link_at ns along v) first)
    ∙ ap (λ (x : ℕ). filter P (range_with_len 0 x)) all
