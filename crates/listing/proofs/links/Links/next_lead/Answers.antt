use Rattle.std.proofs.Common.{sym, ap, ◌∙◌}
use Rattle.marks.specs.Marks.{end_in}
use Rattle.marks.specs.Links.{out_at}
use Rattle.marks.specs.Shown.{shown}
use Rattle.listing.proofs.Looking.{end_names}
use Rattle.listing.proofs.links.Links.next_lead.Goals as goal

pub returns : goal.returns
returns c =
    let l = c.args.self in
    c.first_left.ensures ((shown l.arcs).end c.args.lead) 0
    (end_names l c.args.lead c.requires c.link_of.result (c.link_of.ensures ∙ ap (out_at l.nodes.now) (sym (ap end_in c.in_ok-arc.was))))
