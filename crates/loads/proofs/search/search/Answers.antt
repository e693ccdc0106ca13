use Rattle.loads.proofs.Searches.{links_stay}
use Rattle.loads.proofs.search.search.Goals as goal

pub search_fresh-requires-clause-linked : goal.search_fresh-requires-clause-linked
search_fresh-requires-clause-linked c =
    let made = c.forget_all in
    links_stay c.args.arcs.marks.now c.args.nodes.now made.new.nodes made.auto.nodes made.ensures.out made.ensures.into c.requires.linked
