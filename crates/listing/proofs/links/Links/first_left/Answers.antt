use Rattle.std.proofs.Common.{rules, true, ltb, sym, ◌∙◌, subst}
use Rattle.std.proofs.lemmas.Iterator.Adapters.{option_map_id}
use Rattle.std.proofs.lemmas.Iterator.Consumers.{YieldsList-from_first}
use Rattle.std.proofs.lemmas.Iterator.Search.{find_from_yields_List}
use Rattle.marks.specs.Marks.{load_of}
use Rattle.marks.specs.Shown.{shown}
use Rattle.marks.specs.Follow.{arcs_from}
use Rattle.marks.specs.Left.{left}
use Rattle.marks.proofs.Following.{linked_chained}
use Rattle.listing.specs.Looks.{FoundFrom}
use Rattle.listing.proofs.Looking.{found_from}
use Rattle.listing.proofs.links.Links.first_left.Goals as goal

pub from_link-requires-clause-chained : goal.from_link-requires-clause-chained
from_link-requires-clause-chained c = linked_chained c.args.self.arcs.marks.now c.args.self.nodes.now c.args.self.whole.linked true

pub returns : goal.returns
returns c =
    let f = load_of c.args.left.now in let a = c.args.self.arcs in
    let found = find_from_yields_List (λ k. ltb 0 (f k)) c.find.new.self _ c.find.result c.find.ensures.ran
    (YieldsList-from_first (λ x. x) left (arcs_from a.marks.now true c.args.from) c.from_link.ensures) (λ x b q k. search rules) in
    subst (FoundFrom (shown a) f c.args.from) (sym found ∙ option_map_id c.find.result) (found_from a f c.args.from)
