use Rattle.std.proofs.Common.{rules, arith}
use Rattle.marks.specs.Marks.{load_of}
use Rattle.marks.specs.Shown.{shown}
use Rattle.loads.specs.Search.{Sought}
use Rattle.loads.proofs.Searches.{begun_trail, begun_stepped, begun_queued, links_stay}
use Rattle.loads.proofs.search.search_fresh.Goals as goal

pub invariant_of-spread : goal.invariant_of-spread
invariant_of-spread c =
    let a = c.args.arcs in
    let begun = c.begin_search.ensures in
    let ns = c.begin_search.new.nodes in
    record {
      sized = omega arith;
      loaded = c.requires.places;
      linked = links_stay a.marks.now c.args.nodes.now ns c.begin_search.auto.nodes begun.out begun.into c.requires.linked;
      queued = begun_queued (shown a) c.args.from ns begun.reached c.requires.from begun.depth begun.queued;
    }

pub returns-clause-sought : goal.returns-clause-sought
returns-clause-sought c =
    let a = c.args.arcs in
    let T = shown a in
    let f = load_of c.args.loads.now in
    let low = c.args.low in
    let u = c.args.from in
    let begun = c.begin_search.ensures in
    let ns = c.begin_search.new.nodes in
    let ms = c.run-found.new.self.nodes.now in
    let g = c.run-found.ensures.went.grown in
    let start = begun_trail T u ns begun.reached f low in
    let sought : Sought T f low u c.args.to ms c.run-found.result = record {
      trail = g.trail u start;
      stepped = g.stepped u start.start (begun_stepped T u ns begun.reached begun.start);
      target = c.run-found.ensures.target;
      shut = c.run-found.ensures.shut;
    } in
    let lent = c.run-found.ensures.went.lent in
    search rules
