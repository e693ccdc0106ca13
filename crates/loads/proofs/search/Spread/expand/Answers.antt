use Rattle.std.proofs.Common.{true, false}
use Rattle.marks.specs.Marks.{load_of}
use Rattle.marks.specs.Shown.{shown}
use Rattle.loads.specs.Search.{queued_at, Followed, Grown}
use Rattle.loads.proofs.Going.{moved, went_then}
use Rattle.loads.proofs.Searches.{followed_kept}
use Rattle.loads.proofs.search.Spread.expand.Goals as goal

pub returns : goal.returns
returns c =
    let a = c.args.self.now in
    let b = c.follow.new.self in
    let d = c.follow-2.new.self in
    let T = shown a.arcs in
    let f = load_of a.loads.now in
    let v = queued_at a.nodes.now c.args.done in
    let one = c.follow.ensures in
    let two = c.follow-2.ensures in
    let kept = moved a b one.went (λ A g low. Grown (shown A) g low b.nodes.now d.nodes.now b.count d.count) two.went.grown in
    record {
      went = went_then a b d one.went two.went;
      finished = record {
        along = followed_kept T f a.low b.nodes.now d.nodes.now v true T.places kept.kept one.followed;
        against = moved a b one.went (λ A g low. Followed (shown A) g low d.nodes.now v false (shown A).places) two.followed;
      };
    }
