use Rattle.marks.proofs.Following.{arc_within}
use Rattle.marks.proofs.follow.ArcsAtIterator.next.Goals as goal

pub link_of-self-requires : goal.link_of-self-requires
link_of-self-requires c = arc_within c.args.self.now.places.now c.in_ok-k.k (c.args.self.now.at c.in_ok-k.k c.in_ok-k.was)
