use Rattle.flow.proofs.Best.{tight_least, tight_count}
use Rattle.flow.proofs.Search.{first_settled}
use Rattle.flow.proofs.Seek.{tight_exists}
use Rattle.flow.proofs.cut_shows_least.Goals as goal

pub returns : goal.returns
returns c = record {
  shown = λ T S f L R C. (tight_least T S f L.balanced R C, tight_count T S f L.balanced R C);
  exists = tight_exists;
  first = first_settled;
}
