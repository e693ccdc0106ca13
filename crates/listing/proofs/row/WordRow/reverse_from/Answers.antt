use Rattle.std.proofs.Common.{refl, arith}
use Rattle.listing.proofs.Rows.{written_length, turned}
use Rattle.listing.proofs.row.WordRow.reverse_from.Goals as goal

pub returns : goal.returns
returns c =
    let r = c.args.self.now in
    let t = turned r.row.now c.reverse.new.self c.args.from r.at (omega (arith, written_length r, c.requires)) r.within c.reverse.ensures.after in
    record { lent = refl; words = t.0; rest = t.1 }
