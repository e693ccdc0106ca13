use Rattle.std.proofs.Common.{arith}
use Rattle.chooser.proofs.Bare.{bare_written}
use Rattle.chooser.proofs.tables.Tables.draw_list.Goals as goal

pub returns-then-nodes-lt-FEWEST_NODES-clause-rows : goal.returns-then-nodes-lt-FEWEST_NODES-clause-rows
returns-then-nodes-lt-FEWEST_NODES-clause-rows g c =
    bare_written g.met.D.Delay.laws c.requires.sound (omega (arith, c.nodes.ensures, c.if-nodes-lt-FEWEST_NODES.true)) c.args.words.now c.args.witness.now
