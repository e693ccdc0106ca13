use Rattle.std.proofs.Common.{◌<◌, length, arith}
use Rattle.flow.specs.Table.{entering}
use Rattle.marks.specs.Marks.{reached_of}
use Rattle.marks.specs.Shown.{shown}
use Rattle.loads.proofs.Witness.{filled_room, filled_more, filled_on}
use Rattle.loads.proofs.cut.Cut.write_witness.Goals as goal
use Rattle.loads.proofs.cut.Cut.write_witness.Goals.{then-is_entered_at, else-is_entered_at}

-- there is room for one place more
spare : (c : goal.Then-is_entered_at) → c.loop-k.count < length c.args.row.now
spare c =
    let T = shown c.args.self.now.arcs in
    let P = entering T (reached_of c.args.self.now.nodes.now) in
    let l = c.loop-k-test.true in
    filled_room P c.loop-k.k T.places c.loop-k.count c.args.row.now c.loop-k.row c.loop-k.invariant c.if-is_entered_at.ensures l
    c.requires

pub bounds-row-count : goal.bounds-row-count
bounds-row-count c = omega (arith, spare c)

pub loop-k-preserved : goal.loop-k-preserved
loop-k-preserved c =
    let T = shown c.args.self.now.arcs in
    let P = entering T (reached_of c.args.self.now.nodes.now) in
    let k = c.loop-k.k in
    let count = c.loop-k.count in
    let old = c.args.row.now in
    let row = c.loop-k.row in
    let after = c.if-is_entered_at.count in
    let new = c.if-is_entered_at.row in
    let inv = c.loop-k.invariant in
    elim c.if-is_entered_at.branch [
      | then-is_entered_at w ↦
          let yes = w.if-is_entered_at.ensures in
          let room = filled_room P k T.places count old row inv yes c.loop-k-test.true c.requires in
          filled_more P k count old row inv yes room after new w.count-is w.row-is
      | else-is_entered_at w ↦ filled_on P k count old row inv w.if-is_entered_at.ensures after new w.count-is w.row-is
    ]
