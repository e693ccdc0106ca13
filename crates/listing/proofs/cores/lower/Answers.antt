use Rattle.std.proofs.Common.{arith}
use Rattle.marks.specs.Marks.{load_of}
use Rattle.listing.proofs.Lowering.{lower_some, lower_within, lower_step}
use Rattle.listing.proofs.cores.lower.Goals as goal

pub bounds-left-lead : goal.bounds-left-lead
bounds-left-lead c =
    lower_within c.args.core.now c.loop-lead.lead-index (omega arith) (load_of c.args.left.now) c.loop-lead.left c.requires c.loop-lead.invariant

pub overflow_sub-left : goal.overflow_sub-left
overflow_sub-left c =
    let some = lower_some c.args.core.now c.loop-lead.lead-index (omega arith) (load_of c.args.left.now) c.loop-lead.left c.requires
    c.loop-lead.invariant in omega arith

pub bounds-left-lead-in-loop-lead : goal.bounds-left-lead-in-loop-lead
bounds-left-lead-in-loop-lead c =
    lower_within c.args.core.now c.loop-lead.lead-index (omega arith) (load_of c.args.left.now) c.loop-lead.left c.requires c.loop-lead.invariant

pub loop-lead-preserved : goal.loop-lead-preserved
loop-lead-preserved c =
    lower_step c.args.core.now c.loop-lead.lead-index (omega arith) (load_of c.args.left.now) c.loop-lead.left c.requires c.loop-lead.invariant
