use Rattle.std.proofs.Common.{[], ◌∷◌, decimal, refl, arith, rules}
use Rattle.netlist.specs.Texts.{Any, Below, kind_text}
use Rattle.netlist.specs.declared.Expected.TheVariants.{Kind, Nodes}
use Rattle.netlist.specs.Lines.{lines_ahead}
use Rattle.netlist.specs.Outcomes.{none, kind}
use Rattle.netlist.proofs.Refusing.{passed_on, unread}
use Rattle.netlist.proofs.reading.read_head.Goals as goal

pub returns-in_err-kind : goal.returns-in_err-kind
returns-in_err-kind c =
    let out = c.in_err-kind.ensures in
    passed_on _ c.and_then.result _ c.in_err-kind.field-0.0 c.from_residual.result _ out.value c.from_residual.ensures.1
    (record {
      before = [];
      after = lines_ahead c.args.lines.now;
      whole = refl;
      counted = omega arith;
      due = none;
      wrong = unread Any kind_text Kind _ _ _ _ tt (λ line no m. no m.0 tt m.1) c.next.ensures.steps c.and_then.ensures out.ok_part;
    })

pub returns-in_err-nodes : goal.returns-in_err-nodes
returns-in_err-nodes c =
    let out = c.in_err-nodes.ensures in
    let first = c.in_ok-kind.ensures.ok_part in
    passed_on _ c.and_then-2.result _ c.in_err-nodes.field-0.0 c.from_residual-in_err-nodes.result _ out.value c.from_residual-in_err-nodes.ensures.1
    (record {
      before = kind_text c.in_ok-kind.kind ∷ [];
      after = lines_ahead c.next.new.self;
      whole = search rules;
      counted = omega arith;
      due = kind _;
      wrong = unread (Below 32) decimal Nodes _ _ _ _ tt (λ line no m. no m.0 m.1 m.2) c.next-2.ensures.steps c.and_then-2.ensures out.ok_part;
    })
