use Rattle.std.proofs.Common.{map, vec_items, sym, subst, arith, rules}
use Rattle.std.proofs.lemmas.List.{append-nil, length-map}
use Rattle.std.proofs.lemmas.Option.{MatchOption-at_none}
use Rattle.netlist.specs.Texts.{place_text}
use Rattle.netlist.specs.Forms.{lead_form}
use Rattle.netlist.specs.Lines.{lines_of, lines_ahead}
use Rattle.netlist.specs.Outcomes.{NotRead, Wrong, Fails, head_lines, places}
use Rattle.netlist.proofs.Refusing.{passed_on, no_place}
use Rattle.netlist.proofs.Unique.{outcome}
use Rattle.netlist.proofs.reading.read_netlist.Goals as goal

pub returns-in_err-kind : goal.returns-in_err-kind
returns-in_err-kind c = outcome (lines_of c.args.text.now) c.from_residual.result (search rules)

pub returns-in_err-place : goal.returns-in_err-place
returns-in_err-place c =
    let out = c.in_err-place.ensures in
    let ls = lines_of c.args.text.now in
    let kind = c.in_ok-kind.kind in
    let items = vec_items c.loop-line.places in
    let inv = c.loop-line.invariant in
    let bad = MatchOption-at_none {o = c.read_place.result} _ _ out.ok_part c.read_place.ensures.gives in
    outcome ls _
    (passed_on _ c.read_place.result _ c.in_err-place.field-0.0 c.from_residual-in_err-place.result (NotRead ls) out.value c.from_residual-in_err-place.ensures.1
    (subst (Fails ls _) (sym c.lead.ensures)
    (record {
      before = head_lines kind c.in_ok-kind.nodes (map (place_text kind) items);
      after = lines_ahead c.loop-line.line-iterator;
      whole = inv.whole;
      counted = simp length-map (omega (arith, c.len-number.ensures, c.loop-line.places.ok.0));
      due = places kind c.in_ok-kind.nodes items inv.nodes inv.places;
      wrong = subst (Wrong (lead_form kind)) (sym c.in-Some.ensures.steps) (no_place kind c.in-Some.line.now bad);
    })))

pub returns : goal.returns
returns c =
    let inv = c.loop-line.invariant in
    outcome (lines_of c.args.text.now) _ (record { whole = search (rules, append-nil); nodes = inv.nodes; places = inv.places })
