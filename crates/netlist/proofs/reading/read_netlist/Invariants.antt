use Rattle.std.proofs.Common.{◌≡◌, ◌++◌, map, vec_items}
use Rattle.std.specs.List.{AllByRecursion}
use Rattle.netlist.specs.Texts.{Below, PlaceInRange, place_text}
use Rattle.netlist.specs.Lines.{lines_of, lines_ahead}
use Rattle.netlist.specs.Outcomes.{head_lines}
use Rattle.netlist.proofs.reading.read_netlist.Given as goal

-- the places so far, with the lines ahead behind them, are the text's
abbrev pub invariant-loop-line : goal.invariant-loop-line
invariant-loop-line l = record {
  whole : lines_of l.text ≡ head_lines l.kind l.nodes (map (place_text l.kind) (vec_items l.places) ++ lines_ahead l.line-iterator);
  places : AllByRecursion (PlaceInRange l.kind) (vec_items l.places);
  nodes : Below 32 l.nodes;
}
