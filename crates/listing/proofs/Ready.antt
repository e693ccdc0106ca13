-- What is known of walks and lists before they are looked for: they exist, and paths are short.
use Rattle.std.proofs.Common.{◌≡◌, ℕ, ◌<◌, ◌≤◌, Bool, true, false, List, length, arith}
use Rattle.delay.specs.Kind.{Kind, Laws}
use Rattle.wiring.specs.Net.{Net, Sound}
use Rattle.wiring.specs.Lengths.{Marks, Types}
use Rattle.wiring.specs.Loads.{Loads}
use Rattle.wiring.specs.Lists.{Walk, Draws, OneOf}
use Rattle.wiring.proofs.Ends.{out_inside}
use Rattle.lengths.proofs.Worked.{worked_tables}
use Rattle.drawing.proofs.Parts.{out_parts, in_parts, tail_of, head_of}
use Rattle.drawing.proofs.Left.{all_left}
use Rattle.drawing.proofs.Paths.{path_few}
use Rattle.drawing.proofs.Exist.{behind_exists, ahead_exists, draws_exist, draws_paths}
use Rattle.listing.specs.Walks.{way, Reached, nodes_on}

module _ {D : Type 0} {K : Kind D} {N : Net D} (S : Sound K N) (m : Marks) where
  -- each lead leaves fewer nodes that way
  pub fewer_on : (along : Bool) (v j : ℕ) → (way N m along).by v j ≡ true → nodes_on N along ((way N m along).next j) < nodes_on N along v
  fewer_on true v j e = let p = out_parts N m v j e in
      omega (arith, p.begins, head_of N j p.lead p.holds, S.upwards j p.lead p.holds, S.inside j p.lead p.holds)
  fewer_on false v j e = let p = in_parts N m v j e in omega (arith, p.ends, tail_of N j p.lead p.holds, S.upwards j p.lead p.holds)

pub few_on : {D : Type 0} {K : Kind D} {N : Net D} → Sound K N → (along : Bool) (v : ℕ) → Reached N along v → nodes_on N along v ≤ 4096
few_on S true v r = omega (arith, S.few_nodes)
few_on S false v r = omega (arith, out_inside S v r, S.few_nodes)

module _ {D : Type 0} {K : Kind D} (L : Laws K) {N : Net D} (S : Sound K N) {m : Marks} (Y : Types K N m) where
  pub walk_exists : (along : Bool) (v : ℕ) → Reached N along v → (js : List ℕ) × (w : ℕ) × Walk (way N m along) v js w
  walk_exists true v r = ahead_exists L S (worked_tables L S) Y v r
  walk_exists false v r = behind_exists L S (worked_tables L S) Y v r

  -- the list of loads, with paths short enough for a word
  pub list_drawn : (f : ℕ → ℕ) → Loads N m f → (ps : List (List ℕ)) × Draws N m f ps × ((p : List ℕ) → OneOf ps p → length p < 65536)
  list_drawn f F =
      let T = worked_tables L S in let d = draws_exist L S T Y f (all_left F) in
      (d.0, d.1, λ p o. omega (arith, path_few S (draws_paths L S T Y f d.0 d.1 p o), S.few_nodes))
