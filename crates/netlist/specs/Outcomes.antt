-- What it is that a text is a netlist's, and that it fails at a line.
use Rattle.std.specs.Prelude.{◌≡◌, ℕ, ◌+◌, List, [], ◌∷◌, ◌++◌, map, length, Ok, Err, vec_items, decimal, Option, Result, MatchResult}
use Rattle.std.specs.List.{AllByRecursion}
use Rattle.netlist.specs.declared.KindName.{KindName}
use Rattle.netlist.specs.declared.KindName.TheVariants.{Late, Contact}
use Rattle.netlist.specs.declared.Wire.{Wire}
use Rattle.netlist.specs.declared.Netlist.{Netlist}
use Rattle.netlist.specs.declared.Expected.{Expected}
use Rattle.netlist.specs.declared.Expected.TheVariants.{Kind, Nodes, Lead, LeadWithContacts}
use Rattle.netlist.specs.declared.ReadError.{ReadError}
use Rattle.netlist.specs.declared.ReadError.TheVariants.{Line, NoMemory}
use Rattle.netlist.specs.Texts.{Below, PlaceInRange, kind_text, place_text}
use Rattle.netlist.specs.Forms.{lead_form}

-- the first two lines
abbrev pub head_lines : KindName → ℕ → List (List ℕ) → List (List ℕ)
head_lines k n more = kind_text k ∷ (decimal n ∷ more)

-- the lines are those of the netlist, whose numbers are in range
pub record Written (lines : List (List ℕ)) (n : Netlist) : Type 0 where
  pub whole : lines ≡ head_lines n.kind n.nodes (map (place_text n.kind) (vec_items n.places))
  pub nodes : Below 32 n.nodes
  pub places : AllByRecursion (PlaceInRange n.kind) (vec_items n.places)

-- a good start of a netlist, and what has to follow it
pub data Due : List (List ℕ) → Expected → Type 0 where
  none : Due [] Kind
  kind : (k : KindName) → Due (kind_text k ∷ []) Nodes
  places : (k : KindName) (n : ℕ) (ps : List (Option Wire)) → Below 32 n → AllByRecursion (PlaceInRange k) ps → Due (head_lines k n (map (place_text k) ps)) (lead_form k)

-- the line is as expected
abbrev pub Meets : Expected → List ℕ → Type 0
Meets Kind line = (k : KindName) × (line ≡ kind_text k)
Meets Nodes line = (n : ℕ) × Below 32 n × (line ≡ decimal n)
Meets Lead line = (p : Option Wire) × PlaceInRange Late p × (line ≡ place_text Late p)
Meets LeadWithContacts line = (p : Option Wire) × PlaceInRange Contact p × (line ≡ place_text Contact p)

-- a netlist does not end before such a line
abbrev pub Needed : Expected → Type 0
Needed Kind = Unit {0}
Needed Nodes = Unit {0}
Needed Lead = ⊥
Needed LeadWithContacts = ⊥

-- the first of the lines is not as expected, or is missing
abbrev pub Wrong : Expected → List (List ℕ) → Type 0
Wrong e [] = Needed e
Wrong e (line ∷ more) = Meets e line → ⊥

-- the lines before the one with this number are good, and that one is not
pub record Fails (lines : List (List ℕ)) (number : ℕ) (e : Expected) : Type 0 where
  pub before : List (List ℕ)
  pub after : List (List ℕ)
  pub whole : lines ≡ before ++ after
  pub counted : number ≡ length before + 1
  pub due : Due before e
  pub wrong : Wrong e after

-- why the lines are refused
abbrev pub NotRead : List (List ℕ) → ReadError → Type 0
NotRead lines (Line number e) = Fails lines number e
NotRead lines NoMemory = Unit {0}

-- m has what n has
pub record Same (m n : Netlist) : Type 0 where
  pub kind : m.kind ≡ n.kind
  pub nodes : m.nodes ≡ n.nodes
  pub places : vec_items m.places ≡ vec_items n.places

-- n came back, unless there was no memory for it
abbrev pub Back : Netlist → Result Netlist ReadError → Type 0
Back n (Ok m) = Same m n
Back n (Err (Line number e)) = ⊥
Back n (Err NoMemory) = Unit {0}

-- what reading the lines answers: the netlist that they are of, and no other answer to a netlist's own
pub record Outcome (lines : List (List ℕ)) (r : Result Netlist ReadError) : Type 0 where
  pub gives : MatchResult r (Written lines) (NotRead lines)
  pub back : (n : Netlist) → Written lines n → Back n r
