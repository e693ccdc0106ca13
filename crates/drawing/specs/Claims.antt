-- What holds of the list of a wiring.
use Rattle.std.specs.Prelude.{◌≡◌, ℕ, ◌*◌, ◌<◌, ◌≤◌, true, List, length}
use Rattle.delay.specs.Kind.{Kind}
use Rattle.wiring.specs.Net.{Net, Sound}
use Rattle.wiring.specs.Lengths.{Marks, Types}
use Rattle.wiring.specs.Loads.{Loads, total_load}
use Rattle.wiring.specs.Lists.{Draws, ListOf, words, OneOf, AllPaths, CoversAll, Witness}
use Rattle.drawing.specs.Tests.{Certificate, paths_of, list_test}

-- what is drawn from loads f: the drawing is never stuck and ends, with as many paths as the total, and they cover every lead
pub record DrawnFrom {D : Type 0} (K : Kind D) (N : Net D) (m : Marks) (f : ℕ → ℕ) : Type 0 where
  pub list : List (List ℕ)
  pub draws : Draws N m f list
  pub number : length list ≡ total_load N m f
  pub paths : AllPaths N list
  pub covers : CoversAll K N list

abbrev pub DrawingEnds : {D : Type 0} → Kind D → Type 0
DrawingEnds {D} K = (N : Net D) → Sound K N → (m : Marks) → Types K N m → (f : ℕ → ℕ) → Loads N m f → DrawnFrom K N m f

-- a wiring and a kind have at most one list
abbrev pub OneList : Type 0 → Type 0
OneList D = (K : Kind D) (N : Net D) (ps qs : List (List ℕ)) → ListOf K N ps → ListOf K N qs → ps ≡ qs

-- wirings with the same leads at the same places have the same list, also where one has more vacant places or more bare nodes
abbrev pub SameLeadsSameList : Type 0 → Type 0
SameLeadsSameList D = (K : Kind D) (N M : Net D) → ((k : ℕ) → N.at k ≡ M.at k) → (ps : List (List ℕ)) → ListOf K N ps → ListOf K M ps

-- ps is a smallest cover: paths that cover every lead, and no list of paths that covers every lead is shorter, as a witness shows.
-- Since a list may name a path once or often, no set of paths that covers every lead is smaller
pub record SmallestCover {D : Type 0} (K : Kind D) (N : Net D) (ps : List (List ℕ)) : Type 0 where
  pub paths : AllPaths N ps
  pub covers : CoversAll K N ps
  pub least : (qs : List (List ℕ)) → AllPaths N qs → CoversAll K N qs → length ps ≤ length qs
  pub witness : (w : List ℕ) × Witness K N (length ps) w
  -- its paths are no more than the places, each has fewer leads than there are nodes, and so its words can be counted
  pub few : length ps ≤ N.places
  pub short : (p : List ℕ) → OneOf ps p → length p < N.nodes
  pub words_few : length (words ps) ≤ length ps * N.nodes

-- every sound wiring has a list, and it is a smallest cover
abbrev pub ListIsSmallestCover : {D : Type 0} → Kind D → Type 0
ListIsSmallestCover {D} K = (N : Net D) → Sound K N → (ps : List (List ℕ)) × ListOf K N ps × SmallestCover K N ps

-- paths whose certificate passes the test are the list
abbrev pub ListByTest : {D : Type 0} → Kind D → Type 0
ListByTest {D} K = (N : Net D) (c : Certificate) → list_test K N c ≡ true → ListOf K N (paths_of c)
