-- What holds of covering, of best loads and of lists of paths, for every kind that keeps the laws and every sound wiring.
use Rattle.std.specs.Prelude.{◌≡◌, ℕ, ◌≤◌, Bool, true, ◌⊎◌, ◌↔◌, List, ◌∷◌, ◌++◌, length}
use Rattle.delay.specs.Kind.{Kind}
use Rattle.wiring.specs.declared.Lead.{Lead}
use Rattle.wiring.specs.Net.{Net, Holds, Sound}
use Rattle.wiring.specs.Paths.{PathOf, Covers, delay_of}
use Rattle.wiring.specs.Lengths.{To, From, Fed, Drains, Marks, Types}
use Rattle.wiring.specs.Loads.{is_start_lead, is_end_lead, Loads, Best, total_load}
use Rattle.wiring.specs.Lists.{AllPaths, CoversAll, Witness}
use Rattle.flow.specs.Table as flow
use Rattle.flow.specs.Loads as load
use Rattle.cover.specs.Arcs.{arc_table, listed}

-- covering seen from the leads of a path
pub record LocalCovering {D : Type 0} (K : Kind D) (N : Net D) : Type 0 where
  -- a path covers its lead k just where it is longest up to k's tail and longest from k's head
  pub parts : (k : ℕ) (l : Lead D) → Holds N k l → (pre post : List ℕ) → PathOf N (pre ++ (k ∷ post)) →
      Covers K N (pre ++ (k ∷ post)) k ↔ (To K N l.tail (delay_of K N pre) × From K N l.head (delay_of K N post))
  -- so whether it covers k is decided
  pub decided : (p : List ℕ) (k : ℕ) → PathOf N p → Covers K N p k ⊎ (Covers K N p k → ⊥)
  -- covering passes from k to the next lead j just where k is fed and j drains
  pub passes : (k j : ℕ) (pre post : List ℕ) →
      (Covers K N (pre ++ (k ∷ (j ∷ post))) k × Fed K N k) ↔ (Covers K N (pre ++ (k ∷ (j ∷ post))) j × Drains K N j)
  -- after a lead that is not fed nothing is covered, and before a lead that does not drain nothing is
  pub unfed_last : (k j : ℕ) (pre mid post : List ℕ) → (Fed K N k → ⊥) → Covers K N (pre ++ (k ∷ (mid ++ (j ∷ post)))) j → ⊥
  pub undrained_first : (k j : ℕ) (pre mid post : List ℕ) → (Drains K N j → ⊥) → Covers K N (pre ++ (k ∷ (mid ++ (j ∷ post)))) k → ⊥
  -- so a path covers at most one start lead and at most one end lead
  pub one_start : (m : Marks) → Types K N m → (k j : ℕ) (p : List ℕ) → Covers K N p k → Covers K N p j →
      is_start_lead N m k ≡ true → is_start_lead N m j ≡ true → k ≡ j
  pub one_end : (m : Marks) → Types K N m → (k j : ℕ) (p : List ℕ) → Covers K N p k → Covers K N p j →
      is_end_lead N m k ≡ true → is_end_lead N m j ≡ true → k ≡ j

abbrev pub CoveringIsLocal : {D : Type 0} → Kind D → Type 0
CoveringIsLocal {D} K = (N : Net D) → Sound K N → LocalCovering K N

-- the table T of arcs has the loads of the wiring N, with their totals, and its best loads
pub record SameLoads {D : Type 0} (N : Net D) (m : Marks) (T : flow.Table) : Type 0 where
  pub sound : flow.Sound T
  pub joined : flow.Joined T
  pub loads : (f : ℕ → ℕ) → Loads N m f ↔ load.Loads T f
  pub total : (f : ℕ → ℕ) → load.total T f ≡ total_load N m f
  pub best : (f : ℕ → ℕ) → Best N m f ↔ load.Best T f

abbrev pub LoadsAreArcLoads : {D : Type 0} → Kind D → Type 0
LoadsAreArcLoads {D} K = (N : Net D) → Sound K N → (m : Marks) → Types K N m → SameLoads N m (arc_table N m)

-- no load is above the total
abbrev pub LoadWithinTotal : {D : Type 0} → Kind D → Type 0
LoadWithinTotal {D} K = (N : Net D) → Sound K N → (m : Marks) (f : ℕ → ℕ) → Loads N m f → (k : ℕ) → f k ≤ total_load N m f

-- the types and the best loads of a wiring: one of each, and no others
pub record OneBest {D : Type 0} (K : Kind D) (N : Net D) : Type 0 where
  pub marks : Marks
  pub types : Types K N marks
  pub loads : ℕ → ℕ
  pub best : Best N marks loads
  pub only_marks : (m : Marks) → Types K N m → marks ≡ m
  pub only_loads : (g : ℕ → ℕ) → Best N marks g → loads ≡ g

abbrev pub OneBestLoads : {D : Type 0} → Kind D → Type 0
OneBestLoads {D} K = (N : Net D) → Sound K N → OneBest K N

-- every list of paths that covers every lead has at least as many paths as the total of the best loads;
-- since a list may name a path once or often, that holds of every set of paths
abbrev pub NoShorterList : {D : Type 0} → Kind D → Type 0
NoShorterList {D} K = (N : Net D) → Sound K N → (m : Marks) → Types K N m → (f : ℕ → ℕ) → Best N m f →
    (ps : List (List ℕ)) → AllPaths N ps → CoversAll K N ps → total_load N m f ≤ length ps

-- the leads that enter a tight cut, in ascending number, are a witness for the total: no path covers two of them
abbrev pub WitnessOfCut : {D : Type 0} → Kind D → Type 0
WitnessOfCut {D} K = (N : Net D) → Sound K N → (m : Marks) → Types K N m → (f : ℕ → ℕ) → Loads N m f →
    (R : ℕ → Bool) → load.Tight (arc_table N m) f R → Witness K N (total_load N m f) (listed (flow.entering (arc_table N m) R) N.places)

-- and best loads have a witness
abbrev pub WitnessExists : {D : Type 0} → Kind D → Type 0
WitnessExists {D} K = (N : Net D) → Sound K N → (m : Marks) → Types K N m → (f : ℕ → ℕ) → Best N m f →
    (w : List ℕ) × Witness K N (total_load N m f) w
