-- The best loads of a wiring in a load table.
use Rattle.std.specs.Prelude.{◌≡◌, ℕ, List}
use Rattle.delay.specs.Kind.{Kind}
use Rattle.wiring.specs.Net.{Net, Sound}
use Rattle.wiring.specs.Lengths.{Marks, Types}
use Rattle.wiring.specs.Loads.{Best, total_load}
use Rattle.lengths.specs.declared.table.FillError.{FillError}
use Rattle.lengths.specs.declared.table.FillError.TheVariants.{Unsound, Short}
use Rattle.lengths.specs.Check.{Finds}
use Rattle.marks.specs.Marks.{load_of}
use Rattle.drawing.specs.Room.{Tables, TableShort}

-- xs are the best loads of N, an entry a place, and total is their total. A wiring has one table of types only and one best loads only,
-- so there is nothing else that they could be
pub record HoldsBest {D : Type 0} (K : Kind D) (N : Net D) (xs : List ℕ) (total : ℕ) : Type 0 where
  pub marks : Marks
  pub types : Types K N marks
  pub best : Best N marks (load_of xs)
  pub total_is : total ≡ total_load N marks (load_of xs)

-- x is the best load of the lead k
pub record BestLoad {D : Type 0} (K : Kind D) (N : Net D) (k x : ℕ) : Type 0 where
  pub marks : Marks
  pub types : Types K N marks
  pub loads : ℕ → ℕ
  pub best : Best N marks loads
  pub is : x ≡ loads k

-- x is the total of the best loads
pub record BestTotal {D : Type 0} (K : Kind D) (N : Net D) (x : ℕ) : Type 0 where
  pub marks : Marks
  pub types : Types K N marks
  pub loads : ℕ → ℕ
  pub best : Best N marks loads
  pub is : x ≡ total_load N marks loads

-- e is why no loads are found: a fault of the wiring comes before a table that is too short
abbrev pub NotLoaded : {D : Type 0} → Kind D → Net D → Tables → FillError → Type 0
NotLoaded K N t (Unsound f) = Finds K N f
NotLoaded K N t Short = Sound K N × TableShort N t
