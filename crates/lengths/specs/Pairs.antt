-- The lengths to and from the nodes, in two tables.
use Rattle.std.specs.Prelude.{ℕ, Bool, length, min}
use Rattle.delay.specs.Kind.{Kind}
use Rattle.wiring.specs.declared.Lead.{Lead}
use Rattle.wiring.specs.Net.{Net}
use Rattle.wiring.specs.Lengths.{Marks, marks_of, type_by, through_by}
use Rattle.lengths.specs.Tables.{entry, Untouched, Refilled}
use Rattle.lengths.specs.Asked.{Filled}
use Rattle.lengths.specs.declared.pair.LengthPair.{LengthPair}

-- the wiring is sound and the tables hold its lengths
abbrev pub FilledIn : {D : Type 0} → Kind D → Net D → LengthPair D → Type 0
FilledIn K N p = Filled K N p.to.table.now p.from.table.now

-- the type of a lead, and what passes through it, by what the tables hold
abbrev pub type_in : {D : Type 0} → Kind D → LengthPair D → Lead D → Bool × Bool
type_in K p = type_by K (entry K p.to.table.now) (entry K p.from.table.now)

abbrev pub through_in : {D : Type 0} → Kind D → LengthPair D → Lead D → D
through_in K p = through_by K (entry K p.to.table.now) (entry K p.from.table.now)

-- the types of all leads
abbrev pub marks_held : {D : Type 0} → Kind D → Net D → LengthPair D → Marks
marks_held K N p = marks_of K N (entry K p.to.table.now) (entry K p.from.table.now)

-- how many entries the shorter table has
abbrev pub room_in : {D : Type 0} → LengthPair D → ℕ
room_in p = min (length p.to.table.now) (length p.from.table.now)

-- both tables after they were only asked
pub record PairKept {D : Type 0} (a b : LengthPair D) : Type 0 where
  pub to : Untouched a.to b.to
  pub from : Untouched a.from b.from

-- both tables before and after their first n entries were written
pub record PairRefilled {D : Type 0} (n : ℕ) (a b : LengthPair D) : Type 0 where
  pub to : Refilled n a.to b.to
  pub from : Refilled n a.from b.from
