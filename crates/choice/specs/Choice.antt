-- Choose: what it is lent, when it refuses, what it answers, and what the rows then hold.
use Rattle.std.specs.Prelude.{◌≡◌, ℕ, ◌≤◌, List, length, Ok, Err, Result}
use Rattle.delay.specs.Kind.{Kind}
use Rattle.wiring.specs.Net.{Net, Sound}
use Rattle.wiring.specs.Lists.{ListOf, Witness, words}
use Rattle.wiring.specs.declared.refusals.Refusal.{Refusal}
use Rattle.wiring.specs.declared.refusals.Refusal.TheVariants.{Room}
use Rattle.lengths.specs.declared.check.Fault.{Fault}
use Rattle.lengths.specs.Check.{Finds, refusal_of}
use Rattle.drawing.specs.declared.Counts.{Counts}
use Rattle.drawing.specs.Room.{Tables, RoomFor, TableShort}
use Rattle.drawing.specs.Rowed.{over, counts, RowShort}

-- how many entries the four tables have, and the two rows as they stand
pub record Lent : Type 0 where
  pub tables : Tables
  pub word_row : List ℕ
  pub witness_row : List ℕ

-- the answer, and the two rows after it
pub record Choice : Type 0 where
  pub answer : Result Counts Refusal
  pub word_row : List ℕ
  pub witness_row : List ℕ

-- a table is shorter than the wiring needs, or a row shorter than the list
pub data TooShort {D : Type 0} (K : Kind D) (N : Net D) (g : Lent) : Type 0 where
  short_table : TableShort N g.tables → TooShort K N g
  short_row : RowShort K N g.word_row g.witness_row → TooShort K N g

-- the wiring is refused before its list is looked for: the tables, which are scratch after that, are left as they are
pub data Early {D : Type 0} (K : Kind D) (N : Net D) (g : Lent) : Type 0 where
  by_fault : (f : Fault) → Finds K N f → Early K N g
  by_table : Sound K N → TableShort N g.tables → Early K N g

-- the tables have room for the wiring, and the rows for the list ps
pub record Enough {D : Type 0} (N : Net D) (ps : List (List ℕ)) (g : Lent) : Type 0 where
  pub tables : RoomFor N g.tables
  pub word_row : length (words ps) ≤ length g.word_row
  pub witness_row : length ps ≤ length g.witness_row

-- r is answered, and both rows are as before
pub record Refuses (g : Lent) (r : Refusal) (c : Choice) : Type 0 where
  pub answer : c.answer ≡ Err r
  pub word_row : c.word_row ≡ g.word_row
  pub witness_row : c.witness_row ≡ g.witness_row

-- the numbers of the list ps are answered; its words are written, and so is a witness
pub record Accepts {D : Type 0} (K : Kind D) (N : Net D) (g : Lent) (ps : List (List ℕ)) (c : Choice) : Type 0 where
  pub answer : c.answer ≡ Ok (counts ps)
  pub word_row : c.word_row ≡ over g.word_row (words ps)
  pub witness : List ℕ
  pub shows : Witness K N (length ps) witness
  pub witness_row : c.witness_row ≡ over g.witness_row witness

-- what choose makes of the wiring N under the kind K: the first fault is told before want of room
pub data Chosen {D : Type 0} (K : Kind D) (N : Net D) (g : Lent) (c : Choice) : Type 0 where
  faulty : (f : Fault) → Finds K N f → Refuses g (refusal_of f) c → Chosen K N g c
  too_short : Sound K N → TooShort K N g → Refuses g Room c → Chosen K N g c
  accepted : Sound K N → (ps : List (List ℕ)) → ListOf K N ps → Enough N ps g → Accepts K N g ps c → Chosen K N g c
