-- The tables that a choice works on, and whether they are long enough.
use Rattle.std.specs.Prelude.{ℕ, ◌+◌, ◌<◌, ◌≤◌}
use Rattle.wiring.specs.Net.{Net}

-- how many entries the four tables have: To, From, loads, marks
pub record Tables : Type 0 where
  pub to_table : ℕ
  pub from_table : ℕ
  pub load_table : ℕ
  pub mark_table : ℕ

-- they have room for the wiring: one length a node, one load a place, one mark for each of both
pub record RoomFor {D : Type 0} (N : Net D) (t : Tables) : Type 0 where
  pub to_table : N.nodes ≤ t.to_table
  pub from_table : N.nodes ≤ t.from_table
  pub load_table : N.places ≤ t.load_table
  pub mark_table : N.nodes + N.places ≤ t.mark_table

-- one of them is shorter than the wiring needs
pub data TableShort {D : Type 0} (N : Net D) (t : Tables) : Type 0 where
  to_table : t.to_table < N.nodes → TableShort N t
  from_table : t.from_table < N.nodes → TableShort N t
  load_table : t.load_table < N.places → TableShort N t
  mark_table : t.mark_table < N.nodes + N.places → TableShort N t
