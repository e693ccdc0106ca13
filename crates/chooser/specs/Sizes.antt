-- The tables that a choice works on: how long they are, and that they stayed.
use Rattle.std.specs.Prelude.{◌≡◌, length}
use Rattle.drawing.specs.Room as room
use Rattle.chooser.specs.declared.tables.Tables.{Tables}

-- how many entries the four tables have
abbrev pub sizes : {D : Type 0} → Tables D → room.Tables
sizes t = record { to_table = length t.lengths.to.table.now; from_table = length t.lengths.from.table.now; load_table = length t.loads.now; mark_table = length t.marks.now }

-- the tables are the same lent ones, and as long
pub record SameLent {D : Type 0} (a b : Tables D) : Type 0 where
  pub to : b.lengths.to.table.ghost_name ≡ a.lengths.to.table.ghost_name
  pub from : b.lengths.from.table.ghost_name ≡ a.lengths.from.table.ghost_name
  pub loads : b.loads.ghost_name ≡ a.loads.ghost_name
  pub marks : b.marks.ghost_name ≡ a.marks.ghost_name
  pub sizes_kept : sizes b ≡ sizes a

-- all entries are as before
pub record TablesKept {D : Type 0} (a b : Tables D) : Type 0 where
  pub to : b.lengths.to.table.now ≡ a.lengths.to.table.now
  pub from : b.lengths.from.table.now ≡ a.lengths.from.table.now
  pub loads : b.loads.now ≡ a.loads.now
  pub marks : b.marks.now ≡ a.marks.now
