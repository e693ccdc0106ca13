-- A drawn path that is written into a row.
use Rattle.std.specs.Prelude.{◌≡◌, ℕ, ◌+◌, ◌<◌, ◌≤◌, List, ◌∷◌, length}
use Rattle.wiring.specs.Net.{Net}
use Rattle.wiring.specs.Lengths.{Marks}
use Rattle.wiring.specs.Lists.{lowered, Drawn}
use Rattle.listing.specs.declared.row.WordRow.{WordRow}
use Rattle.listing.specs.Row.{unwritten, Wrote}

-- the path that is drawn next begins its core with start, its number of leads fits a word, and there is room in the row for both
pub record PathFits {D : Type 0} (N : Net D) (m : Marks) (left : ℕ → ℕ) (start : ℕ) (r : WordRow) : Type 0 where
  pub core : List ℕ
  pub path : List ℕ
  pub drawn : Drawn N m left core path
  pub first : drawn.start ≡ start
  pub room : 1 + length path ≤ length (unwritten r)
  pub short : length path < 65536

-- the path that is drawn next from left has been written behind its number of leads, and what is left then is lower
pub record PathPut {D : Type 0} (N : Net D) (m : Marks) (left : ℕ → ℕ) (r : WordRow) (lower : ℕ → ℕ) (s : WordRow) : Type 0 where
  pub core : List ℕ
  pub path : List ℕ
  pub drawn : Drawn N m left core path
  pub put : Wrote r s (length path ∷ path)
  pub left_is : lower ≡ lowered left core
