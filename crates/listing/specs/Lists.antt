-- A drawn list that is written into a row.
use Rattle.std.specs.Prelude.{◌≡◌, ℕ, List, ◌++◌, length, drop}
use Rattle.wiring.specs.Net.{Net}
use Rattle.wiring.specs.Lengths.{Marks}
use Rattle.wiring.specs.Lists.{Draws, words}
use Rattle.drawing.specs.declared.Counts.{Counts}

-- the row begins with the words of the list that is drawn from left, and else is unchanged; r is the list's number of paths and of words
pub record ListPut {D : Type 0} (N : Net D) (m : Marks) (left : ℕ → ℕ) (row after : List ℕ) (r : Counts) : Type 0 where
  pub list : List (List ℕ)
  pub draws : Draws N m left list
  pub row_is : after ≡ words list ++ drop (length (words list)) row
  pub path_number : r.paths ≡ length list
  pub word_number : r.words ≡ length (words list)
