-- A list and its numbers as they are told and written, and whether two rows have room for them.
use Rattle.std.specs.Prelude.{ℕ, ◌<◌, List, ◌++◌, length, drop}
use Rattle.delay.specs.Kind.{Kind}
use Rattle.wiring.specs.Net.{Net}
use Rattle.wiring.specs.Lists.{ListOf, words}
use Rattle.drawing.specs.declared.Counts.{Counts}

-- the row with xs written over its beginning, and past them as before
abbrev pub over : List ℕ → List ℕ → List ℕ
over row xs = xs ++ drop (length xs) row

-- how many paths and how many words
abbrev pub counts : List (List ℕ) → Counts
counts ps = record { paths = length ps; words = length (words ps) }

-- a row is shorter than the list needs
pub data RowShort {D : Type 0} (K : Kind D) (N : Net D) (word_row witness_row : List ℕ) : Type 0 where
  for_words : (ps : List (List ℕ)) → ListOf K N ps → length word_row < length (words ps) → RowShort K N word_row witness_row
  for_witness : (ps : List (List ℕ)) → ListOf K N ps → length witness_row < length ps → RowShort K N word_row witness_row
