-- The lines of a text.
use Rattle.std.specs.Prelude.{ℕ, cond, List, [], ◌∷◌, drop, ◌==◌}
use Rattle.netlist.specs.declared.lines.LineReader.{LineReader}

-- a byte in front of the first line
abbrev pub onto : ℕ → List (List ℕ) → List (List ℕ)
onto b [] = (b ∷ []) ∷ []
onto b (l ∷ ls) = (b ∷ l) ∷ ls

-- each byte 10 ends a line, and so does the end of the text, where bytes stand before it
abbrev pub lines_of : List ℕ → List (List ℕ)
lines_of [] = []
lines_of (b ∷ bs) = cond (b == 10) ([] ∷ lines_of bs) (onto b (lines_of bs))

-- the bytes that a reader has not handed out
abbrev pub ahead : LineReader → List ℕ
ahead r = drop r.at r.bytes.now

-- the lines that a reader has not handed out
abbrev pub lines_ahead : LineReader → List (List ℕ)
lines_ahead r = lines_of (ahead r)
