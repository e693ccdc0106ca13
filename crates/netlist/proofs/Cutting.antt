-- The lines of a text, by its cuts at byte 10.
use Rattle.std.proofs.Common.{◌≡◌, ℕ, suc, ◌+◌, ◌<◌, cond, List, [], ◌∷◌, ◌++◌, length, drop, sym, refl, ap, ◌∙◌, arith, ne_eqb}
use Rattle.std.proofs.lemmas.List.{drop-drop}
use Rattle.std.proofs.Math.Seq.{drop-append-add}
use Rattle.netlist.specs.Texts.{Lacks, Splits}
use Rattle.netlist.specs.Lines.{lines_of, onto}

-- another byte in front
more : (b : ℕ) (bs : List ℕ) → (b ≡ 10 → ⊥) → lines_of (b ∷ bs) ≡ onto b (lines_of bs)
more b bs n = ap (λ t. cond t ([] ∷ lines_of bs) (onto b (lines_of bs))) (ne_eqb b 10 n)

first_line : (f b : List ℕ) → Lacks 10 f → lines_of (f ++ (10 ∷ b)) ≡ f ∷ lines_of b
first_line [] b l = refl
first_line (a ∷ f) b l =
    more a (f ++ (10 ∷ b)) (l 0 (omega arith)) ∙ ap (onto a) (first_line f b (λ i h. l (suc i) (omega arith)))

pub line_cut : (bs f b : List ℕ) → Splits 10 bs f b → lines_of bs ≡ f ∷ lines_of b
line_cut bs f b s = ap lines_of s.whole ∙ first_line f b s.first

pub last_line : (bs : List ℕ) → 0 < length bs → Lacks 10 bs → lines_of bs ≡ bs ∷ []
last_line [] h l = absurd (omega arith)
last_line (a ∷ []) h l = more a [] (l 0 (omega arith))
last_line (a ∷ (b ∷ bs)) h l =
    more a (b ∷ bs) (l 0 (omega arith)) ∙ ap (onto a) (last_line (b ∷ bs) (omega arith) (λ i m. l (suc i) (omega arith)))

-- the offset behind a line and its byte 10
pub past_line : (bs rest f b : List ℕ) (i : ℕ) → rest ≡ drop i bs → Splits 10 rest f b → drop (i + (length f + 1)) bs ≡ b
past_line bs rest f b i e s =
    sym (drop-drop (length f + 1) i bs) ∙ ap (drop (length f + 1)) (sym e ∙ s.whole) ∙ drop-append-add f (10 ∷ b) 1
