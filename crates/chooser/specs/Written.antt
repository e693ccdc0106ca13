-- The list and the witness of a wiring, written into two rows.
use Rattle.std.specs.Prelude.{◌≡◌, ℕ, List, length, Ok, Err, Result}
use Rattle.delay.specs.Kind.{Kind}
use Rattle.wiring.specs.Net.{Net}
use Rattle.wiring.specs.Lists.{ListOf, Witness, words}
use Rattle.wiring.specs.declared.refusals.Refusal.{Refusal}
use Rattle.wiring.specs.declared.refusals.Refusal.TheVariants.{Room}
use Rattle.drawing.specs.declared.Counts.{Counts}
use Rattle.drawing.specs.Rowed.{over, counts, RowShort}

-- c are the numbers of the list of N; the word row begins with its words and the witness row with a witness, and past them both are as before
pub record Written {D : Type 0} (K : Kind D) (N : Net D) (word_row witness_row words_after witness_after : List ℕ) (c : Counts) : Type 0 where
  pub list : List (List ℕ)
  pub is_list : ListOf K N list
  pub numbers : c ≡ counts list
  pub words_are : words_after ≡ over word_row (words list)
  pub witness : List ℕ
  pub shows : Witness K N (length list) witness
  pub witness_is : witness_after ≡ over witness_row witness

-- what is answered and what both rows then hold: list and witness, or want of room with both rows as before
abbrev pub Rows : {D : Type 0} → Kind D → Net D → List ℕ → List ℕ → List ℕ → List ℕ → Result Counts Refusal → Type 0
Rows K N word_row witness_row words_after witness_after (Ok c) = Written K N word_row witness_row words_after witness_after c
Rows K N word_row witness_row words_after witness_after (Err r) =
    (r ≡ Room) × RowShort K N word_row witness_row × (words_after ≡ word_row) × (witness_after ≡ witness_row)
