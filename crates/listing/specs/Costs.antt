-- How many words each unit of a lead's load adds to the list.
use Rattle.std.specs.Prelude.{◌≡◌, ℕ, ◌+◌, ◌≤◌, Bool, true, false, cond, List, length}
use Rattle.wiring.specs.Net.{Net}
use Rattle.wiring.specs.Lengths.{Marks}
use Rattle.wiring.specs.Loads.{is_start_lead, is_end_lead}
use Rattle.wiring.specs.Lists.{tail_at, head_node, Draws, words}
use Rattle.listing.specs.Walks.{way, WalkLong}

module _ {D : Type 0} (N : Net D) (m : Marks) where
  -- a core ends with the lead k or, the other way, it begins with it
  abbrev pub outer : Bool → ℕ → Bool
  outer along k = cond along (is_end_lead N m k) (is_start_lead N m k)

  -- n leads extend a core beyond the lead k: those of the walk that goes on where the core ends or begins with k, and else none
  pub record Extends (along : Bool) (k n : ℕ) : Type 0 where
    pub further : outer along k ≡ true → WalkLong (way N m along) (cond along (head_node N k) (tail_at N k)) n
    pub no_further : outer along k ≡ false → n ≡ 0
    pub small : n ≤ 4096

  -- a unit of the load of k is one of a core's, and adds c words: k itself and what extends the core beyond it on either side, and at a
  -- start lead the number of the path's leads
  pub record Cost (k c : ℕ) : Type 0 where
    pub before : ℕ
    pub after : ℕ
    pub back : Extends false k before
    pub fore : Extends true k after
    pub sums : c ≡ cond (is_start_lead N m k) 2 1 + before + after

  -- the list that is drawn from left has n words
  abbrev pub WordsNumber : (ℕ → ℕ) → ℕ → Type 0
  WordsNumber left n = (ps : List (List ℕ)) → Draws N m left ps → length (words ps) ≡ n
