-- What holds of every choice, and of the lists of sheets, whatever calls made them.
use Rattle.std.specs.Prelude.{◌≡◌, ℕ, ◌<◌, ◌≤◌, List, length, take, drop, Ok, Err, Result}
use Rattle.std.specs.List.{AllByRecursion}
use Rattle.delay.specs.Kind.{Kind}
use Rattle.wiring.specs.Net.{Net, Sound}
use Rattle.wiring.specs.Lists.{ListOf, words, AllPaths, CoversAll, Witness}
use Rattle.wiring.specs.declared.refusals.Refusal.{Refusal}
use Rattle.wiring.specs.declared.refusals.Refusal.TheVariants.{Room}
use Rattle.circuit.specs.Sheet.{PlainSheet, Tables, held}
use Rattle.circuit.specs.Histories.{History}
use Rattle.circuit.specs.Spread.{spread}
use Rattle.drawing.specs.declared.Counts.{Counts}
use Rattle.choice.specs.Choice.{Lent, Choice, Early, Enough, Refuses, Accepts, Chosen}

-- the same signs, and the same leads at the same places; place counts may differ
pub record Equal (s t : PlainSheet) : Type 0 where
  pub signs : s.signs ≡ t.signs
  pub leads : (k : ℕ) → held s k ≡ held t k

-- how many entries of the witness row are the witness
abbrev pub witness_size : Result Counts Refusal → ℕ
witness_size (Ok n) = n.paths
witness_size (Err r) = 0

-- the same answer and the same words; the witness rows differ in the witness alone
pub record Agree (c d : Choice) : Type 0 where
  pub answer : c.answer ≡ d.answer
  pub word_row : c.word_row ≡ d.word_row
  pub witness_row : drop (witness_size c.answer) c.witness_row ≡ drop (witness_size c.answer) d.witness_row

-- the n.words words of the word row are a list of n.paths paths that covers every lead; no list of paths that does so is shorter, and the witness shows it
pub record Right {D : Type 0} (K : Kind D) (N : Net D) (n : Counts) (c : Choice) : Type 0 where
  pub paths : List (List ℕ)
  pub list : ListOf K N paths
  pub path_number : length paths ≡ n.paths
  pub word_number : length (words paths) ≡ n.words
  pub words_are : take n.words c.word_row ≡ words paths
  pub words_fit : AllByRecursion (λ w. w < 4096) (words paths)
  pub are_paths : AllPaths N paths
  pub covers : CoversAll K N paths
  pub least : (qs : List (List ℕ)) → AllPaths N qs → CoversAll K N qs → n.paths ≤ length qs
  pub witness : Witness K N n.paths (take n.paths c.witness_row)

module _ {D : Type 0} (K : Kind D) where
  -- whatever it is lent, choose can keep to its rules
  abbrev pub ChoiceExists : Type 0
  ChoiceExists = (N : Net D) (g : Lent) → (c : Choice) × Chosen K N g c

  -- the rules leave only the witness free
  abbrev pub ChoicePinned : Type 0
  ChoicePinned = (N : Net D) (g : Lent) (c d : Choice) → Chosen K N g c → Chosen K N g d → Agree c d

  -- what is accepted is right
  abbrev pub ChoiceRight : Type 0
  ChoiceRight = (N : Net D) (g : Lent) (c : Choice) (n : Counts) → Chosen K N g c → c.answer ≡ Ok n → Right K N n c

  -- what is refused early is refused, and leaves both rows
  abbrev pub EarlyRefused : Type 0
  EarlyRefused = (N : Net D) (g : Lent) (c : Choice) → Early K N g → Chosen K N g c → (r : Refusal) × Refuses g r c

  -- a sound wiring is accepted wherever there is room for its list
  abbrev pub ChoiceAccepts : Type 0
  ChoiceAccepts = (N : Net D) (ps : List (List ℕ)) → Sound K N → ListOf K N ps →
      (g : Lent) (c : Choice) → Enough N ps g → Chosen K N g c → Accepts K N g ps c

  -- the spread of a sheet, whatever calls made it, is refused only for want of room
  abbrev pub SpreadsWantRoom : Type 0
  SpreadsWantRoom = (z : Tables) (s : PlainSheet) → History z s →
      (g : Lent) (c : Choice) (r : Refusal) → Chosen K (spread K s) g c → c.answer ≡ Err r → r ≡ Room

  -- a list of a sheet is a list of every equal one, whatever calls and tables made them
  abbrev pub ListsCarryOver : Type 0
  ListsCarryOver = (z y : Tables) (s t : PlainSheet) → History z s → History y t → Equal s t →
      (ps : List (List ℕ)) → ListOf K (spread K s) ps → ListOf K (spread K t) ps

  -- so two histories with equal sheets have the same list, word for word
  abbrev pub HistoriesAgree : Type 0
  HistoriesAgree = (z y : Tables) (s t : PlainSheet) → History z s → History y t → Equal s t →
      (ps qs : List (List ℕ)) → ListOf K (spread K s) ps → ListOf K (spread K t) qs → (ps ≡ qs) × (words ps ≡ words qs)

  -- and are never given different numbers or different words, whatever is lent
  abbrev pub EqualSheetsAgree : Type 0
  EqualSheetsAgree = (z y : Tables) (s t : PlainSheet) → History z s → History y t → Equal s t →
      (g h : Lent) (c d : Choice) (n m : Counts) → Chosen K (spread K s) g c → Chosen K (spread K t) h d → c.answer ≡ Ok n → d.answer ≡ Ok m →
      (n ≡ m) × (take n.words c.word_row ≡ take m.words d.word_row)

  -- all of it
  pub record ChoicesStand : Type 0 where
    pub exists : ChoiceExists
    pub pinned : ChoicePinned
    pub right : ChoiceRight
    pub early : EarlyRefused
    pub accepts : ChoiceAccepts
    pub want_room : SpreadsWantRoom
    pub carry_over : ListsCarryOver
    pub histories : HistoriesAgree
    pub agree : EqualSheetsAgree
