-- Nine small wirings with the words of their lists.
use Rattle.std.specs.Prelude.{◌≡◌, ℕ, ◌<◌, Bool, true, false, List, [], ◌∷◌, map, length, Some, Option, slice_index_or}
use Rattle.std.specs.List.{AllByRecursion}
use Rattle.delay.specs.Kind.{Kind}
use Rattle.delay.specs.Delivered.{picosecond_kind, contact_kind, early_kind}
use Rattle.wiring.specs.declared.Lead.{Lead}
use Rattle.wiring.specs.Net.{Net}
use Rattle.wiring.specs.Views.{table_net}
use Rattle.wiring.specs.Lists.{ListOf, words}

-- a lead as it is written: its ends, its picoseconds and its contacts
pub record Written : Type 0 where
  pub tail : ℕ
  pub head : ℕ
  pub picoseconds : ℕ
  pub contacts : ℕ

-- the kind under which a wiring is read: picoseconds with the longest path first, or with the shortest; or picoseconds and contacts
pub data Reading : Type 0 where
  late : Reading
  early : Reading
  contact : Reading

-- a wiring with all its leads, the types of its leads where they are given, and the words of its list
pub record Row : Type 0 where
  pub kind : Reading
  pub nodes : ℕ
  pub leads : List Written
  pub types : List (Bool × Bool)
  pub words : List ℕ

-- the wiring of a row under a kind
abbrev pub read : {D : Type 0} → Kind D → Written → Option (Lead D)
read K w = Some (record { tail = w.tail; head = w.head; delay = K.reading w.picoseconds w.contacts })

abbrev pub wired : {D : Type 0} → Kind D → Row → Net D
wired K r = table_net r.nodes (map (read K) r.leads)

-- the list of the row's wiring has the row's words, and its leads have the row's types
pub record Gives {D : Type 0} (K : Kind D) (r : Row) : Type 0 where
  pub paths : List (List ℕ)
  pub list : ListOf K (wired K r) paths
  pub words_are : words paths ≡ r.words
  pub types_are : (k : ℕ) → k < length r.types → list.marks k ≡ slice_index_or r.types k (false, false)

abbrev pub Given : Reading → Row → Type 0
Given late r = Gives picosecond_kind r
Given early r = Gives (early_kind picosecond_kind) r
Given contact r = Gives contact_kind r

abbrev lead : ℕ → ℕ → ℕ → Written
lead t h p = record { tail = t; head = h; picoseconds = p; contacts = 0 }

abbrev touching : ℕ → ℕ → ℕ → ℕ → Written
touching t h p c = record { tail = t; head = h; picoseconds = p; contacts = c }

abbrev row : Reading → ℕ → List Written → List (Bool × Bool) → List ℕ → Row
row k n ls ts ws = record { kind = k; nodes = n; leads = ls; types = ts; words = ws }

-- two leads into node 2 and two out of it
abbrev star : List Written
star = lead 0 2 3 ∷ lead 1 2 1 ∷ lead 2 3 2 ∷ lead 2 4 2 ∷ []

abbrev pub rows : List Row
rows =
    -- nothing; and one lead, even without delay
    row late 0 [] [] []
    ∷ row late 2 (lead 0 1 0 ∷ []) [] (1 ∷ 0 ∷ [])
    -- one star: the longest paths first, then the shortest, then with contacts that tell leads of the same picoseconds apart
    ∷ row late 5 star [] (2 ∷ 0 ∷ 2 ∷ 2 ∷ 0 ∷ 3 ∷ 2 ∷ 1 ∷ 2 ∷ [])
    ∷ row early 5 star [] (2 ∷ 0 ∷ 2 ∷ 2 ∷ 1 ∷ 2 ∷ 2 ∷ 1 ∷ 3 ∷ [])
    ∷ row contact 5 (touching 0 2 3 1 ∷ touching 1 2 3 0 ∷ touching 2 3 2 0 ∷ touching 2 4 2 0 ∷ []) [] (2 ∷ 0 ∷ 2 ∷ 2 ∷ 0 ∷ 3 ∷ 2 ∷ 1 ∷ 2 ∷ [])
    -- two leads in and three out, all alike: the lower lead in gets the smaller load
    ∷ row late 6 (lead 0 2 1 ∷ lead 1 2 1 ∷ lead 2 3 1 ∷ lead 2 4 1 ∷ lead 2 5 1 ∷ []) [] (2 ∷ 0 ∷ 2 ∷ 2 ∷ 1 ∷ 3 ∷ 2 ∷ 1 ∷ 4 ∷ [])
    -- two leads side by side
    ∷ row late 2 (lead 0 1 5 ∷ lead 0 1 3 ∷ []) [] (1 ∷ 0 ∷ 1 ∷ 1 ∷ [])
    -- two leads in a row, and one past them that is longer; then one that is shorter
    ∷ row late 3 (lead 0 1 1 ∷ lead 1 2 1 ∷ lead 0 2 3 ∷ []) ((false, true) ∷ (true, false) ∷ (true, true) ∷ []) (2 ∷ 0 ∷ 1 ∷ 1 ∷ 2 ∷ [])
    ∷ row late 3 (lead 0 1 1 ∷ lead 1 2 1 ∷ lead 0 2 1 ∷ []) ((true, true) ∷ (true, true) ∷ (false, false) ∷ []) (2 ∷ 0 ∷ 1 ∷ 1 ∷ 2 ∷ [])
    ∷ []

-- every row is what the definitions give
abbrev pub RowsAreGiven : Type 0
RowsAreGiven = AllByRecursion (λ r. Given r.kind r) rows
