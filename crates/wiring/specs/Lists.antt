-- The list drawn from the best loads, its words, and its witness.
use Rattle.std.specs.Prelude.{◌≡◌, ℕ, suc, ◌+◌, ◌-◌, ◌<◌, Bool, true, false, cond, ◌&&◌, ◌⊎◌, List, [], ◌∷◌, ◌++◌, reverse, length, Some, None, Option, ◌==◌, nat_lt, slice_index}
use Rattle.delay.specs.Kind.{Kind}
use Rattle.wiring.specs.declared.Lead.{Lead}
use Rattle.wiring.specs.Net.{Net, is_lead, is_input, is_output}
use Rattle.wiring.specs.Paths.{PathOf, Covers}
use Rattle.wiring.specs.Lengths.{Marks, Types}
use Rattle.wiring.specs.Loads.{is_start_lead, is_end_lead, fed_in, drain_out, Best}

-- k is the lowest number at which P holds
pub record Lowest (P : ℕ → Bool) (k : ℕ) : Type 0 where
  pub holds : P k ≡ true
  pub below : (j : ℕ) → j < k → P j ≡ false

-- how often k stands on a list
abbrev pub count_on : ℕ → List ℕ → ℕ
count_on k [] = 0
count_on k (j ∷ js) = cond (k == j) 1 0 + count_on k js

-- a path is drawn for the sake of some of its leads, its core: what is left when each lead of the core is lowered by 1
abbrev pub lowered : (ℕ → ℕ) → List ℕ → ℕ → ℕ
lowered left core k = left k - count_on k core

-- the ends of the lead k
abbrev pub tail_in : {D : Type 0} → Option (Lead D) → ℕ
tail_in (Some l) = l.tail
tail_in None = 0

abbrev pub head_in : {D : Type 0} → Option (Lead D) → ℕ
head_in (Some l) = l.head
head_in None = 0

abbrev pub tail_at : {D : Type 0} → Net D → ℕ → ℕ
tail_at N k = tail_in (N.at k)

abbrev pub head_node : {D : Type 0} → Net D → ℕ → ℕ
head_node N k = head_in (N.at k)

-- a way of walking: where one is done, by which leads one may go from where one is, and where each brings one
pub record Walker : Type 0 where
  pub done : ℕ → Bool
  pub by : ℕ → ℕ → Bool
  pub next : ℕ → ℕ

-- the walk from v to w by the leads js, in the order in which they are met: always by the lowest lead, until one is done
abbrev pub Walk : Walker → ℕ → List ℕ → ℕ → Type 0
Walk X v [] w = (X.done v ≡ true) × (v ≡ w)
Walk X v (j ∷ js) w = (X.done v ≡ false) × Lowest (X.by v) j × Walk X (X.next j) js w

module _ {D : Type 0} (N : Net D) (m : Marks) where
  -- j is a start lead with something left; it is a draining lead out of v with something left
  abbrev pub begins : (ℕ → ℕ) → ℕ → Bool
  begins left j = is_start_lead N m j && nat_lt 0 (left j)

  abbrev pub goes : (ℕ → ℕ) → ℕ → ℕ → Bool
  goes left v j = drain_out N m v j && nat_lt 0 (left j)

  -- from lead to lead by draining leads with something left, until an end lead
  abbrev pub onwards : (ℕ → ℕ) → Walker
  onwards left = record { done = is_end_lead N m; by = λ k. goes left (head_node N k); next = λ j. j }

  -- from node to node by fed leads, backwards until an input
  abbrev pub backwards : Walker
  backwards = record { done = is_input N; by = fed_in N m; next = tail_at N }

  -- from node to node by draining leads, forwards until an output
  abbrev pub forwards : Walker
  forwards = record { done = is_output N; by = drain_out N m; next = head_node N }

  -- p is the path drawn next from what is left: its core from the lowest start lead on, and what extends it on both sides
  pub record Drawn (left : ℕ → ℕ) (core p : List ℕ) : Type 0 where
    pub start : ℕ
    pub rest : List ℕ
    pub stop : ℕ
    pub behind : List ℕ
    pub input : ℕ
    pub ahead : List ℕ
    pub output : ℕ
    pub lowest : Lowest (begins left) start
    pub onward : Walk (onwards left) start rest stop
    pub back : Walk backwards (tail_at N start) behind input
    pub fore : Walk forwards (head_node N stop) ahead output
    pub core_is : core ≡ start ∷ rest
    pub path_is : p ≡ reverse behind ++ (core ++ ahead)

  -- ps are the paths drawn from what is left, one after another, until nothing is left
  abbrev pub Draws : (ℕ → ℕ) → List (List ℕ) → Type 0
  Draws left [] = (k : ℕ) → left k ≡ 0
  Draws left (p ∷ ps) = (core : List ℕ) × Drawn left core p × Draws (lowered left core) ps

-- ps is the list of a wiring: it is drawn from the best loads
pub record ListOf {D : Type 0} (K : Kind D) (N : Net D) (ps : List (List ℕ)) : Type 0 where
  pub marks : Marks
  pub types : Types K N marks
  pub loads : ℕ → ℕ
  pub best : Best N marks loads
  pub draws : Draws N marks loads ps

-- the words of a list: for each path the number of its leads, then the leads
abbrev pub words : List (List ℕ) → List ℕ
words [] = []
words (p ∷ ps) = length p ∷ (p ++ words ps)

-- p is one of the paths; all of them are paths of the wiring
abbrev pub OneOf : List (List ℕ) → List ℕ → Type 0
OneOf [] p = ⊥
OneOf (q ∷ qs) p = (p ≡ q) ⊎ OneOf qs p

abbrev pub AllPaths : {D : Type 0} → Net D → List (List ℕ) → Type 0
AllPaths N ps = (p : List ℕ) → OneOf ps p → PathOf N p

-- for every lead some path of ps is longest through it
abbrev pub CoversAll : {D : Type 0} → Kind D → Net D → List (List ℕ) → Type 0
CoversAll K N ps = (k : ℕ) → is_lead N k ≡ true → (p : List ℕ) × OneOf ps p × Covers K N p k

-- w are n leads in ascending number, of which no path covers two: so no list of fewer than n paths covers every lead
pub record Witness {D : Type 0} (K : Kind D) (N : Net D) (n : ℕ) (w : List ℕ) : Type 0 where
  pub count : length w ≡ n
  pub ascending : (i : ℕ) → suc i < n → slice_index w i < slice_index w (suc i)
  pub leads : (i : ℕ) → i < n → is_lead N (slice_index w i) ≡ true
  pub apart : (i j : ℕ) (p : List ℕ) → i < n → j < n → Covers K N p (slice_index w i) → Covers K N p (slice_index w j) → i ≡ j
