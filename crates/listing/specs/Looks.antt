-- What is looked up of an arc, and what is looked for along the links of the arcs that begin at a node.
use Rattle.std.specs.Prelude.{◌≡◌, ℕ, Bool, true, cond, ◌&&◌, Some, None, Option, nat_lt}
use Rattle.flow.specs.Table.{Table, begins, ends}
use Rattle.marks.specs.Links.{Earliest}

-- the arc at k ends at the sink or, the other way, it begins at the source
abbrev pub outer_arc : Table → Bool → ℕ → Bool
outer_arc T along k = cond along (ends T T.sink k) (begins T T.source k)

-- at a place that is named, there is an arc
abbrev pub AtArc : Table → Option ℕ → Type 0
AtArc T None = Unit {0}
AtArc T (Some k) = T.arc k ≡ true

-- the arc at k begins at v and has something left
abbrev pub begins_left : Table → (ℕ → ℕ) → ℕ → ℕ → Bool
begins_left T left v k = begins T v k && nat_lt 0 (left k)

-- if from is the lowest arc from n on that begins at v, then o is the lowest from n on that does so and has something left
abbrev pub FoundFrom : Table → (ℕ → ℕ) → Option ℕ → Option ℕ → Type 0
FoundFrom T left from o = (v n : ℕ) → Earliest (begins T v) n from → Earliest (begins_left T left v) n o
