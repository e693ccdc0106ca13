-- The arcs of each node, linked from the lowest place up.
use Rattle.std.specs.Prelude.{◌≡◌, ℕ, ◌+◌, ◌<◌, ◌≤◌, Bool, true, false, cond, ◌&&◌, List, length, Some, None, Option, is_some, ◌==◌, slice_index_or}
use Rattle.flow.specs.Trails.{put}
use Rattle.marks.specs.declared.mark.Mark.{Mark}
use Rattle.marks.specs.Marks.{blank, begin_in, end_in, arc_of, classes}

abbrev pub arc_at : List Mark → ℕ → Bool
arc_at ps k = is_some (arc_of ps k)

abbrev pub begin_at : List Mark → ℕ → ℕ
begin_at ps k = begin_in (arc_of ps k)

abbrev pub end_at : List Mark → ℕ → ℕ
end_at ps k = end_in (arc_of ps k)

abbrev pub out_at : List Mark → ℕ → Option ℕ
out_at ms i = (slice_index_or ms i blank).out

abbrev pub into_at : List Mark → ℕ → Option ℕ
into_at ms i = (slice_index_or ms i blank).into

-- by the arcs that begin at a node, or by those that end there
abbrev pub link_at : List Mark → Bool → ℕ → Option ℕ
link_at ms along i = cond along (out_at ms i) (into_at ms i)

-- o is the lowest number from m on at which P holds
abbrev pub Earliest : (ℕ → Bool) → ℕ → Option ℕ → Type 0
Earliest P m None = (k : ℕ) → m ≤ k → P k ≡ false
Earliest P m (Some j) = (m ≤ j) × (P j ≡ true) × ((k : ℕ) → m ≤ k → k < j → P k ≡ false)

-- the arc at k, if A says that there is one, belongs to the node v by its end B
abbrev pub belongs : (ℕ → Bool) → (ℕ → ℕ) → ℕ → ℕ → Bool
belongs A B v k = A k && B k == v

-- first names for each node its lowest arc from m on
abbrev pub Heads : (ℕ → Bool) → (ℕ → ℕ) → ℕ → ℕ → (ℕ → Option ℕ) → Type 0
Heads A B n m first = (v : ℕ) → v < n → Earliest (belongs A B v) m (first v)

-- next names for each arc from m on the next arc of its node
abbrev pub Nexts : (ℕ → Bool) → (ℕ → ℕ) → ℕ → (ℕ → Option ℕ) → Type 0
Nexts A B m next = (k : ℕ) → m ≤ k → A k ≡ true → Earliest (belongs A B (B k)) (k + 1) (next k)

-- the nodes ns and the places ps are linked over the places from m on
pub record Linked (ps ns : List Mark) (m : ℕ) : Type 0 where
  pub out : Heads (arc_at ps) (begin_at ps) (length ns) m (out_at ns)
  pub into : Heads (arc_at ps) (end_at ps) (length ns) m (into_at ns)
  pub next_out : Nexts (arc_at ps) (begin_at ps) m (out_at ps)
  pub next_into : Nexts (arc_at ps) (end_at ps) m (into_at ps)

-- the arcs have stayed
pub record ArcsKept (ps qs : List Mark) : Type 0 where
  pub arc : arc_at qs ≡ arc_at ps
  pub begin : begin_at qs ≡ begin_at ps
  pub end : end_at qs ≡ end_at ps
  pub classes : classes qs ≡ classes ps
  pub places : length qs ≡ length ps

-- the place k, which has an arc, is put in front of the arcs of its nodes
pub record PlaceLinked (ps ns qs ms : List Mark) (k : ℕ) : Type 0 where
  pub arcs : ArcsKept ps qs
  pub next_out : out_at qs ≡ put (out_at ps) k (out_at ns (begin_at ps k))
  pub next_into : into_at qs ≡ put (into_at ps) k (into_at ns (end_at ps k))
  pub out : out_at ms ≡ put (out_at ns) (begin_at ps k) (Some k)
  pub into : into_at ms ≡ put (into_at ns) (end_at ps k) (Some k)
