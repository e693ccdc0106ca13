-- The arcs of a node, as a list of places.
use Rattle.std.specs.Prelude.{◌≡◌, ℕ, ◌-◌, Bool, true, cond, List, [], ◌∷◌, length, Option, Some, None}
use Rattle.std.specs.List.{filter, range_with_len}
use Rattle.marks.specs.declared.mark.Mark.{Mark}
use Rattle.marks.specs.Links.{arc_at, begin_at, end_at, link_at, belongs}

-- the end of an arc at which it is linked: where it begins or, against, where it ends
abbrev pub near_at : List Mark → Bool → ℕ → ℕ
near_at ps along k = cond along (begin_at ps k) (end_at ps k)

-- the arcs of the node v, ascending
abbrev pub arcs_of : List Mark → Bool → ℕ → List ℕ
arcs_of ps along v = filter (belongs (arc_at ps) (near_at ps along) v) (range_with_len 0 (length ps))

-- the arcs from the one that a link names on, of the same node
abbrev pub arcs_from : List Mark → Bool → Option ℕ → List ℕ
arcs_from ps along None = []
arcs_from ps along (Some k) = filter (belongs (arc_at ps) (near_at ps along) (near_at ps along k)) (range_with_len k (length ps - k))

-- the link of each arc names the next arc of its node
abbrev pub Chained : List Mark → Bool → Type 0
Chained ps along = (k : ℕ) → arc_at ps k ≡ true →
    (arcs_from ps along (Some k) ≡ k ∷ arcs_from ps along (link_at ps along k))
    × ((i : ℕ) → link_at ps along k ≡ Some i → arc_at ps i ≡ true)
