-- The way that the marks of a search tell, read from its end.
use Rattle.std.specs.Prelude.{◌≡◌, ℕ, zero, suc, ◌<◌, true, cond, List, [], ◌∷◌}
use Rattle.flow.specs.Table.{Table}
use Rattle.flow.specs.Ways.{Step, step_from}
use Rattle.marks.specs.declared.mark.Mark.{Mark}
use Rattle.marks.specs.Marks.{reached_of, depth_of, via_of}
use Rattle.loads.specs.Search.{stepped_of}

-- from every node that a search came to by a step, that step leads back over an arc, to a node reached before
abbrev pub LeadsBack : Table → List Mark → Type 0
LeadsBack T ns = (v : ℕ) → reached_of ns v ≡ true → stepped_of ns v ≡ true →
    (T.arc (via_of ns v).place ≡ true) × (reached_of ns (step_from T (via_of ns v)) ≡ true) × (depth_of ns (step_from T (via_of ns v)) < depth_of ns v)

-- at most n steps back from v, the last one first
abbrev pub steps_back : Table → List Mark → ℕ → ℕ → List Step
steps_back T ns zero v = []
steps_back T ns (suc n) v = cond (stepped_of ns v) (via_of ns v ∷ steps_back T ns n (step_from T (via_of ns v))) []

-- steps turned round, in front of others
abbrev pub turned : List Step → List Step → List Step
turned [] ss = ss
turned (s ∷ xs) ss = turned xs (s ∷ ss)

-- the way to v: all steps back from it, turned round
abbrev pub way_to : Table → List Mark → ℕ → List Step
way_to T ns v = turned (steps_back T ns (suc (depth_of ns v)) v) []
