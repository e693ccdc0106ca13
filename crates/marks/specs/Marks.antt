-- What a mark table and a load table stand for.
use Rattle.std.specs.Prelude.{◌≡◌, ℕ, ◌<◌, ◌≤◌, Bool, true, false, List, length, take, drop, Option, Some, None, is_some, ◌≢◌, slice_index, slice_index_or}
use Rattle.flow.specs.Table.{Table}
use Rattle.flow.specs.Ways.{Step}
use Rattle.marks.specs.declared.mark.Arc.{Arc}
use Rattle.marks.specs.declared.mark.Step.{Step as StepMark}
use Rattle.marks.specs.declared.mark.Reached.{Reached}
use Rattle.marks.specs.declared.mark.Mark.{Mark}

-- what is read past the end
abbrev pub blank : Mark
blank = record { arc = None; reached = None; queued = 0; out = None; into = None }

-- of an arc that may be there: where it begins and ends, and its lead's type
abbrev pub begin_in : Option Arc → ℕ
begin_in None = 0
begin_in (Some a) = a.begin

abbrev pub end_in : Option Arc → ℕ
end_in None = 0
end_in (Some a) = a.end

abbrev pub class_in : Option Arc → Bool × Bool
class_in None = (false, false)
class_in (Some a) = a.class

-- of a node that a search may have reached: how deep, and by which step
abbrev pub depth_in : Option Reached → ℕ
depth_in None = 0
depth_in (Some r) = r.depth

abbrev pub step_in : Option StepMark → Step
step_in None = record { place = 0; along = false }
step_in (Some s) = record { place = s.place; along = s.along }

abbrev pub via_in : Option Reached → Step
via_in None = step_in None
via_in (Some r) = step_in r.by

-- the arc at a place
abbrev pub arc_of : List Mark → ℕ → Option Arc
arc_of ps k = (slice_index_or ps k blank).arc

-- the arcs at the places of ps, between n nodes, with source s and sink t
abbrev pub table : List Mark → ℕ → ℕ → ℕ → Table
table ps n s t = record {
  places = length ps;
  nodes = n;
  arc = λ k. is_some (arc_of ps k);
  begin = λ k. begin_in (arc_of ps k);
  end = λ k. end_in (arc_of ps k);
  source = s;
  sink = t;
}

-- every arc runs up, to a node below n, not to the source and not from the sink
abbrev pub ArcsSound : List Mark → ℕ → ℕ → ℕ → Type 0
ArcsSound ps n s t =
    ((k : ℕ) → is_some (arc_of ps k) ≡ true → (begin_in (arc_of ps k) < end_in (arc_of ps k)) × (end_in (arc_of ps k) < n) ×
    (end_in (arc_of ps k) ≢ s) × (begin_in (arc_of ps k) ≢ t))
    × (s ≢ t)

-- the source and the sink are nodes, and the sizes are small
abbrev pub ArcsFit : List Mark → ℕ → ℕ → ℕ → Type 0
ArcsFit ps n s t = (s < n) × (t < n) × (n ≤ 4096) × (length ps ≤ 4096)

-- of a mark table with n nodes and p places: the part of the places
abbrev pub place_part : List Mark → ℕ → ℕ → List Mark
place_part ms n p = take p (drop n ms)

-- the types of the leads: drains first, fed second
abbrev pub classes : List Mark → ℕ → Bool × Bool
classes ps k = class_in (arc_of ps k)

-- what a search has left at the nodes
abbrev pub reached_of : List Mark → ℕ → Bool
reached_of ns v = is_some (slice_index_or ns v blank).reached

abbrev pub depth_of : List Mark → ℕ → ℕ
depth_of ns v = depth_in (slice_index_or ns v blank).reached

abbrev pub via_of : List Mark → ℕ → Step
via_of ns v = via_in (slice_index_or ns v blank).reached

-- nothing past the end
abbrev pub load_of : List ℕ → ℕ → ℕ
load_of ls k = slice_index ls k
