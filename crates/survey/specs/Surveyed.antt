-- What a survey tells of a wiring.
use Rattle.std.specs.Prelude.{◌≡◌, ℕ, ◌<◌, true, List, length, Some, None, Ok, Err, vec_items, Option, Result, slice_index_or}
use Rattle.delay.specs.Kind.{Kind}
use Rattle.wiring.specs.Net.{Net, Holds, Sound}
use Rattle.wiring.specs.Lengths.{To, From, Fed, Drains, LongestThrough}
use Rattle.lengths.specs.Check.{NotFilled}
use Rattle.lengths.specs.Asked.{LongestOf}
use Rattle.survey.specs.declared.NodeRow.{NodeRow}
use Rattle.survey.specs.declared.LeadRow.{LeadRow}
use Rattle.survey.specs.declared.Survey.{Survey}
use Rattle.survey.specs.declared.SurveyError.{SurveyError}
use Rattle.survey.specs.declared.SurveyError.TheVariants.{Refused, NoMemory}

-- the row of the node v has To(v) and From(v)
pub record NodeTold {D : Type 0} (K : Kind D) (N : Net D) (v : ℕ) (r : NodeRow D) : Type 0 where
  pub to_is : To K N v r.to
  pub from_is : From K N v r.from

-- the row of the lead k has its ends, its delay, its type, and the delay of a longest path through it
pub record LeadTold {D : Type 0} (K : Kind D) (N : Net D) (k : ℕ) (r : LeadRow D) : Type 0 where
  pub holds : Holds N k r.lead
  pub drains : (r.drains ≡ true → Drains K N k) × (Drains K N k → r.drains ≡ true)
  pub fed : (r.fed ≡ true → Fed K N k) × (Fed K N k → r.fed ≡ true)
  pub longest : LongestThrough K N k r.longest

-- the row of the place k: a lead's, or nothing where the place is vacant
abbrev pub PlaceTold : {D : Type 0} → Kind D → Net D → ℕ → Option (LeadRow D) → Type 0
PlaceTold K N k None = N.at k ≡ None
PlaceTold K N k (Some r) = LeadTold K N k r

-- xs has a row for each number below n, in ascending order, of which P holds
abbrev pub Rows : {X : Type 0} → (ℕ → X → Type 0) → List X → ℕ → Type 0
Rows {X} P xs n = (length xs ≡ n) × ((k : ℕ) (d : X) → k < n → P k (slice_index_or xs k d))

-- the survey s tells of every node, of every place, and of the longest path
pub record Tells {D : Type 0} (K : Kind D) (N : Net D) (s : Survey D) : Type 0 where
  pub sound : Sound K N
  pub nodes : Rows (NodeTold K N) (vec_items s.nodes) N.nodes
  pub places : Rows (PlaceTold K N) (vec_items s.places) N.places
  pub longest : LongestOf K N s.longest

-- what surveying answers: a survey, or the limit that the wiring breaks; memory may be wanting for a sound wiring
abbrev pub Surveyed : {D : Type 0} → Kind D → Net D → Result (Survey D) SurveyError → Type 0
Surveyed K N (Ok s) = Tells K N s
Surveyed K N (Err (Refused e)) = NotFilled K N N.nodes e
Surveyed K N (Err NoMemory) = Sound K N
