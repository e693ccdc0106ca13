-- What a search keeps as it goes on, and what it leaves in the mark table.
use Rattle.std.specs.Prelude.{◌≡◌, ℕ, ◌+◌, ◌<◌, ◌≤◌, Bool, true, false, not, List, length, Option, Some, None, is_some, ◌==◌, slice_index_or}
use Rattle.std.proofs.Props.{props}
use Rattle.flow.specs.Table.{Table}
use Rattle.flow.specs.Ways.{Step, step_from, step_to}
use Rattle.flow.specs.Trails.{Trail, Shut, put, unreached}
use Rattle.marks.specs.declared.mark.Mark.{Mark}
use Rattle.marks.specs.declared.mark.Reached.{Reached}
use Rattle.marks.specs.Links.{out_at, into_at}
use Rattle.marks.specs.Marks.{blank, reached_of, depth_of, via_of}
use Rattle.loads.specs.Steps.{over, Free}

-- what the marks of the nodes tell of a search from u, with the loads f, over the places from low on
abbrev pub TrailOf : Table → (ℕ → ℕ) → ℕ → ℕ → List Mark → Type 0
TrailOf T f low u ns = Trail T f low u (reached_of ns) (depth_of ns) (via_of ns)

-- the node that was reached as number i
abbrev pub queued_at : List Mark → ℕ → ℕ
queued_at ns i = (slice_index_or ns i blank).queued

-- whether a search came to a node by a step
abbrev pub stepped_in : Option Reached → Bool
stepped_in None = false
stepped_in (Some r) = is_some r.by

abbrev pub stepped_of : List Mark → ℕ → Bool
stepped_of ns v = stepped_in (slice_index_or ns v blank).reached

-- a search from u came by a step to every node that it reached, but to u
abbrev pub Stepped : ℕ → List Mark → Type 0
Stepped u ns = (v : ℕ) → reached_of ns v ≡ true → stepped_of ns v ≡ not (v == u)

-- a depth counts nodes that are reached, so depths stay below the number of nodes
abbrev pub Shallow : Table → List Mark → Type 0
Shallow T ns = (v : ℕ) → reached_of ns v ≡ true → depth_of ns v + unreached T (reached_of ns) < T.nodes

-- ms is ns with v reached by the step s, one deeper than u, and put into the queue as number i
pub record Reaches (ns ms : List Mark) (u v : ℕ) (s : Step) (i : ℕ) : Type 0 where
  pub reached : reached_of ms ≡ put (reached_of ns) v true
  pub depth : depth_of ms ≡ put (depth_of ns) v (depth_of ns u + 1)
  pub via : via_of ms ≡ put (via_of ns) v s
  pub stepped : stepped_of ms ≡ put (stepped_of ns) v true
  pub queued : queued_at ms ≡ put (queued_at ns) i v
  pub out : out_at ms ≡ out_at ns
  pub into : into_at ms ≡ into_at ns

-- the nodes reached are just those in the queue, which has count of them
pub record Queued (T : Table) (ns : List Mark) (count : ℕ) : Type 0 where
  pub shallow : Shallow T ns
  pub room : count + unreached T (reached_of ns) ≤ T.nodes
  pub each : (i : ℕ) → i < count → reached_of ns (queued_at ns i) ≡ true
  pub all : (v : ℕ) → reached_of ns v ≡ true → ∥ ((i : ℕ) × (i < count) × (queued_at ns i ≡ v)) ∥₁

-- it is a fact that a struct can keep
pub queued_prop : (T : Table) (ns : List Mark) (count : ℕ) → IsProp (Queued T ns count)
queued_prop T ns count = Prim.hlevel props

-- a search over the places from low on has gone on from ns to ms: what was reached and queued stays, and the links too
pub record Grown (T : Table) (f : ℕ → ℕ) (low : ℕ) (ns ms : List Mark) (before after : ℕ) : Type 0 where
  pub queued : Queued T ms after
  pub trail : (u : ℕ) → TrailOf T f low u ns → TrailOf T f low u ms
  pub stepped : (u : ℕ) → reached_of ns u ≡ true → Stepped u ns → Stepped u ms
  pub kept : (v : ℕ) → reached_of ns v ≡ true → reached_of ms v ≡ true
  pub stays : (i : ℕ) → i < before → queued_at ms i ≡ queued_at ns i
  pub more : before ≤ after
  pub long : length ms ≡ length ns
  pub out : out_at ms ≡ out_at ns
  pub into : into_at ms ≡ into_at ns

-- of the places from low on, below m: every free step from v over them, along arcs or against, leads to a node that is reached
abbrev pub Followed : Table → (ℕ → ℕ) → ℕ → List Mark → ℕ → Bool → ℕ → Type 0
Followed T f low ns v along m = (k : ℕ) → low ≤ k → k < m → T.arc k ≡ true → step_from T (over k along) ≡ v → Free f k along →
    reached_of ns (step_to T (over k along)) ≡ true

-- every free step from v is made
pub record Finished (T : Table) (f : ℕ → ℕ) (low : ℕ) (ns : List Mark) (v : ℕ) : Type 0 where
  pub along : Followed T f low ns v true T.places
  pub against : Followed T f low ns v false T.places

-- what a search from u to v has left, with its answer: whether v is reached. If not, no step leads on from what is reached
pub record Sought (T : Table) (f : ℕ → ℕ) (low u v : ℕ) (ns : List Mark) (answer : Bool) : Type 0 where
  pub trail : TrailOf T f low u ns
  pub stepped : Stepped u ns
  pub target : reached_of ns v ≡ answer
  pub shut : answer ≡ false → Shut T f low (reached_of ns)
