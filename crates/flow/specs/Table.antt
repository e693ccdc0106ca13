-- A table of arcs between numbered nodes, with a source and a sink.
use Rattle.std.specs.Prelude.{◌≡◌, ℕ, ◌<◌, ◌≤◌, Bool, true, false, not, ◌&&◌, ◌==◌, ◌≢◌}

-- where `arc k` holds, place k has an arc from node `begin k` to node `end k`; at any other place there is none, and both mean nothing
pub record Table : Type 0 where
  pub places : ℕ
  pub nodes : ℕ
  pub arc : ℕ → Bool
  pub begin : ℕ → ℕ
  pub end : ℕ → ℕ
  pub source : ℕ
  pub sink : ℕ

-- every arc runs from a lower node to a higher one; none ends at the source, and none begins at the sink, which are two nodes
pub record Sound (T : Table) : Type 0 where
  pub up : (k : ℕ) → T.arc k ≡ true → T.begin k < T.end k
  pub within : (k : ℕ) → T.arc k ≡ true → T.end k < T.nodes
  pub past : (k : ℕ) → T.places ≤ k → T.arc k ≡ false
  pub apart : T.source ≡ T.sink → ⊥
  pub from_source : (k : ℕ) → T.arc k ≡ true → T.end k ≢ T.source
  pub to_sink : (k : ℕ) → T.arc k ≡ true → T.begin k ≢ T.sink

-- where an arc ends, other than at the sink, another begins; where it begins, other than at the source, another ends
pub record Joined (T : Table) : Type 0 where
  pub ahead : (k : ℕ) → T.arc k ≡ true → (T.end k ≢ T.sink) → (j : ℕ) × (T.arc j ≡ true) × (T.begin j ≡ T.end k)
  pub behind : (k : ℕ) → T.arc k ≡ true → (T.begin k ≢ T.source) → (j : ℕ) × (T.arc j ≡ true) × (T.end j ≡ T.begin k)

-- the arc at k begins at v; it ends at v
abbrev pub begins : Table → ℕ → ℕ → Bool
begins T v k = T.arc k && T.begin k == v

abbrev pub ends : Table → ℕ → ℕ → Bool
ends T v k = T.arc k && T.end k == v

-- a cut is a test R on nodes: the nodes inside it. The arc at k leaves the cut; it enters the cut
abbrev pub leaving : Table → (ℕ → Bool) → ℕ → Bool
leaving T R k = T.arc k && (R (T.begin k) && not (R (T.end k)))

abbrev pub entering : Table → (ℕ → Bool) → ℕ → Bool
entering T R k = T.arc k && (not (R (T.begin k)) && R (T.end k))
