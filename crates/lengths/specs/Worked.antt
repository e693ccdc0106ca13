-- The lengths to all nodes of a wiring, worked out node by node: for tests that compute. What To and From are is said over runs.
use Rattle.std.specs.Prelude.{ℕ, zero, suc, cond, List, [], ◌∷◌, ◌++◌, Some, None, Option, unwrap_or, ◌==◌}
use Rattle.delay.specs.Kind.{Kind}
use Rattle.wiring.specs.declared.Lead.{Lead}
use Rattle.wiring.specs.Net.{Net}
use Rattle.wiring.specs.Views.{mirror, turned_net}
use Rattle.lengths.specs.Tables.{entry}
use Rattle.lengths.specs.Steps.{longer_of, offer}

-- the longest that one place more gives the node v
abbrev pub longer_by : {D : Type 0} → Kind D → (ℕ → D) → ℕ → Option (Lead D) → Option D → Option D
longer_by K to v None best = best
longer_by K to v (Some l) best = cond (l.head == v) (Some (longer_of K best (offer K to l))) best

-- the longest that the leads below the place p give the node v, or nothing where none enters it
abbrev pub longest_into : {D : Type 0} → Kind D → Net D → (ℕ → D) → ℕ → ℕ → Option D
longest_into K N to v zero = None
longest_into K N to v (suc p) = longer_by K to v (N.at p) (longest_into K N to v p)

-- the lengths xs of the first nodes, with that of the node v after them
abbrev pub with_next : {D : Type 0} → Kind D → Net D → List D → ℕ → List D
with_next K N xs v = xs ++ (unwrap_or (longest_into K N (entry K xs) v N.places) K.zero ∷ [])

-- the lengths to the first n nodes
abbrev pub lengths_to : {D : Type 0} → Kind D → Net D → ℕ → List D
lengths_to K N zero = []
lengths_to K N (suc n) = with_next K N (lengths_to K N n) n

-- the lengths to every node, and those from every node by the turned view
abbrev pub worked_to : {D : Type 0} → Kind D → Net D → ℕ → D
worked_to K N = entry K (lengths_to K N N.nodes)

abbrev pub worked_from : {D : Type 0} → Kind D → Net D → ℕ → D
worked_from K N v = entry K (lengths_to K (turned_net N) N.nodes) (mirror N.nodes v)
