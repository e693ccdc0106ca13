-- Runs of leads, paths, their delays, and what it means that a path covers a lead.
use Rattle.std.specs.Prelude.{◌≡◌, ℕ, true, ◌⊎◌, List, [], ◌∷◌, Some, None, Option}
use Rattle.delay.specs.Kind.{Kind, Le}
use Rattle.wiring.specs.declared.Lead.{Lead}
use Rattle.wiring.specs.Net.{Net, Holds, is_input, is_output}

-- the leads ks, in this order, go from u to v, each starting where the one before ended
pub data Run {D : Type 0} (N : Net D) : ℕ → ℕ → List ℕ → Type 0 where
  stay : {u v : ℕ} → u ≡ v → Run N u v []
  along : {u v k : ℕ} {ks : List ℕ} (l : Lead D) → Holds N k l → l.tail ≡ u → Run N l.head v ks → Run N u v (k ∷ ks)

-- k is one of the leads ks
abbrev pub On : ℕ → List ℕ → Type 0
On k [] = ⊥
On k (j ∷ js) = (k ≡ j) ⊎ On k js

abbrev pub delay_in : {D : Type 0} → Kind D → Option (Lead D) → D
delay_in K (Some l) = l.delay
delay_in K None = K.zero

-- the delay of the lead k
abbrev pub delay_at : {D : Type 0} → Kind D → Net D → ℕ → D
delay_at K N k = delay_in K (N.at k)

-- the delay of a run: the sum of the delays of its leads
abbrev pub delay_of : {D : Type 0} → Kind D → Net D → List ℕ → D
delay_of K N [] = K.zero
delay_of K N (k ∷ ks) = K.plus (delay_at K N k) (delay_of K N ks)

-- a path is a run from an input to an output
pub record PathOf {D : Type 0} (N : Net D) (ks : List ℕ) : Type 0 where
  pub source : ℕ
  pub sink : ℕ
  pub from_input : is_input N source ≡ true
  pub to_output : is_output N sink ≡ true
  pub run : Run N source sink ks

-- the path p covers the lead k: it contains k, and no path through k is longer
pub record Covers {D : Type 0} (K : Kind D) (N : Net D) (p : List ℕ) (k : ℕ) : Type 0 where
  pub path : PathOf N p
  pub through : On k p
  pub longest : (q : List ℕ) → PathOf N q → On k q → Le K (delay_of K N q) (delay_of K N p)
