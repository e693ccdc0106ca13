-- What a length table holds.
use Rattle.std.specs.Prelude.{◌≡◌, ℕ, ◌<◌, true, List, length, drop, slice_index_or}
use Rattle.delay.specs.Kind.{Kind}
use Rattle.wiring.specs.Net.{Net, is_input, is_output}
use Rattle.wiring.specs.Lengths.{To, From}
use Rattle.lengths.specs.declared.table.Lengths.{Lengths}

-- the length at the node v; past the table's end it is zero
abbrev pub entry : {D : Type 0} → Kind D → List D → ℕ → D
entry K xs v = slice_index_or xs v K.zero

-- at every node v the table holds To(v), which is one length only, and zero at an input
pub record HoldsTo {D : Type 0} (K : Kind D) (N : Net D) (xs : List D) : Type 0 where
  pub longest : (v : ℕ) → v < N.nodes → To K N v (entry K xs v)
  pub only : (v : ℕ) (x : D) → v < N.nodes → To K N v x → x ≡ entry K xs v
  pub inputs : (v : ℕ) → is_input N v ≡ true → entry K xs v ≡ K.zero

-- at every node v the table holds From(v), which is one length only, and zero at an output
pub record HoldsFrom {D : Type 0} (K : Kind D) (N : Net D) (xs : List D) : Type 0 where
  pub longest : (v : ℕ) → v < N.nodes → From K N v (entry K xs v)
  pub only : (v : ℕ) (x : D) → v < N.nodes → From K N v x → x ≡ entry K xs v
  pub outputs : (v : ℕ) → is_output N v ≡ true → entry K xs v ≡ K.zero

-- a length table after it was only asked: the same entries, on the same lent slice
abbrev pub Untouched : {D : Type 0} → Lengths D → Lengths D → Type 0
Untouched a b = (b.table.now ≡ a.table.now) × (b.table.ghost_name ≡ a.table.ghost_name)

-- a length table before and after its first n entries were written: past them b is as a was, on the same lent slice
pub record Refilled {D : Type 0} (n : ℕ) (a b : Lengths D) : Type 0 where
  pub rest : drop n b.table.now ≡ drop n a.table.now
  pub long : length b.table.now ≡ length a.table.now
  pub lender : b.table.ghost_name ≡ a.table.ghost_name
