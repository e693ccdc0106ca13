-- Start leads and end leads, loads, and the best loads.
use Rattle.std.specs.Prelude.{◌≡◌, ℕ, zero, suc, ◌+◌, ◌<◌, ◌≤◌, Bool, true, false, cond, not, ◌&&◌, ◌||◌, Some, None, Option}
use Rattle.wiring.specs.declared.Lead.{Lead}
use Rattle.wiring.specs.Net.{Net, is_lead, leaves, enters, is_input, is_output, is_inner}
use Rattle.wiring.specs.Lengths.{Marks}

-- by its marks, a lead that does not drain or leaves an input
abbrev pub starts : {D : Type 0} → Net D → Bool × Bool → Option (Lead D) → Bool
starts N m (Some l) = not m.0 || is_input N l.tail
starts N m None = false

-- by its marks, a lead that is not fed or enters an output
abbrev pub ends : {D : Type 0} → Net D → Bool × Bool → Option (Lead D) → Bool
ends N m (Some l) = not m.1 || is_output N l.head
ends N m None = false

-- the lead k is a start lead; it is an end lead
abbrev pub is_start_lead : {D : Type 0} → Net D → Marks → ℕ → Bool
is_start_lead N m k = starts N (m k) (N.at k)

abbrev pub is_end_lead : {D : Type 0} → Net D → Marks → ℕ → Bool
is_end_lead N m k = ends N (m k) (N.at k)

-- the sum of f over the numbers below n; and over those of them at which P holds
abbrev pub sum_below : ℕ → (ℕ → ℕ) → ℕ
sum_below zero f = 0
sum_below (suc n) f = sum_below n f + f n

abbrev pub sum_where : ℕ → (ℕ → Bool) → (ℕ → ℕ) → ℕ
sum_where n P f = sum_below n (λ k. cond (P k) (f k) 0)

-- k is a fed lead into the node v; it is a draining lead out of v
abbrev pub fed_in : {D : Type 0} → Net D → Marks → ℕ → ℕ → Bool
fed_in N m v k = enters N v k && (m k).1

abbrev pub drain_out : {D : Type 0} → Net D → Marks → ℕ → ℕ → Bool
drain_out N m v k = leaves N v k && (m k).0

-- at every inner node f gives the fed leads in as much as the draining leads out
abbrev pub Balanced : {D : Type 0} → Net D → Marks → (ℕ → ℕ) → Type 0
Balanced N m f = (v : ℕ) → is_inner N v ≡ true → sum_where N.places (fed_in N m v) f ≡ sum_where N.places (drain_out N m v) f

-- f is loads: at least 1 at every lead, nothing at a vacant place, and balanced
pub record Loads {D : Type 0} (N : Net D) (m : Marks) (f : ℕ → ℕ) : Type 0 where
  pub leads : (k : ℕ) → is_lead N k ≡ true → 1 ≤ f k
  pub vacant : (k : ℕ) → is_lead N k ≡ false → f k ≡ 0
  pub balanced : Balanced N m f

-- the total of loads: what the start leads have
abbrev pub total_load : {D : Type 0} → Net D → Marks → (ℕ → ℕ) → ℕ
total_load N m f = sum_where N.places (is_start_lead N m) f

-- at the first lead where f and g differ, f is the smaller
pub record Before (f g : ℕ → ℕ) : Type 0 where
  pub at : ℕ
  pub smaller : f at < g at
  pub same : (k : ℕ) → k < at → f k ≡ g k

-- among all with L, f is best: none has a smaller total, and none with the same total comes before f
pub record BestOf (L : (ℕ → ℕ) → Type 0) (total : (ℕ → ℕ) → ℕ) (f : ℕ → ℕ) : Type 0 where
  pub loads : L f
  pub least : (g : ℕ → ℕ) → L g → total f ≤ total g
  pub first : (g : ℕ → ℕ) → L g → total g ≡ total f → Before g f → ⊥

-- the best loads of a wiring
abbrev pub Best : {D : Type 0} → Net D → Marks → (ℕ → ℕ) → Type 0
Best N m f = BestOf (Loads N m) (total_load N m) f
