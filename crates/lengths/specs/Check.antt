-- Which limit a wiring breaks, and at which lead first.
use Rattle.std.specs.Prelude.{◌≡◌, ℕ, ◌<◌, ◌≤◌, true, false, ◌⊎◌}
use Rattle.delay.specs.Kind.{Kind}
use Rattle.wiring.specs.declared.Lead.{Lead}
use Rattle.wiring.specs.declared.refusals.Refusal.{Refusal}
use Rattle.wiring.specs.declared.refusals.Refusal.TheVariants as refusal
use Rattle.wiring.specs.Net.{Net, Holds, Sound}
use Rattle.lengths.specs.declared.check.Fault.{Fault}
use Rattle.lengths.specs.declared.check.Fault.TheVariants.{Size, Ends, Delay}
use Rattle.lengths.specs.declared.table.FillError.{FillError}
use Rattle.lengths.specs.declared.table.FillError.TheVariants.{Unsound, Short}

-- the size limit: at most 4,096 nodes and 4,096 places
abbrev pub Sized : {D : Type 0} → Net D → Type 0
Sized N = (N.nodes ≤ 4096) × (N.places ≤ 4096)

-- the ends of l are right in a wiring of n nodes: tail below head, head below n
abbrev pub EndsRight : {D : Type 0} → ℕ → Lead D → Type 0
EndsRight n l = (l.tail < l.head) × (l.head < n)

-- l keeps both rules for leads
abbrev pub Keeps : {D : Type 0} → Kind D → ℕ → Lead D → Type 0
Keeps K n l = EndsRight n l × (K.lawful l.delay ≡ true)

-- l, at place k, breaks a rule: the ends are judged before the delay
abbrev pub Breaks : {D : Type 0} → Kind D → ℕ → ℕ → Lead D → Fault → Type 0
Breaks K n k l Size = ⊥
Breaks K n k l (Ends j) = (j ≡ k) × (EndsRight n l → ⊥)
Breaks K n k l (Delay j) = (j ≡ k) × EndsRight n l × (K.lawful l.delay ≡ false)

-- every lead at a place below k keeps the rules
abbrev pub KeepsBelow : {D : Type 0} → Kind D → Net D → ℕ → Type 0
KeepsBelow {D} K N k = (j : ℕ) → j < k → (l : Lead D) → Holds N j l → Keeps K N.nodes l

-- the first lead that breaks a rule stands at place k, with the fault f
abbrev pub FirstFault : {D : Type 0} → Kind D → Net D → ℕ → Fault → Type 0
FirstFault {D} K N k f = Sized N × KeepsBelow K N k × ((l : Lead D) × Holds N k l × Breaks K N.nodes k l f)

-- f is what a check of N under K finds
abbrev pub Finds : {D : Type 0} → Kind D → Net D → Fault → Type 0
Finds K N Size = (4096 < N.nodes) ⊎ (4096 < N.places)
Finds K N (Ends k) = FirstFault K N k (Ends k)
Finds K N (Delay k) = FirstFault K N k (Delay k)

-- e is why a table of n entries is not filled: a fault of the wiring comes before want of room
abbrev pub NotFilled : {D : Type 0} → Kind D → Net D → ℕ → FillError → Type 0
NotFilled K N n (Unsound f) = Finds K N f
NotFilled K N n Short = Sound K N × (n < N.nodes)

-- the refusal under which a fault is reported
abbrev pub refusal_of : Fault → Refusal
refusal_of Size = refusal.Size
refusal_of (Ends k) = refusal.Ends
refusal_of (Delay k) = refusal.Delay

abbrev pub refusal_for : FillError → Refusal
refusal_for (Unsound f) = refusal_of f
refusal_for Short = refusal.Room
