-- What the single steps of the search for longest lengths answer.
use Rattle.std.specs.Prelude.{◌≡◌, ℕ, true, false, cond, Some, None, Option}
use Rattle.delay.specs.Kind.{Kind, Le}
use Rattle.wiring.specs.declared.Lead.{Lead}
use Rattle.wiring.specs.Net.{Net, Holds, has_lead_in}

-- the longer of two delays, the first where they are level
abbrev pub longer_of : {D : Type 0} → Kind D → Option D → D → D
longer_of K None d = d
longer_of K (Some b) d = cond (K.below b d) d b

-- what a lead gives its head: the length at its tail, and its delay
abbrev pub offer : {D : Type 0} → Kind D → (ℕ → D) → Lead D → D
offer K to l = K.plus (to l.tail) l.delay

-- x is the length at v by the lengths of the nodes below it: zero with no lead in, else the longest that a lead in gives
pub record LengthAt {D : Type 0} (K : Kind D) (N : Net D) (to : ℕ → D) (v : ℕ) (x : D) : Type 0 where
  pub start : has_lead_in N v ≡ false → x ≡ K.zero
  pub bounds : (k : ℕ) (l : Lead D) → Holds N k l → l.head ≡ v → Le K (K.plus (to l.tail) l.delay) x
  pub met : has_lead_in N v ≡ true → ((k : ℕ) × (l : Lead D) × Holds N k l × (l.head ≡ v) × (K.plus (to l.tail) l.delay ≡ x))
