-- The longest lengths To and From, fed and draining leads, and lead types.
use Rattle.std.specs.Prelude.{◌≡◌, ℕ, Bool, true, false, ◌⊎◌, List, Some, None, Option}
use Rattle.delay.specs.Kind.{Kind, Le, level}
use Rattle.wiring.specs.declared.Lead.{Lead}
use Rattle.wiring.specs.Net.{Net, Holds, is_lead, is_input, is_output, is_bare}
use Rattle.wiring.specs.Paths.{Run, On, delay_of, PathOf}

-- x is the longest sum of delays of a run from an input to v
pub record LongestTo {D : Type 0} (K : Kind D) (N : Net D) (v : ℕ) (x : D) : Type 0 where
  pub source : ℕ
  pub leads : List ℕ
  pub from_input : is_input N source ≡ true
  pub run : Run N source v leads
  pub delay : delay_of K N leads ≡ x
  pub longest : (u : ℕ) (ks : List ℕ) → is_input N u ≡ true → Run N u v ks → Le K (delay_of K N ks) x

-- To(v) is x: the longest such sum, and zero for a node without leads
abbrev pub To : {D : Type 0} → Kind D → Net D → ℕ → D → Type 0
To K N v x = LongestTo K N v x ⊎ ((is_bare N v ≡ true) × (x ≡ K.zero))

-- x is the longest sum of delays of a run from v to an output
pub record LongestFrom {D : Type 0} (K : Kind D) (N : Net D) (v : ℕ) (x : D) : Type 0 where
  pub sink : ℕ
  pub leads : List ℕ
  pub to_output : is_output N sink ≡ true
  pub run : Run N v sink leads
  pub delay : delay_of K N leads ≡ x
  pub longest : (w : ℕ) (ks : List ℕ) → is_output N w ≡ true → Run N v w ks → Le K (delay_of K N ks) x

-- From(v) is x: the longest such sum, and zero for a node without leads
abbrev pub From : {D : Type 0} → Kind D → Net D → ℕ → D → Type 0
From K N v x = LongestFrom K N v x ⊎ ((is_bare N v ≡ true) × (x ≡ K.zero))

-- the lead k is fed: To(tail) + delay = To(head)
pub record Fed {D : Type 0} (K : Kind D) (N : Net D) (k : ℕ) : Type 0 where
  pub lead : Lead D
  pub holds : Holds N k lead
  pub at_tail : D
  pub at_head : D
  pub to_tail : To K N lead.tail at_tail
  pub to_head : To K N lead.head at_head
  pub sums : K.plus at_tail lead.delay ≡ at_head

-- the lead k drains: delay + From(head) = From(tail)
pub record Drains {D : Type 0} (K : Kind D) (N : Net D) (k : ℕ) : Type 0 where
  pub lead : Lead D
  pub holds : Holds N k lead
  pub at_tail : D
  pub at_head : D
  pub from_tail : From K N lead.tail at_tail
  pub from_head : From K N lead.head at_head
  pub sums : K.plus lead.delay at_head ≡ at_tail

-- two marks for each place: drains first, fed second
abbrev pub Marks : Type 0
Marks = ℕ → Bool × Bool

-- the marks are the types of the leads; a vacant place has neither mark
pub record Types {D : Type 0} (K : Kind D) (N : Net D) (m : Marks) : Type 0 where
  pub drains : (k : ℕ) → is_lead N k ≡ true → (((m k).0 ≡ true → Drains K N k) × (Drains K N k → (m k).0 ≡ true))
  pub fed : (k : ℕ) → is_lead N k ≡ true → (((m k).1 ≡ true → Fed K N k) × (Fed K N k → (m k).1 ≡ true))
  pub vacant : (k : ℕ) → is_lead N k ≡ false → m k ≡ (false, false)

-- x is the delay of a longest path through the lead k
pub record LongestThrough {D : Type 0} (K : Kind D) (N : Net D) (k : ℕ) (x : D) : Type 0 where
  pub leads : List ℕ
  pub path : PathOf N leads
  pub through : On k leads
  pub delay : delay_of K N leads ≡ x
  pub longest : (q : List ℕ) → PathOf N q → On k q → Le K (delay_of K N q) x

-- x is the delay of a longest path of all
pub record LongestPath {D : Type 0} (K : Kind D) (N : Net D) (x : D) : Type 0 where
  pub leads : List ℕ
  pub path : PathOf N leads
  pub delay : delay_of K N leads ≡ x
  pub longest : (q : List ℕ) → PathOf N q → Le K (delay_of K N q) x

-- told by lengths to and from of the nodes: whether the lead l drains, and whether it is fed
abbrev pub type_by : {D : Type 0} → Kind D → (ℕ → D) → (ℕ → D) → Lead D → Bool × Bool
type_by K to from l = (level K (K.plus l.delay (from l.head)) (from l.tail), level K (K.plus (to l.tail) l.delay) (to l.head))

-- and the delay of a longest path through it, To(tail) + delay + From(head)
abbrev pub through_by : {D : Type 0} → Kind D → (ℕ → D) → (ℕ → D) → Lead D → D
through_by K to from l = K.plus (to l.tail) (K.plus l.delay (from l.head))

-- the marks of every place by such lengths: a vacant place has neither
abbrev pub marks_in : {D : Type 0} → Kind D → (ℕ → D) → (ℕ → D) → Option (Lead D) → Bool × Bool
marks_in K to from (Some l) = type_by K to from l
marks_in K to from None = (false, false)

abbrev pub marks_of : {D : Type 0} → Kind D → Net D → (ℕ → D) → (ℕ → D) → Marks
marks_of K N to from k = marks_in K to from (N.at k)
