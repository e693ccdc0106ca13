-- A kind of delay: what its operations mean, and the laws that every kind shows.
use Rattle.std.specs.Prelude.{◌≡◌, ℕ, ◌+◌, ◌≤◌, Bool, true, false, not, ◌&&◌}

-- D are the delays; `below` is the order by which one path is longer than another
pub record Kind (D : Type 0) : Type 0 where
  pub zero : D
  pub plus : D → D → D
  pub below : D → D → Bool
  -- whether a lead may have this delay
  pub lawful : D → Bool
  -- the delay of a lead by its picoseconds and its contacts
  pub reading : ℕ → ℕ → D

-- x is a sum of at most n lawful lead delays, however they are ordered and bracketed
pub data SumOf {D : Type 0} (K : Kind D) : ℕ → D → Type 0 where
  none : {n : ℕ} → SumOf K n K.zero
  one : {n : ℕ} {d : D} → 1 ≤ n → K.lawful d ≡ true → SumOf K n d
  both : {l m n : ℕ} {x y : D} → l + m ≤ n → SumOf K l x → SumOf K m y → SumOf K n (K.plus x y)

-- the most leads that a path of a wiring can have, and so the most delays that are ever added up
abbrev pub most_leads : ℕ
most_leads = 4095

-- x is a sum of lead delays for which the laws hold
abbrev pub Within : {D : Type 0} → Kind D → D → Type 0
Within K x = SumOf K most_leads x

-- x and y are sums of lead delays, of no more than most_leads in all
pub record Together {D : Type 0} (K : Kind D) (x y : D) : Type 0 where
  pub left : ℕ
  pub right : ℕ
  pub left_sum : SumOf K left x
  pub right_sum : SumOf K right y
  pub few : left + right ≤ most_leads

-- what every kind shows of sums of at most most_leads lawful lead delays
pub record Laws {D : Type 0} (K : Kind D) : Type 0 where
  -- zero adds nothing; the sum commutes and associates
  pub zero_adds_nothing : {x : D} → Within K x → K.plus K.zero x ≡ x
  pub commutes : {m n : ℕ} {x y : D} → SumOf K m x → SumOf K n y → m + n ≤ most_leads → K.plus x y ≡ K.plus y x
  pub associates : {l m n : ℕ} {x y z : D} → SumOf K l x → SumOf K m y → SumOf K n z → l + m + n ≤ most_leads → K.plus (K.plus x y) z ≡ K.plus x (K.plus y z)
  -- the order is transitive, and two delays are equal exactly when neither is below the other
  pub transitive : {x y z : D} → Within K x → Within K y → Within K z → K.below x y ≡ true → K.below y z ≡ true → K.below x z ≡ true
  pub not_below_itself : {x : D} → Within K x → K.below x x ≡ false
  pub equal_if_neither : {x y : D} → Within K x → Within K y → K.below x y ≡ false → K.below y x ≡ false → x ≡ y
  -- adding the same delay keeps the order
  pub keeps_order : {l m n : ℕ} {p q r : D} → SumOf K l p → SumOf K m q → SumOf K n r → l + n ≤ most_leads → m + n ≤ most_leads → K.below p q ≡ true → K.below (K.plus p r) (K.plus q r) ≡ true
  -- every reading within the limits is lawful
  pub readings_lawful : (picoseconds contacts : ℕ) → picoseconds ≤ 1000000 → contacts ≤ 255 → K.lawful (K.reading picoseconds contacts) ≡ true

-- x is not longer than y
abbrev pub Le : {D : Type 0} → Kind D → D → D → Type 0
Le K x y = K.below y x ≡ false

-- neither is below the other: by the laws, the delays are equal
abbrev pub level : {D : Type 0} → Kind D → D → D → Bool
level K x y = not (K.below x y) && not (K.below y x)
