-- What the laws of a kind give, for sums within the limit.
use Rattle.std.proofs.Common.{◌≡◌, ℕ, ◌+◌, ◌≤◌, true, ◌⊎◌, sym, ap, ◌∙◌, subst, inl, inr, ⊎_elim, arith}
use Rattle.std.proofs.lemmas.Bool.{cases_Bool, both_ways}
use Rattle.delay.specs.Kind.{Kind, SumOf, none, one, both, most_leads, Within, Laws, Le}

-- a sum of at most m delays is one of at most n
pub weaken : {D : Type 0} {K : Kind D} {m n : ℕ} {x : D} → m ≤ n → SumOf K m x → SumOf K n x
weaken h none = none
weaken h (one i p) = one (omega arith) p
weaken h (both i a b) = both (omega arith) a b

module _ {D : Type 0} {K : Kind D} (L : Laws K) where
  pub le_refl : {x : D} → Within K x → Le K x x
  le_refl a = L.not_below_itself a

  pub le_eq : {x y : D} → Within K x → x ≡ y → Le K x y
  le_eq {x} a e = subst (λ y. Le K x y) e (le_refl a)

  -- of two unequal delays only one is below the other
  pub lt_le : {x y : D} → Within K x → Within K y → K.below x y ≡ true → Le K x y
  lt_le {x} {y} a b p = ⊎_elim
      (λ q. absurd (both_ways (K.below x x) (le_refl a) (L.transitive a b a p q)))
      (λ q. q) (cases_Bool (K.below y x))

  pub le_trans : {x y z : D} → Within K x → Within K y → Within K z → Le K x y → Le K y z → Le K x z
  le_trans {x} {y} {z} a b c p q = ⊎_elim
      (λ t. absurd (⊎_elim
      (λ s. both_ways (K.below y x) p (L.transitive b c a s t))
      (λ s. both_ways (K.below y x) p (subst (λ w. K.below w x ≡ true) (L.equal_if_neither c b q s) t))
      (cases_Bool (K.below y z))))
      (λ t. t) (cases_Bool (K.below z x))

  pub le_anti : {x y : D} → Within K x → Within K y → Le K x y → Le K y x → x ≡ y
  le_anti a b p q = L.equal_if_neither a b q p

  -- equality of sums is decided by the order
  pub same_or_not : {x y : D} → Within K x → Within K y → (x ≡ y) ⊎ (x ≡ y → ⊥)
  same_or_not {x} {y} a b = ⊎_elim
      (λ p. inr (λ e. both_ways (K.below x y) (le_eq b (sym e)) p))
      (λ p. ⊎_elim
      (λ q. inr (λ e. both_ways (K.below y x) (le_eq a e) q))
      (λ q. inl (L.equal_if_neither a b p q))
      (cases_Bool (K.below y x)))
      (cases_Bool (K.below x y))

  pub plus_zero : {x : D} → Within K x → K.plus x K.zero ≡ x
  plus_zero a = L.commutes {n = 0} a none (omega arith) ∙ L.zero_adds_nothing a

  module _ {m n : ℕ} {x y z : D} (a : SumOf K m x) (b : SumOf K m y) (c : SumOf K n z) (h : m + n ≤ most_leads) where
    sum_x : Within K (K.plus x z)
    sum_x = both h a c

    sum_y : Within K (K.plus y z)
    sum_y = both h b c

    in_x : Within K x
    in_x = weaken (omega arith) a

    in_y : Within K y
    in_y = weaken (omega arith) b

    pub plus_le : Le K x y → Le K (K.plus x z) (K.plus y z)
    plus_le p = ⊎_elim
        (λ s. lt_le sum_x sum_y (L.keeps_order a b c h h s))
        (λ s. le_eq sum_x (ap (λ w. K.plus w z) (L.equal_if_neither in_x in_y s p)))
        (cases_Bool (K.below x y))

    pub cancel_le : Le K (K.plus x z) (K.plus y z) → Le K x y
    cancel_le p = ⊎_elim
        (λ s. absurd (both_ways (K.below (K.plus y z) (K.plus x z)) p (L.keeps_order b a c h h s)))
        (λ s. s) (cases_Bool (K.below y x))

    turn_x : K.plus x z ≡ K.plus z x
    turn_x = L.commutes a c h

    turn_y : K.plus y z ≡ K.plus z y
    turn_y = L.commutes b c h

    -- the same with the equal part in front
    pub le_plus : Le K x y → Le K (K.plus z x) (K.plus z y)
    le_plus p = subst (λ w. Le K w (K.plus z y)) turn_x (subst (λ w. Le K (K.plus x z) w) turn_y (plus_le p))

    pub le_cancel : Le K (K.plus z x) (K.plus z y) → Le K x y
    le_cancel p = cancel_le (subst (λ w. Le K w (K.plus y z)) (sym turn_x) (subst (λ w. Le K (K.plus z x) w) (sym turn_y) p))

  -- parts that are each not above others, with a sum not below theirs, are those
  pub parts_same : {m n : ℕ} {x x' y y' : D} → SumOf K m x → SumOf K m x' → SumOf K n y → SumOf K n y' → m + n ≤ most_leads →
      Le K x x' → Le K y y' → Le K (K.plus x' y') (K.plus x y) → (x ≡ x') × (y ≡ y')
  parts_same {m} {n} {x} {x'} {y} {y'} a a' b b' h p q r =
      let k : n + m ≤ most_leads = omega arith in
      let left : Le K (K.plus x' y) (K.plus x y) = le_trans (both h a' b) (both h a' b') (both h a b) (le_plus b b' a' k q) r in
      let right : Le K (K.plus x y') (K.plus x y) = le_trans (both h a b') (both h a' b') (both h a b) (plus_le a a' b' h p) r in (
        le_anti (weaken (omega arith) a) (weaken (omega arith) a') p (cancel_le a' a b h left),
        le_anti (weaken (omega arith) b) (weaken (omega arith) b') q (le_cancel b' b a k right),
      )

  pub plus_mono : {m n : ℕ} {x x' y y' : D} → SumOf K m x → SumOf K m x' → SumOf K n y → SumOf K n y' → m + n ≤ most_leads →
      Le K x x' → Le K y y' → Le K (K.plus x y) (K.plus x' y')
  plus_mono a a' b b' h p q = le_trans (both h a b) (both h a' b) (both h a' b') (plus_le a a' b h p) (le_plus b b' a' (omega arith) q)
