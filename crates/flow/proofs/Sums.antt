-- Laws of sums over the numbers below a bound.
use Rattle.std.proofs.Common.{◌≡◌, ℕ, zero, suc, ◌+◌, ◌-◌, ◌*◌, ◌<◌, ◌≤◌, Bool, true, false, cond, ◌&&◌, eqb, sym, refl, ap, ◌∙◌, ⊎_elim, arith}
use Rattle.std.proofs.lemmas.Bool.{cases_order, eq-eqb, ne_eqb, cond_both}
use Rattle.wiring.specs.Loads.{sum_below, sum_where}

sum_zero : (n : ℕ) → sum_below n (λ k. 0) ≡ 0
sum_zero zero = refl
sum_zero (suc n) = omega (arith, sum_zero n)

-- an equation between two and two terms at each number holds of the sums
pub sum_level : (n : ℕ) (a b c d : ℕ → ℕ) → ((k : ℕ) → k < n → a k + b k ≡ c k + d k) → sum_below n a + sum_below n b ≡ sum_below n c + sum_below n d
sum_level zero a b c d h = refl
sum_level (suc n) a b c d h =
    let below = sum_level n a b c d (λ k l. h k (omega arith)) in
    let here = h n (omega arith) in
    omega arith

pub sum_cong : (n : ℕ) (f g : ℕ → ℕ) → ((k : ℕ) → k < n → f k ≡ g k) → sum_below n f ≡ sum_below n g
sum_cong n f g h = omega (arith, sum_level n f (λ k. 0) g (λ k. 0) (λ k l. omega (arith, h k l)))

pub sum_add : (n : ℕ) (f g : ℕ → ℕ) → sum_below n (λ k. f k + g k) ≡ sum_below n f + sum_below n g
sum_add n f g = omega (arith, sum_level n (λ k. f k + g k) (λ k. 0) f g (λ k l. omega arith), sum_zero n)

sum_times : (n c : ℕ) (f : ℕ → ℕ) → sum_below n (λ k. c * f k) ≡ c * sum_below n f
sum_times zero c f = omega arith
sum_times (suc n) c f = let below = sum_times n c f in omega arith

-- with at least as much at each number, the rest makes up the sum
sum_rest : (n : ℕ) (f g : ℕ → ℕ) → ((k : ℕ) → k < n → f k ≤ g k) → sum_below n g ≡ sum_below n f + sum_below n (λ k. g k - f k)
sum_rest n f g h = omega (arith, sum_level n g (λ k. 0) f (λ k. g k - f k) (λ k l. omega (arith, h k l)), sum_zero n)

pub sum_le : (n : ℕ) (f g : ℕ → ℕ) → ((k : ℕ) → k < n → f k ≤ g k) → sum_below n f ≤ sum_below n g
sum_le n f g h = omega (arith, sum_rest n f g h)

pub sum_none : (n : ℕ) (f : ℕ → ℕ) → ((k : ℕ) → k < n → f k ≡ 0) → sum_below n f ≡ 0
sum_none n f h = sum_cong n f (λ k. 0) h ∙ sum_zero n

sum_exchange : (m n : ℕ) (h : ℕ → ℕ → ℕ) → sum_below m (λ i. sum_below n (λ j. h i j)) ≡ sum_below n (λ j. sum_below m (λ i. h i j))
sum_exchange zero n h = sym (sum_zero n)
sum_exchange (suc m) n h =
    let below = sum_exchange m n h in
    let joined = sum_add n (λ j. sum_below m (λ i. h i j)) (h m) in
    omega arith

-- a sum with one term only
pub sum_one : (n c : ℕ) (f : ℕ → ℕ) → c < n → ((k : ℕ) → k < n → (k ≡ c → ⊥) → f k ≡ 0) → sum_below n f ≡ f c
sum_one zero c f l h = omega arith
sum_one (suc n) c f l h = ⊎_elim here (⊎_elim (before (λ m. sum_one n c f m (λ k p q. h k (omega arith) q))) after) (cases_order c n)
  where
    here : c ≡ n → sum_below (suc n) f ≡ f c
    here e =
        let none = sum_none n f (λ k m. h k (omega arith) (λ x. omega arith)) in
        let same = ap f e in
        omega arith

    before : (c < n → sum_below n f ≡ f c) → c < n → sum_below (suc n) f ≡ f c
    before rest m =
        let last = h n (omega arith) (λ x. omega arith) in
        let most = rest m in
        omega arith

    after : n < c → sum_below (suc n) f ≡ f c
    after m = omega arith

-- a test under a test
cond_and : (p q : Bool) (x : ℕ) → cond p (cond q x 0) 0 ≡ cond (p && q) x 0
cond_and true q x = refl
cond_and false q x = refl

-- one term at c alone
pub sum_point : (n c : ℕ) (P : ℕ → Bool) (x : ℕ) → c < n → sum_below n (λ v. cond (P v && eqb c v) x 0) ≡ cond (P c) x 0
sum_point n c P x l = sum_one n c (λ v. cond (P v && eqb c v) x 0) l elsewhere ∙ here (P c) (eqb c c) (eq-eqb c c refl)
  where
    other : (a b : Bool) → b ≡ false → cond (a && b) x 0 ≡ 0
    other true b e = ap (λ (z : Bool). cond z x 0) e
    other false b e = refl

    elsewhere : (k : ℕ) → k < n → (k ≡ c → ⊥) → cond (P k && eqb c k) x 0 ≡ 0
    elsewhere k m d = other (P k) (eqb c k) (ne_eqb c k (λ e. d (sym e)))

    here : (a b : Bool) → b ≡ true → cond (a && b) x 0 ≡ cond a x 0
    here true b e = ap (λ (z : Bool). cond z x 0) e
    here false b e = refl

-- what one number counts at itself, and at any other
pub unit_at : (k j : ℕ) → k ≡ j → ◌≡◌ {A = ℕ} (cond (eqb k j) 1 0) 1
unit_at k j e = ap (λ (b : Bool). cond {A = ℕ} b 1 0) (eq-eqb k j e)

pub unit_off : (k j : ℕ) → (k ≡ j → ⊥) → ◌≡◌ {A = ℕ} (cond (eqb k j) 1 0) 0
unit_off k j n = ap (λ (b : Bool). cond {A = ℕ} b 1 0) (ne_eqb k j n)

-- sums over the numbers at which a test holds: it holds nowhere, f is zero, the tests are the same, the terms are the same
pub where_none : (n : ℕ) (P : ℕ → Bool) (f : ℕ → ℕ) → ((k : ℕ) → k < n → P k ≡ false) → sum_where n P f ≡ 0
where_none n P f h = sum_none n (λ k. cond (P k) (f k) 0) (λ k l. ap (λ (z : Bool). cond z (f k) 0) (h k l))

pub where_zero : (n : ℕ) (P : ℕ → Bool) → sum_where n P (λ k. 0) ≡ 0
where_zero n P = sum_none n (λ k. cond (P k) 0 0) (λ k l. cond_both (P k) 0 0 (λ x. x ≡ 0) (λ e. refl) (λ e. refl))

pub where_same : (n : ℕ) (P Q : ℕ → Bool) (f : ℕ → ℕ) → ((k : ℕ) → k < n → P k ≡ Q k) → sum_where n P f ≡ sum_where n Q f
where_same n P Q f h = sum_cong n (λ k. cond (P k) (f k) 0) (λ k. cond (Q k) (f k) 0) (λ k l. ap (λ (z : Bool). cond z (f k) 0) (h k l))

pub where_cong : (n : ℕ) (P : ℕ → Bool) (f g : ℕ → ℕ) → ((k : ℕ) → f k ≡ g k) → sum_where n P f ≡ sum_where n P g
where_cong n P f g h = sum_cong n (λ k. cond (P k) (f k) 0) (λ k. cond (P k) (g k) 0) (λ k l. ap (λ (x : ℕ). cond (P k) x 0) (h k))

-- such sums are linear
pub where_add : (n : ℕ) (P : ℕ → Bool) (f g : ℕ → ℕ) → sum_where n P (λ k. f k + g k) ≡ sum_where n P f + sum_where n P g
where_add n P f g =
    sum_cong n (λ k. cond (P k) (f k + g k) 0) (λ k. cond (P k) (f k) 0 + cond (P k) (g k) 0) (λ k l. at (P k) (f k) (g k))
    ∙ sum_add n (λ k. cond (P k) (f k) 0) (λ k. cond (P k) (g k) 0)
  where
    at : (b : Bool) (x y : ℕ) → cond b (x + y) 0 ≡ cond b x 0 + cond b y 0
    at true x y = refl
    at false x y = refl

pub where_times : (n : ℕ) (P : ℕ → Bool) (c : ℕ) (f : ℕ → ℕ) → sum_where n P (λ k. c * f k) ≡ c * sum_where n P f
where_times n P c f =
    sum_cong n (λ k. cond (P k) (c * f k) 0) (λ k. c * cond (P k) (f k) 0) (λ k l. at (P k) (f k))
    ∙ sum_times n c (λ k. cond (P k) (f k) 0)
  where
    at : (b : Bool) (x : ℕ) → cond b (c * x) 0 ≡ c * cond b x 0
    at true x = refl
    at false x = omega arith

-- a test outside a sum goes in
sum_under : (n : ℕ) (b : Bool) (f : ℕ → ℕ) → cond b (sum_below n f) 0 ≡ sum_below n (λ k. cond b (f k) 0)
sum_under n true f = refl
sum_under n false f = sym (sum_zero n)

-- the sum over nodes of R, each with the terms whose node it is, is the sum over terms whose node is in R
pub sum_gather : (n m : ℕ) (P : ℕ → Bool) (e : ℕ → ℕ) (R : ℕ → Bool) (f : ℕ → ℕ) → ((k : ℕ) → P k ≡ true → e k < n) →
    sum_where n R (λ v. sum_where m (λ k. P k && eqb (e k) v) f) ≡ sum_where m (λ k. P k && R (e k)) f
sum_gather n m P e R f h =
    sum_cong n (λ v. cond (R v) (sum_where m (λ k. P k && eqb (e k) v) f) 0) (λ v. sum_below m (λ k. cond (R v) (cond (P k && eqb (e k) v) (f k) 0) 0))
    (λ v l. sum_under m (R v) (λ k. cond (P k && eqb (e k) v) (f k) 0))
    ∙ (sum_exchange n m (λ v k. cond (R v) (cond (P k && eqb (e k) v) (f k) 0) 0)
    ∙ sum_cong m (λ k. sum_below n (λ v. cond (R v) (cond (P k && eqb (e k) v) (f k) 0) 0)) (λ k. cond (P k && R (e k)) (f k) 0)
    (λ k l. column k (P k) refl))
  where
    column : (k : ℕ) (p : Bool) → P k ≡ p → sum_below n (λ v. cond (R v) (cond (p && eqb (e k) v) (f k) 0) 0) ≡ cond (p && R (e k)) (f k) 0
    column k true q =
        sum_cong n (λ v. cond (R v) (cond (eqb (e k) v) (f k) 0) 0) (λ v. cond (R v && eqb (e k) v) (f k) 0) (λ v l. cond_and (R v) (eqb (e k) v) (f k))
        ∙ sum_point n (e k) R (f k) (h k q)
    column k false q = where_zero n R

-- a term is at most the sum
pub sum_term : (n c : ℕ) (f : ℕ → ℕ) → c < n → f c ≤ sum_below n f
sum_term zero c f l = omega arith
sum_term (suc n) c f l = ⊎_elim (λ e. here e) (⊎_elim (λ m. let rest = sum_term n c f m in omega arith) (λ m. omega arith)) (cases_order c n)
  where
    here : c ≡ n → f c ≤ sum_below (suc n) f
    here e = let same = ap f e in omega arith

-- nowhere more and at one number less: the sum is less
pub sum_lt : (n c : ℕ) (f g : ℕ → ℕ) → c < n → ((k : ℕ) → k < n → f k ≤ g k) → f c < g c → sum_below n f < sum_below n g
sum_lt n c f g l h s = omega (arith, sum_rest n f g h, sum_term n c (λ k. g k - f k) l)

-- a sum that is not zero has a term that is not
sum_some : (n : ℕ) (f : ℕ → ℕ) → 1 ≤ sum_below n f → (k : ℕ) × (k < n) × (1 ≤ f k)
sum_some zero f h = absurd (omega arith)
sum_some (suc n) f h = ⊎_elim (λ (e : 0 ≡ f n). earlier (sum_some n f (omega arith)))
    (⊎_elim (λ l. (n, omega arith, omega arith)) (λ l. absurd (omega arith))) (cases_order 0 (f n))
  where
    earlier : (k : ℕ) × (k < n) × (1 ≤ f k) → (k : ℕ) × (k < suc n) × (1 ≤ f k)
    earlier r = (r.0, omega arith, r.2)

-- one unit at one place, if b holds
pub where_unit : (n : ℕ) (P : ℕ → Bool) (b : Bool) (j : ℕ) → j < n → sum_where n P (λ k. cond (b && eqb j k) 1 0) ≡ cond (b && P j) 1 0
where_unit n P true j l =
    sum_cong n (λ k. cond (P k) (cond (eqb j k) 1 0) 0) (λ k. cond (P k && eqb j k) 1 0) (λ k m. cond_and (P k) (eqb j k) 1) ∙ sum_point n j P 1 l
where_unit n P false j l = where_zero n P

-- a term at which the test holds is at most the sum
pub where_term : (n k : ℕ) (P : ℕ → Bool) (f : ℕ → ℕ) → k < n → P k ≡ true → f k ≤ sum_where n P f
where_term n k P f h e =
    let term = sum_term n k (λ j. cond (P j) (f j) 0) h in
    let here : cond (P k) (f k) 0 ≡ f k = ap (λ (b : Bool). cond b (f k) 0) e in
    omega arith

-- and a sum that is not zero has such a term that is not
pub where_some : (n : ℕ) (P : ℕ → Bool) (f : ℕ → ℕ) → 1 ≤ sum_where n P f → (k : ℕ) × (k < n) × (P k ≡ true) × (1 ≤ f k)
where_some n P f h =
    let s = sum_some n (λ k. cond (P k) (f k) 0) h in
    let p = at (P s.0) (f s.0) s.2 in
    (s.0, s.1, p.0, p.1)
  where
    at : (b : Bool) (x : ℕ) → 1 ≤ cond b x 0 → (b ≡ true) × (1 ≤ x)
    at true x l = (refl, l)
    at false x l = absurd (omega arith)
