-- A row filled from the front with the numbers at which a test holds.
use Rattle.std.proofs.Common.{◌≡◌, ℕ, zero, suc, ◌+◌, ◌<◌, ◌≤◌, Bool, true, false, cond, List, [], ◌∷◌, ◌++◌, length, get_or, drop, set, sym, ap, ◌∙◌, ⊎_elim, append_assoc, add-one, arith, length-append, drop-cons}
use Rattle.std.proofs.lemmas.List.{set_at}
use Rattle.std.proofs.lemmas.Bool.{cases_lt}
use Rattle.cover.specs.Arcs.{listed}

-- where the test holds at a number below n, the list up to n is longer than the list up to that number
listed_longer : (P : ℕ → Bool) (k n : ℕ) → true ≡ P k → k < n → length (listed P k) < length (listed P n)
listed_longer P k zero p l = absurd (omega arith)
listed_longer P k (suc n) p l = ⊎_elim (λ m. go (P n) (listed_longer P k n p m)) (λ m. here (omega arith)) (cases_lt k n)
  where
    go : (b : Bool) → length (listed P k) < length (listed P n) → length (listed P k) < length (cond b (listed P n ++ (n ∷ [])) (listed P n))
    go true h = omega (arith, length-append (listed P n) (n ∷ []))
    go false h = h

    here : k ≡ n → length (listed P k) < length (cond (P n) (listed P n ++ (n ∷ [])) (listed P n))
    here e =
        let yes = ap (λ (b : Bool). length (cond b (listed P n ++ (n ∷ [])) (listed P n))) (p ∙ ap P e) in
        let same = ap (λ (i : ℕ). length (listed P i)) e in
        omega (arith, length-append (listed P n) (n ∷ []))

-- the numbers below k stand at the front of the row, and behind them the row is as it was
pub record Filled (P : ℕ → Bool) (k count : ℕ) (old row : List ℕ) : Type 0 where
  pub is : row ≡ listed P k ++ drop count old
  pub count_is : count ≡ length (listed P k)

-- a row that has room for all numbers below n has room for the next
pub filled_room : (P : ℕ → Bool) (k n count : ℕ) (old row : List ℕ) → Filled P k count old row → true ≡ P k → k < n →
    length (listed P n) ≤ length old → count < length old
filled_room P k n count old row F p l room = omega (arith, listed_longer P k n p l, F.count_is)

-- the number k written, or passed over; and all
pub filled_more : (P : ℕ → Bool) (k count : ℕ) (old row : List ℕ) → Filled P k count old row → true ≡ P k → count < length old →
    (after : ℕ) (new : List ℕ) → after ≡ count + 1 → new ≡ set row count k → Filled P (k + 1) after old new
filled_more P k count old row F p l after new a n =
    let so_far = listed P k in
    let rest = drop (suc count) old in
    let more : listed P (k + 1) ≡ so_far ++ (k ∷ []) = ap (listed P) (add-one k) ∙ ap (λ (b : Bool). cond b (so_far ++ (k ∷ [])) so_far) (sym p) in
    let cut = F.is ∙ ap (λ (d : List ℕ). so_far ++ d) (drop-cons old count 0 l) in
    let written = n ∙ ap (λ (r : List ℕ). set r count k) cut ∙ set_at so_far (get_or old count 0) rest k count (sym F.count_is) in
    let joined = sym (append_assoc so_far (k ∷ []) rest) ∙ ap (λ (w : List ℕ). w ++ rest) (sym more) in
    record {
      is = written ∙ joined ∙ ap (λ (i : ℕ). listed P (k + 1) ++ drop i old) (sym (a ∙ add-one count));
      count_is = omega (arith, ap length more, length-append so_far (k ∷ []), F.count_is);
    }

pub filled_on : (P : ℕ → Bool) (k count : ℕ) (old row : List ℕ) → Filled P k count old row → false ≡ P k →
    (after : ℕ) (new : List ℕ) → after ≡ count → new ≡ row → Filled P (k + 1) after old new
filled_on P k count old row F p after new a n =
    let so_far = listed P k in
    let same : so_far ≡ listed P (k + 1) = ap (λ (b : Bool). cond b (so_far ++ (k ∷ [])) so_far) p ∙ sym (ap (listed P) (add-one k)) in
    record {
      is = n ∙ F.is ∙ ap (λ (w : List ℕ). w ++ drop count old) same ∙ ap (λ (i : ℕ). listed P (k + 1) ++ drop i old) (sym a);
      count_is = a ∙ F.count_is ∙ ap length same;
    }

pub filled_all : (P : ℕ → Bool) (k n count : ℕ) (old row : List ℕ) → Filled P k count old row → k ≡ n →
    (row ≡ listed P n ++ drop (length (listed P n)) old) × (count ≡ length (listed P n))
filled_all P k n count old row F e =
    let same = ap (listed P) e in
    let all = F.count_is ∙ ap length same in
    (F.is ∙ ap (λ (w : List ℕ). w ++ drop count old) same ∙ ap (λ (i : ℕ). listed P n ++ drop i old) all, all)
