-- A text that is cut at the first of some byte.
use Rattle.std.proofs.Common.{◌≡◌, ℕ, suc, ◌+◌, List, [], ◌∷◌, ◌++◌, length, get_or, decimal, sym, refl, ap, ◌∙◌, arith}
use Rattle.std.proofs.lemmas.List.{get_or_at, length-append}
use Rattle.std.proofs.lemmas.Fmt.{decimal_injective}
use Rattle.std.specs.Int.{IsInRange}
use Rattle.netlist.specs.Texts.{Below, Lacks, Splits}
use Rattle.netlist.proofs.Numbers.{decimal_lacks}

-- a text is cut at the first c in one way
same_cut : (c : ℕ) (f b xs ys : List ℕ) → f ++ (c ∷ b) ≡ xs ++ (c ∷ ys) → Lacks c f → Lacks c xs → (f ≡ xs) × (b ≡ ys)
same_cut c [] b [] ys e p q = (refl, cc)
same_cut c [] b (x ∷ xs) ys e p q = absurd (q 0 (omega arith) (cc))
same_cut c (a ∷ f) b [] ys e p q = absurd (p 0 (omega arith) (cc))
same_cut c (a ∷ f) b (x ∷ xs) ys e p q =
    let r = same_cut c f b xs ys (cc) (λ i l. p (suc i) (omega arith)) (λ i l. q (suc i) (omega arith)) in
    (cc (r.0), r.1)

-- a text that lacks c is not cut at one
pub no_cut : (c : ℕ) (bs xs ys : List ℕ) → Lacks c bs → bs ≡ xs ++ (c ∷ ys) → ⊥
no_cut c bs xs ys l e =
    let long : length bs ≡ length xs + length (c ∷ ys) = ap length e ∙ length-append xs (c ∷ ys) in
    l (length xs) (omega arith) (ap (λ zs. get_or zs (length xs) 0) e ∙ get_or_at xs c ys 0 (length xs) refl)

-- the cut behind a number
pub number_cut : (c n : ℕ) (bs f b ys : List ℕ) → Below 32 n → (IsInRange 48 57 c → ⊥) → Splits c bs f b → bs ≡ decimal n ++ (c ∷ ys) → (f ≡ decimal n) × (b ≡ ys)
number_cut c n bs f b ys l out s e = same_cut c f b (decimal n) ys (sym s.whole ∙ e) s.first (decimal_lacks c n l out)

-- a number and what stands behind it are told apart by a byte that is no digit
pub number_tail : (c m n : ℕ) (xs ys : List ℕ) → Below 32 m → Below 32 n → (IsInRange 48 57 c → ⊥) → decimal m ++ (c ∷ xs) ≡ decimal n ++ (c ∷ ys) → (m ≡ n) × (xs ≡ ys)
number_tail c m n xs ys l h out e =
    let cut = same_cut c (decimal m) xs (decimal n) ys e (decimal_lacks c m l out) (decimal_lacks c n h out) in
    (decimal_injective m n (omega arith) (omega arith) cut.0, cut.1)
