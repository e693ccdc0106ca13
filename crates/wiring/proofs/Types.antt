-- The two marks of a lead, told from the length tables.
use Rattle.std.proofs.Common.{◌≡◌, ℕ, Bool, true, false, not, None, Decides, sym, ap, ◌∙◌, subst, ap₂, ⊎_elim, arith}
use mathlib.Core.Path.{fun_ext}
use Rattle.std.proofs.lemmas.Bool.{cases_Bool, both_ways, and_parts, and_from, not-true, not_from_false}
use Rattle.std.proofs.lemmas.Bool.Decides.{same_from_decides, Decides-like}
use Rattle.wiring.specs.declared.Lead.{Lead}
use Rattle.delay.specs.Kind.{Kind, both, Within, Laws, level}
use Rattle.wiring.specs.Net.{Net, Holds, Sound, stands, is_lead}
use Rattle.wiring.specs.Lengths.{Fed, Drains, Marks, Types, marks_in, marks_of}
use Rattle.delay.proofs.Sums.{weaken, le_eq}
use Rattle.wiring.proofs.Ends.{lead_or_none, head_inside}
use Rattle.wiring.proofs.Runs.{lead_sum}
use Rattle.wiring.proofs.Lengths.{to_sum, from_sum, fed_sums, sums_fed}
use Rattle.wiring.proofs.FromLengths.{drains_sums, sums_drains}
use Rattle.wiring.proofs.Cover.{Tables}

pub level_decides : {D : Type 0} {K : Kind D} (L : Laws K) {x y : D} → Within K x → Within K y → Decides (level K x y) (x ≡ y)
level_decides {K = K} L {x} {y} a b = (
  λ e. let p = and_parts (not (K.below x y)) (not (K.below y x)) e in L.equal_if_neither a b (not-true (K.below x y) p.0) (not-true (K.below y x) p.1),
  λ e. and_from (not (K.below x y)) (not (K.below y x)) (not_from_false (K.below x y) (le_eq L b (sym e))) (not_from_false (K.below y x) (le_eq L a e)),
)

pub lead_at : {D : Type 0} (N : Net D) (k : ℕ) → is_lead N k ≡ true → (l : Lead D) × Holds N k l
lead_at N k e = ⊎_elim (λ h. h) (λ n. absurd (both_ways (is_lead N k) (ap stands n) e)) (lead_or_none N k)

pub none_at : {D : Type 0} (N : Net D) (k : ℕ) → is_lead N k ≡ false → N.at k ≡ None
none_at N k e = ⊎_elim (λ h. absurd (both_ways (is_lead N k) e (ap stands h.1))) (λ n. n) (lead_or_none N k)

module _ {D : Type 0} {K : Kind D} (L : Laws K) {N : Net D} (S : Sound K N) {to from : ℕ → D} (T : Tables K N to from) where
  -- told from the tables, the marks are the types
  pub types_by_tables : Types K N (marks_of K N to from)
  types_by_tables = record {
    drains = λ k e.
        let l = (lead_at N k e).0 in let h = (lead_at N k e).1 in let b = head_inside S k l h in
        let c = from_sum S (T.from_is l.head b.1) in let a = from_sum S (T.from_is l.tail (omega arith)) in
        subst (λ o. Decides (marks_in K to from o).0 (Drains K N k)) (sym h)
        (Decides-like (level K (K.plus l.delay (from l.head)) (from l.tail))
        (sums_drains L S from T.from_is k l h) (drains_sums L S from T.from_is k l h)
        (level_decides L (both (omega arith) (lead_sum S k l h) c) (weaken (omega arith) a)));
    fed = λ k e.
        let l = (lead_at N k e).0 in let h = (lead_at N k e).1 in let b = head_inside S k l h in
        let a = to_sum S (T.to_is l.tail (omega arith)) in let c = to_sum S (T.to_is l.head b.1) in
        subst (λ o. Decides (marks_in K to from o).1 (Fed K N k)) (sym h)
        (Decides-like (level K (K.plus (to l.tail) l.delay) (to l.head))
        (sums_fed L S to T.to_is k l h) (fed_sums L S to T.to_is k l h)
        (level_decides L (both (omega arith) a (lead_sum S k l h)) (weaken (omega arith) c)));
    vacant = λ k e. ap (marks_in K to from) (none_at N k e);
  }

-- a wiring has one table of types only
pub types_same : {D : Type 0} {K : Kind D} {N : Net D} {m n : Marks} → Types K N m → Types K N n → m ≡ n
types_same {N = N} {m = m} {n = n} A B = fun_ext (λ k. ⊎_elim
    (λ e. ap₂ (λ (a b : Bool). (a, b)) (same_from_decides (m k).0 (n k).0 (A.drains k e) (B.drains k e)) (same_from_decides (m k).1 (n k).1 (A.fed k e) (B.fed k e)))
    (λ e. A.vacant k e ∙ sym (B.vacant k e))
    (cases_Bool (is_lead N k)))
