-- The definitions give every row of the table of small wirings: each row has a certificate, and one test that computes goes over all of them.
use Rattle.std.proofs.Common.{◌≡◌, ℕ, Bool, true, false, nat_eq, ◌&&◌, ◌||◌, eqb, List, [], ◌∷◌, length, get_or, refl, ap₂}
use Rattle.std.proofs.Math.Bool.{beq}
use Rattle.std.specs.List.{AllByRecursion}
use Rattle.std.specs.Cmp.{booleans_Decides}
use Rattle.std.specs.Cmp.Lexicographic.{pointwise}
use Rattle.std.proofs.lemmas.Bool.Decides.{Decides-eqb}
use Rattle.std.proofs.lemmas.Slice.Eq.{slice_eq-Decides}
use Rattle.std.proofs.lemmas.Bool.{both_ways, and_parts}
use Rattle.delay.specs.Kind.{Kind, Laws}
use Rattle.delay.specs.Delivered.{picosecond_kind, contact_kind, early_kind}
use Rattle.delay.specs.DeliveredLaws.{picosecond_laws, contact_laws, early_laws}
use Rattle.wiring.specs.Net.{all_below}
use Rattle.wiring.specs.Lists.{words}
use Rattle.wiring.proofs.Ends.{all_below_at}
use Rattle.drawing.specs.Tests.{Drawing, Certificate, paths_of, worked_marks, list_test}
use Rattle.drawing.specs.Rows.{Reading, late, early, contact, Row, wired, Gives, Given, rows, RowsAreGiven}
use Rattle.drawing.proofs.Certify.{list_by_test_lem}

abbrev same_type : Bool × Bool → Bool × Bool → Bool
same_type p q = beq p.0 q.0 && beq p.1 q.1

type_says : (p q : Bool × Bool) → same_type p q ≡ true → p ≡ q
type_says p q e =
    let h = and_parts (beq p.0 q.0) (beq p.1 q.1) e in
    ap₂ (λ (a b : Bool). (a, b)) ((booleans_Decides p.0 q.0).0 h.0) ((booleans_Decides p.1 q.1).0 h.1)

module _ {D : Type 0} (K : Kind D) (r : Row) (c : Certificate) where
  abbrev types_test : Bool
  types_test = all_below (length r.types) (λ k. same_type (worked_marks K (wired K r) k) (get_or r.types k (false, false)))

  -- the certificate shows the list of the row's wiring, with the row's words and types
  abbrev row_test : Bool
  row_test = list_test K (wired K r) c && (pointwise nat_eq (words (paths_of c)) r.words && types_test)

  row_by_test : Laws K → row_test ≡ true → Gives K r
  unfolding list_by_test_lem
  row_by_test L e =
      let p = and_parts (list_test K (wired K r) c) (pointwise nat_eq (words (paths_of c)) r.words && types_test) e in
      let q = and_parts (pointwise nat_eq (words (paths_of c)) r.words) types_test p.1 in
      record {
        paths = paths_of c;
        list = list_by_test_lem L (wired K r) c p.0;
        words_are = (slice_eq-Decides Decides-eqb (words (paths_of c)) r.words _ refl).0 q.0;
        types_are = λ k h. type_says (worked_marks K (wired K r) k) (get_or r.types k (false, false))
            (all_below_at (length r.types) (λ j. same_type (worked_marks K (wired K r) j) (get_or r.types j (false, false))) q.1 k h);
      }

abbrev test_as : Reading → Row → Certificate → Bool
test_as late = row_test picosecond_kind
test_as early = row_test (early_kind picosecond_kind)
test_as contact = row_test contact_kind

given_as : (k : Reading) (r : Row) (c : Certificate) → test_as k r c ≡ true → Given k r
given_as late r c = row_by_test picosecond_kind r c picosecond_laws
given_as early r c = row_by_test (early_kind picosecond_kind) r c (early_laws picosecond_laws)
given_as contact r c = row_by_test contact_kind r c contact_laws

-- every row has a certificate that passes
abbrev rows_test : List Row → List Certificate → Bool
rows_test [] cs = true
rows_test (r ∷ rs) [] = false
rows_test (r ∷ rs) (c ∷ cs) = test_as r.kind r c && rows_test rs cs

rows_by_test : (rs : List Row) (cs : List Certificate) → rows_test rs cs ≡ true → AllByRecursion (λ r. Given r.kind r) rs
rows_by_test [] cs e = tt
rows_by_test (r ∷ rs) [] e = absurd (both_ways false refl e)
rows_by_test (r ∷ rs) (c ∷ cs) e =
    let p = and_parts (test_as r.kind r c) (rows_test rs cs) e in
    (given_as r.kind r c p.0, rows_by_test rs cs p.1)

-- a core of one lead from node u to v, extended by the leads fs to w; and one of two leads from u to w
abbrev lone : ℕ → ℕ → List ℕ → ℕ → Drawing
lone k u fs w = record { start = k; rest = []; stop = k; behind = []; input = u; ahead = fs; output = w }

abbrev two : ℕ → ℕ → ℕ → ℕ → Drawing
two k j u w = record { start = k; rest = j ∷ []; stop = j; behind = []; input = u; ahead = []; output = w }

-- every total is shown by the cut that holds the sink t alone, and every load above 1 by the one that holds the source 0 and t
abbrev certificate : List ℕ → ℕ → List Drawing → Certificate
certificate f t ds = record { loads = f; cut = λ v. eqb v t; cuts = λ k v. eqb v 0 || eqb v t; drawings = ds }

abbrev certificates : List Certificate
certificates =
    certificate [] 1 []
    ∷ certificate (1 ∷ []) 1 (lone 0 0 [] 1 ∷ [])
    ∷ certificate (2 ∷ 1 ∷ 1 ∷ 1 ∷ []) 4 (two 0 2 0 3 ∷ two 0 3 0 4 ∷ lone 1 1 (2 ∷ []) 3 ∷ [])
    ∷ certificate (1 ∷ 2 ∷ 1 ∷ 1 ∷ []) 4 (lone 0 0 (2 ∷ []) 3 ∷ two 1 2 1 3 ∷ two 1 3 1 4 ∷ [])
    ∷ certificate (2 ∷ 1 ∷ 1 ∷ 1 ∷ []) 4 (two 0 2 0 3 ∷ two 0 3 0 4 ∷ lone 1 1 (2 ∷ []) 3 ∷ [])
    ∷ certificate (1 ∷ 2 ∷ 1 ∷ 1 ∷ 1 ∷ []) 5 (two 0 2 0 3 ∷ two 1 3 1 4 ∷ two 1 4 1 5 ∷ [])
    ∷ certificate (1 ∷ 1 ∷ []) 1 (lone 0 0 [] 1 ∷ lone 1 0 [] 1 ∷ [])
    ∷ certificate (1 ∷ 1 ∷ 1 ∷ []) 2 (two 0 1 0 2 ∷ lone 2 0 [] 2 ∷ [])
    ∷ certificate (1 ∷ 1 ∷ 1 ∷ []) 2 (two 0 1 0 2 ∷ lone 2 0 [] 2 ∷ [])
    ∷ []

pub rows_are_given_lem : RowsAreGiven
rows_are_given_lem = rows_by_test rows certificates refl
