-- The theorems on the list put together, for every kind that keeps the laws and every sound wiring.
use Rattle.std.proofs.Common.{◌≡◌, ℕ, zero, suc, ◌*◌, ◌<◌, ◌≤◌, List, [], ◌∷◌, length, get_or, sym, refl, subst, inl, inr, suc-mul, arith, length-append}
use Rattle.delay.specs.Kind.{Kind, Laws}
use Rattle.wiring.specs.Net.{Net, Sound}
use Rattle.wiring.specs.Loads.{total_load}
use Rattle.wiring.specs.Lists.{ListOf, words, OneOf, AllPaths, CoversAll, Witness}
use Rattle.wiring.proofs.Ends.{below_places}
use Rattle.wiring.proofs.Types.{lead_at}
use Rattle.lengths.proofs.Worked.{worked_tables}
use Rattle.cover.proofs.Whole.{no_shorter_list_lem, one_best_loads_lem, witness_exists_lem}
use Rattle.drawing.specs.Claims.{DrawingEnds, SmallestCover, ListIsSmallestCover}
use Rattle.drawing.proofs.Left.{all_left}
use Rattle.drawing.proofs.Paths.{path_few}
use Rattle.drawing.proofs.Exist.{draws_exist, draws_number, draws_cover, draws_paths}

-- the words of paths that each have fewer than n leads
words_number : (n : ℕ) (ps : List (List ℕ)) → ((p : List ℕ) → OneOf ps p → length p < n) → length (words ps) ≤ length ps * n
words_number n [] h = omega arith
words_number n (p ∷ ps) h =
    let rest = words_number n ps (λ q o. h q (inr o)) in
    omega (arith, length-append p (words ps), h p (inl refl), suc-mul (length ps) n)

-- a witness has no more leads than there are places
witness_few : {D : Type 0} {K : Kind D} {N : Net D} (n : ℕ) (w : List ℕ) → Witness K N n w → n ≤ N.places
witness_few {N = N} zero w W = omega arith
witness_few {N = N} (suc n) w W =
    let l = lead_at N (get_or w n 0) (W.leads n (omega arith)) in
    omega (arith, least n (omega arith), below_places N (get_or w n 0) l.0 l.1)
  where
    least : (i : ℕ) → i < suc n → i ≤ get_or w i 0
    least zero h = omega arith
    least (suc i) h = omega (arith, least i (omega arith), W.ascending i h)

module _ {D : Type 0} {K : Kind D} (L : Laws K) where
  pub drawing_ends_lem : DrawingEnds K
  drawing_ends_lem N S m Y f F =
      let T = worked_tables L S in
      let d = draws_exist L S T Y f (all_left F) in
      record {
        list = d.0;
        draws = d.1;
        number = draws_number L S T Y f d.0 (all_left F) d.1;
        paths = draws_paths L S T Y f d.0 d.1;
        covers = λ k e. draws_cover L S T Y f d.0 d.1 k (F.leads k e);
      }

  -- the list of a wiring is a smallest cover
  pub list_smallest : (N : Net D) → Sound K N → (ps : List (List ℕ)) → ListOf K N ps → SmallestCover K N ps
  list_smallest N S ps A = record {
    paths = paths;
    covers = covers;
    least = λ qs Q V. omega (arith, number, no_shorter_list_lem L N S A.marks A.types A.loads A.best qs Q V);
    witness = (w.0, witness);
    few = witness_few (length ps) w.0 witness;
    short = short;
    words_few = words_number N.nodes ps short;
  }
    where
      paths : AllPaths N ps
      paths = draws_paths L S (worked_tables L S) A.types A.loads ps A.draws

      covers : CoversAll K N ps
      covers k e = draws_cover L S (worked_tables L S) A.types A.loads ps A.draws k (A.best.loads.leads k e)

      number : length ps ≡ total_load N A.marks A.loads
      number = draws_number L S (worked_tables L S) A.types A.loads ps (all_left A.best.loads) A.draws

      w : (w : List ℕ) × Witness K N (total_load N A.marks A.loads) w
      w = witness_exists_lem L N S A.marks A.types A.loads A.best

      witness : Witness K N (length ps) w.0
      witness = subst (λ (n : ℕ). Witness K N n w.0) (sym number) w.1

      short : (p : List ℕ) → OneOf ps p → length p < N.nodes
      short p o = path_few S (paths p o)

  pub list_is_smallest_cover_lem : ListIsSmallestCover K
  list_is_smallest_cover_lem N S =
      let B = one_best_loads_lem L N S in
      let d = drawing_ends_lem N S B.marks B.types B.loads B.best.loads in
      let A : ListOf K N d.list = record { marks = B.marks; types = B.types; loads = B.loads; best = B.best; draws = d.draws } in
      (d.list, A, list_smallest N S d.list A)
