-- Certificates for lists: what shows that given paths are the list of a wiring, and the test that computes whether it does.
use Rattle.std.specs.Prelude.{ℕ, Bool, true, not, ◌&&◌, List, [], ◌∷◌, ◌++◌, map, reverse, length, Some, None, Option, ◌==◌, nat_eq, nat_le, nat_lt, slice_index}
use Rattle.delay.specs.Kind.{Kind}
use Rattle.wiring.specs.declared.Lead.{Lead}
use Rattle.wiring.specs.Net.{Net, all_below}
use Rattle.wiring.specs.Lengths.{Marks, marks_of}
use Rattle.wiring.specs.Lists.{lowered, tail_at, head_node, Walker, begins, onwards, backwards, forwards}
use Rattle.lengths.specs.Worked.{worked_to, worked_from}
use Rattle.flow.specs.Tests.{best_test}
use Rattle.cover.specs.Arcs.{arc_table}

-- how one path is drawn: its core from start to stop, what extends it back to an input, and what extends it on to an output
pub record Drawing : Type 0 where
  pub start : ℕ
  pub rest : List ℕ
  pub stop : ℕ
  pub behind : List ℕ
  pub input : ℕ
  pub ahead : List ℕ
  pub output : ℕ

abbrev pub core_of : Drawing → List ℕ
core_of d = d.start ∷ d.rest

abbrev pub path_of : Drawing → List ℕ
path_of d = reverse d.behind ++ (core_of d ++ d.ahead)

-- what shows that a wiring has a list: its best loads, a cut for their total and one for each lead, and how each path is drawn
pub record Certificate : Type 0 where
  pub loads : List ℕ
  pub cut : ℕ → Bool
  pub cuts : ℕ → ℕ → Bool
  pub drawings : List Drawing

-- the paths that a certificate draws
abbrev pub paths_of : Certificate → List (List ℕ)
paths_of c = map path_of c.drawings

-- k is the lowest number at which P holds
abbrev pub lowest_test : (ℕ → Bool) → ℕ → Bool
lowest_test P k = P k && all_below k (λ j. not (P j))

-- js is a walk from v to w
abbrev pub walk_test : Walker → ℕ → List ℕ → ℕ → Bool
walk_test X v [] w = X.done v && v == w
walk_test X v (j ∷ js) w = not (X.done v) && (lowest_test (X.by v) j && walk_test X (X.next j) js w)

-- the lead at a place, if there is one, runs upwards inside the wiring and has a lawful delay
abbrev pub lead_test : {D : Type 0} → Kind D → Net D → Option (Lead D) → Bool
lead_test K N (Some l) = (nat_lt l.tail l.head && nat_lt l.head N.nodes) && K.lawful l.delay
lead_test K N None = true

-- the wiring is sound
abbrev pub sound_test : {D : Type 0} → Kind D → Net D → Bool
sound_test K N = (nat_le N.nodes 4096 && nat_le N.places 4096) && all_below N.places (λ k. lead_test K N (N.at k))

module _ {D : Type 0} (N : Net D) (m : Marks) where
  -- d draws the next path from what is left
  abbrev pub drawn_test : (ℕ → ℕ) → Drawing → Bool
  drawn_test left d =
      (lowest_test (begins N m left) d.start && walk_test (onwards N m left) d.start d.rest d.stop)
      && (walk_test (backwards N m) (tail_at N d.start) d.behind d.input
      && walk_test (forwards N m) (head_node N d.stop) d.ahead d.output)

  -- ds draw all paths, until nothing is left
  abbrev pub draws_test : (ℕ → ℕ) → List Drawing → Bool
  draws_test left [] = all_below N.places (λ k. nat_eq (left k) 0)
  draws_test left (d ∷ ds) = drawn_test left d && draws_test (lowered left (core_of d)) ds

-- the types of the leads, by the lengths that are worked out
abbrev pub worked_marks : {D : Type 0} → Kind D → Net D → Marks
worked_marks K N = marks_of K N (worked_to K N) (worked_from K N)

-- the loads of a certificate, 0 past the last
abbrev pub loads_in : Certificate → ℕ → ℕ
loads_in c k = slice_index c.loads k

-- the certificate's loads are best, and its drawings draw them out: so its paths are the list of the wiring
abbrev pub list_test : {D : Type 0} → Kind D → Net D → Certificate → Bool
list_test K N c = (sound_test K N && nat_le (length c.loads) N.places)
    && (best_test (arc_table N (worked_marks K N)) (loads_in c) c.cut c.cuts && draws_test N (worked_marks K N) (loads_in c) c.drawings)
