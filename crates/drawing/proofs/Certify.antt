-- What the tests on a certificate show.
use Rattle.std.proofs.Common.{◌≡◌, ℕ, ◌≤◌, Bool, true, not, ◌&&◌, eqb, ltb, leb, List, [], ◌∷◌, map, length, sym, refl, ap, ◌∙◌, ⊎_elim, arith}
use Rattle.std.proofs.lemmas.List.{get_or_past}
use Rattle.std.proofs.lemmas.Bool.{cases_lt, and_parts, not-true, leb-true, ltb-true, eqb-true}
use Rattle.delay.specs.Kind.{Kind, Laws}
use Rattle.wiring.specs.declared.Lead.{Lead}
use Rattle.wiring.specs.Net.{Net, Holds, Sound, all_below}
use Rattle.wiring.specs.Lengths.{Marks}
use Rattle.wiring.specs.Lists.{Lowest, lowered, tail_at, head_node, begins, Walk, Drawn, Draws, onwards, backwards, forwards, Walker}
use Rattle.wiring.proofs.Ends.{below_places, all_below_at}
use Rattle.wiring.proofs.Types.{types_by_tables}
use Rattle.lengths.proofs.Worked.{worked_tables}
use Rattle.flow.specs.Tests.{best_test}
use Rattle.flow.proofs.Tests.{best_by_test_lem}
use Rattle.cover.specs.Arcs.{arc_table}
use Rattle.cover.proofs.Arcs.{arcs_sound, arcs_to_best}
use Rattle.drawing.specs.Tests.{Drawing, core_of, path_of, lowest_test, walk_test, lead_test, sound_test, drawn_test, draws_test, worked_marks, loads_in}
use Rattle.drawing.specs.Claims.{ListByTest}

lowest_by_test : (P : ℕ → Bool) (k : ℕ) → lowest_test P k ≡ true → Lowest P k
lowest_by_test P k e =
    let p = and_parts (P k) (all_below k (λ j. not (P j))) e in
    record { holds = p.0; below = λ j l. not-true (P j) (all_below_at k (λ i. not (P i)) p.1 j l) }

walk_by_test : (X : Walker) (v : ℕ) (js : List ℕ) (w : ℕ) → walk_test X v js w ≡ true → Walk X v js w
walk_by_test X v [] w e = let p = and_parts (X.done v) (eqb v w) e in (p.0, eqb-true v w p.1)
walk_by_test X v (j ∷ js) w e =
    let p = and_parts (not (X.done v)) (lowest_test (X.by v) j && walk_test X (X.next j) js w) e in
    let q = and_parts (lowest_test (X.by v) j) (walk_test X (X.next j) js w) p.1 in
    (not-true (X.done v) p.0, lowest_by_test (X.by v) j q.0, walk_by_test X (X.next j) js w q.1)

module _ {D : Type 0} (K : Kind D) (N : Net D) where
  pub sound_by_test : sound_test K N ≡ true → Sound K N
  sound_by_test e = record {
    few_nodes = leb-true N.nodes 4096 sizes.0;
    few_places = leb-true N.places 4096 sizes.1;
    upwards = λ k l h. ltb-true l.tail l.head (ends k l h).0;
    inside = λ k l h. ltb-true l.head N.nodes (ends k l h).1;
    lawful = λ k l h. (at k l h).1;
  }
    where
      p : ((leb N.nodes 4096 && leb N.places 4096) ≡ true) × (all_below N.places (λ k. lead_test K N (N.at k)) ≡ true)
      p = and_parts (leb N.nodes 4096 && leb N.places 4096) (all_below N.places (λ k. lead_test K N (N.at k))) e

      sizes : (leb N.nodes 4096 ≡ true) × (leb N.places 4096 ≡ true)
      sizes = and_parts (leb N.nodes 4096) (leb N.places 4096) p.0

      at : (k : ℕ) (l : Lead D) → Holds N k l → ((ltb l.tail l.head && ltb l.head N.nodes) ≡ true) × (K.lawful l.delay ≡ true)
      at k l h = and_parts (ltb l.tail l.head && ltb l.head N.nodes) (K.lawful l.delay)
          (ap (lead_test K N) (sym h) ∙ all_below_at N.places (λ k. lead_test K N (N.at k)) p.1 k (below_places N k l h))

      ends : (k : ℕ) (l : Lead D) → Holds N k l → (ltb l.tail l.head ≡ true) × (ltb l.head N.nodes ≡ true)
      ends k l h = and_parts (ltb l.tail l.head) (ltb l.head N.nodes) (at k l h).0

module _ {D : Type 0} (N : Net D) (m : Marks) where
  drawn_by_test : (left : ℕ → ℕ) (d : Drawing) → drawn_test N m left d ≡ true → Drawn N m left (core_of d) (path_of d)
  drawn_by_test left d e =
      let onward = walk_test (onwards N m left) d.start d.rest d.stop in
      let back = walk_test (backwards N m) (tail_at N d.start) d.behind d.input in
      let fore = walk_test (forwards N m) (head_node N d.stop) d.ahead d.output in
      let p = and_parts (lowest_test (begins N m left) d.start && onward) (back && fore) e in
      let q = and_parts (lowest_test (begins N m left) d.start) onward p.0 in
      let r = and_parts back fore p.1 in
      record {
        start = d.start;
        rest = d.rest;
        stop = d.stop;
        behind = d.behind;
        input = d.input;
        ahead = d.ahead;
        output = d.output;
        lowest = lowest_by_test (begins N m left) d.start q.0;
        onward = walk_by_test (onwards N m left) d.start d.rest d.stop q.1;
        back = walk_by_test (backwards N m) (tail_at N d.start) d.behind d.input r.0;
        fore = walk_by_test (forwards N m) (head_node N d.stop) d.ahead d.output r.1;
        core_is = refl;
        path_is = refl;
      }

  pub draws_by_test : (left : ℕ → ℕ) (ds : List Drawing) → ((k : ℕ) → N.places ≤ k → left k ≡ 0) → draws_test N m left ds ≡ true →
      Draws N m left (map path_of ds)
  draws_by_test left [] past e = λ k. ⊎_elim (λ i. eqb-true (left k) 0 (all_below_at N.places (λ j. eqb (left j) 0) e k i)) (λ i. past k i)
      (cases_lt k N.places)
  draws_by_test left (d ∷ ds) past e =
      let p = and_parts (drawn_test N m left d) (draws_test N m (lowered left (core_of d)) ds) e in
      (core_of d, drawn_by_test left d p.0, draws_by_test (lowered left (core_of d)) ds (λ k i. omega (arith, past k i)) p.1)

-- a certificate that passes the test gives the list
unfoldable pub list_by_test_lem : {D : Type 0} {K : Kind D} → Laws K → ListByTest K
list_by_test_lem {K = K} L N c e =
    let m = worked_marks K N in let f = loads_in c in
    let best = best_test (arc_table N m) f c.cut c.cuts in
    let p = and_parts (sound_test K N && leb (length c.loads) N.places) (best && draws_test N m f c.drawings) e in
    let q = and_parts (sound_test K N) (leb (length c.loads) N.places) p.0 in
    let r = and_parts best (draws_test N m f c.drawings) p.1 in
    let S = sound_by_test K N q.0 in
    let past : (k : ℕ) → N.places ≤ k → f k ≡ 0 = λ k h. get_or_past c.loads k 0 (omega (arith, leb-true (length c.loads) N.places q.1)) in
    record {
      marks = m;
      types = types_by_tables L S (worked_tables L S);
      loads = f;
      best = arcs_to_best S m f (best_by_test_lem (arc_table N m) (arcs_sound S m) f past c.cut c.cuts r.0);
      draws = draws_by_test N m f c.drawings past r.1;
    }
