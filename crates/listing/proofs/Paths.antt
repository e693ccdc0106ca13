-- A drawn path, put together from its parts in the row.
use Rattle.std.proofs.Common.{◌≡◌, ℕ, ◌-◌, ◌+◌, ◌≤◌, true, false, ◌&&◌, ltb, List, [], ◌∷◌, ◌++◌, reverse, length, drop, set, sym, ap, ◌∙◌, subst, ⊎_elim, append_assoc, arith}
use Rattle.std.proofs.lemmas.Bool.{both_ways, and_from}
use Rattle.std.proofs.lemmas.List.{length-append, length-reverse}
use Rattle.delay.specs.Kind.{Kind}
use Rattle.wiring.specs.declared.Lead.{Lead}
use Rattle.wiring.specs.Net.{Net, Holds, Sound, stands, has_lead_in, has_lead_out}
use Rattle.wiring.specs.Lengths.{Marks}
use Rattle.wiring.specs.Loads.{is_end_lead}
use Rattle.wiring.specs.Lists.{Lowest, count_on, lowered, tail_at, head_node, begins, goes, Walker, Walk, onwards, backwards, forwards, Drawn}
use Rattle.wiring.proofs.Ends.{has_in}
use Rattle.flow.specs.Table.{Table}
use Rattle.marks.specs.Shown.{shown}
use Rattle.cover.specs.Arcs.{arc_table}
use Rattle.cover.proofs.Arcs.{end_lies, begins_draining, ends_end}
use Rattle.drawing.proofs.Walks.{walk_one}
use Rattle.drawing.proofs.Parts.{First, first_parts, goes_parts, head_of}
use Rattle.drawing.proofs.Left.{core_fits}
use Rattle.listing.specs.declared.links.Links.{Links}
use Rattle.listing.specs.Looks.{begins_left}
use Rattle.listing.specs.Shows.{types_in, Shows}
use Rattle.listing.specs.declared.row.WordRow.{WordRow}
use Rattle.listing.specs.Row.{written, unwritten, Wrote, Rewrote}
use Rattle.listing.specs.Walks.{WalkFits, WalkPut}
use Rattle.listing.specs.CoreWalks.{by_arcs, CoreFits, CorePut}
use Rattle.listing.specs.Paths.{PathFits, PathPut}
use Rattle.listing.proofs.Rows.{wrote_room, wrote_length, wrote_more, wrote_part, wrote_first}
use Rattle.listing.proofs.Showing.{outer_reached}

-- a walk ends where it is done
walk_ends : (X : Walker) (v : ℕ) (js : List ℕ) (w : ℕ) → Walk X v js w → X.done w ≡ true
walk_ends X v [] w g = subst (λ (x : ℕ). X.done x ≡ true) g.1 g.0
walk_ends X v (j ∷ js) w g = walk_ends X (X.next j) js w g.2

module _ {D : Type 0} {K : Kind D} {N : Net D} (S : Sound K N) (m : Marks) (left : ℕ → ℕ) where
  -- from a lead that is no end lead the arcs lead on as the leads do
  on_by_arcs : (k : ℕ) (l : Lead D) → Holds N k l → is_end_lead N m k ≡ false → (j : ℕ) →
      begins_left (arc_table N m) left ((arc_table N m).end k) j ≡ goes N m left (head_node N k) j
  on_by_arcs k l h e j = ⊎_elim
      (λ c. absurd (both_ways (is_end_lead N m k) e c.0))
      (λ c.
      let v = head_node N k in let same = head_of N k l h in
      let in' : has_lead_in N v ≡ true = has_in N k l v h (sym same) in
      let out : has_lead_out N v ≡ true = subst (λ (x : ℕ). has_lead_out N x ≡ true) (sym same) c.3 in
      ap (λ (x : ℕ). begins_left (arc_table N m) left x j) (c.1 ∙ sym same)
      ∙ ap (λ b. b && ltb 0 (left j)) (begins_draining S m v (and_from (has_lead_in N v) (has_lead_out N v) in' out) j))
      (end_lies N m k l h)

  -- so a core is a walk along the arcs
  core_by_arcs : (k : ℕ) (l : Lead D) → Holds N k l → (js : List ℕ) (stop : ℕ) → Walk (onwards N m left) k js stop →
      Walk (by_arcs (arc_table N m) left) k js stop
  core_by_arcs k l h [] stop w = (ends_end S m k ∙ w.0, w.1)
  core_by_arcs k l h (j ∷ js) stop w =
      let same = on_by_arcs k l h w.0 in let o = (goes_parts N m left (head_node N k) j w.1).0 in (
        ends_end S m k ∙ w.0,
        record { holds = same j ∙ w.1.holds; below = λ i b. same i ∙ w.1.below i b },
        core_by_arcs j o.lead o.holds js stop w.2,
      )

-- what a walk has written is what the one walk meets
walk_put : (X : Walker) (told : List ℕ → List ℕ) {v : ℕ} {r s : WordRow} → WalkPut X told v r s → (js : List ℕ) (w : ℕ) → Walk X v js w → Wrote r s (told js)
walk_put X told {v} {r} {s} W js w g = subst (λ (xs : List ℕ). Wrote r s (told xs)) (walk_one X v W.leads js W.walk g).0 W.put

module _ {D : Type 0} {K : Kind D} {N : Net D} (l : Links) (H : Shows K N l) (left : ℕ → ℕ) (start : ℕ) {r : WordRow}
    (f : PathFits N (types_in l) left start r) where
  -- the parts of the path
  abbrev m : Marks
  m = types_in l

  abbrev R : Drawn N (types_in l) left f.core f.path
  R = f.drawn

  first : First N m left start
  first = first_parts N m left start (subst (Lowest (begins N m left)) f.first R.lowest)

  back : (v : ℕ) → v ≡ tail_at N start → Walk (backwards N m) v R.behind R.input
  back v e = subst (λ (x : ℕ). Walk (backwards N m) x R.behind R.input) (ap (tail_at N) f.first ∙ sym e) R.back

  onward : Walk (onwards N m left) start R.rest R.stop
  onward = subst (λ (x : ℕ). Walk (onwards N m left) x R.rest R.stop) f.first R.onward

  chain : Walk (by_arcs (shown l.arcs) left) start R.rest R.stop
  chain = subst (λ (T : Table). Walk (by_arcs T left) start R.rest R.stop) (sym H.arcs)
      (core_by_arcs H.sound m left start first.lead first.holds R.rest R.stop onward)

  fore : (stop u : ℕ) → stop ≡ R.stop → u ≡ head_node N stop → Walk (forwards N m) u R.ahead R.output
  fore stop u s e = subst (λ (x : ℕ). Walk (forwards N m) x R.ahead R.output) (ap (head_node N) (sym s) ∙ sym e) R.fore

  leads : length f.path ≡ length R.behind + 1 + length R.rest + length R.ahead
  leads = omega (
    arith,
    ap length R.path_is,
    length-append (reverse R.behind) (f.core ++ R.ahead),
    length-reverse R.behind,
    length-append f.core R.ahead,
    ap length R.core_is,
  )

  pub start_arc : (shown l.arcs).arc start ≡ true
  start_arc = ap (λ (T : Table). T.arc start) H.arcs ∙ ap stands first.holds

  -- behind a word that is written first
  module _ {r1 : WordRow} (word : Wrote r r1 (0 ∷ [])) {v : ℕ} (e : v ≡ tail_at N start) where
    pub behind_reached : has_lead_out N v ≡ true
    behind_reached = outer_reached H.sound m false start v first.starts e

    module _ {r2 : WordRow} (B : WalkPut (backwards N m) reverse v r1 r2) where
      one : Wrote r r2 (0 ∷ reverse R.behind)
      one = wrote_more word (walk_put (backwards N m) reverse B R.behind R.input (back v e))

      room : length R.rest + 1 + length R.ahead ≤ length (unwritten r2)
      room = omega (arith, leads, wrote_room one, length-reverse R.behind, f.room)

      pub fits_core : CoreFits (shown l.arcs) left start r2
      fits_core = record { leads = R.rest; stop = R.stop; walk = chain; room = omega (arith, room) }

      module _ {r3 : WordRow} {stop : ℕ} (C : CorePut (shown l.arcs) left start r2 r3 stop) where
        two : Wrote r2 r3 (start ∷ R.rest)
        two = walk_put (by_arcs (shown l.arcs) left) (λ js. start ∷ js) C.0 R.rest R.stop chain

        stop_is : stop ≡ R.stop
        stop_is = sym C.1 ∙ (walk_one (by_arcs (shown l.arcs) left) start C.0.leads R.rest C.0.walk chain).1

        -- the words of the core
        core_part : (from : ℕ) → from ≡ length (written r2) → drop from (written r3) ≡ start ∷ R.rest
        core_part from i = ap (λ (n : ℕ). drop n (written r3)) i ∙ wrote_part two

        pub fits_lower : (from : ℕ) → from ≡ length (written r2) → (core : List ℕ) → core ≡ drop from (written r3) → (k : ℕ) → count_on k core ≤ left k
        fits_lower from i core c k =
            omega (arith, ap (count_on k) (c ∙ core_part from i), core_fits H.sound m left first R.rest R.stop onward k)

        module _ {u : ℕ} (i : u ≡ head_node N stop) where
          pub fits_ahead : (has_lead_in N u ≡ true) × WalkFits (forwards N m) u r3
          fits_ahead =
              let d = walk_ends (onwards N m left) start R.rest R.stop onward in (
                outer_reached H.sound m true stop u (ap (is_end_lead N m) stop_is ∙ d) i,
                record { leads = R.ahead; stop = R.output; walk = fore stop u stop_is i; room = omega (arith, room, wrote_room two) },
              )

          module _ {r4 : WordRow} (A : WalkPut (forwards N m) (λ js. js) u r3 r4) where
            whole : Wrote r r4 (0 ∷ f.path)
            whole =
                let is : ((0 ∷ reverse R.behind) ++ (start ∷ R.rest)) ++ R.ahead ≡ 0 ∷ f.path =
                append_assoc (0 ∷ reverse R.behind) (start ∷ R.rest) R.ahead
                ∙ ap (λ (c : List ℕ). 0 ∷ (reverse R.behind ++ (c ++ R.ahead))) (ap (λ (x : ℕ). x ∷ R.rest) (sym f.first) ∙ sym R.core_is)
                ∙ ap (λ (p : List ℕ). 0 ∷ p) (sym R.path_is) in
                subst (Wrote r r4) is (wrote_more (wrote_more one two) (walk_put (forwards N m) (λ js. js) A R.ahead R.output (fore stop u stop_is i)))

            module _ {from to : ℕ} (b : from ≡ length (written r)) (a : to ≡ length (written r4)) where
              pub path_number : to - from - 1 ≡ length f.path
              path_number = omega (arith, wrote_length whole)

              pub path_put : {s : WordRow} → Rewrote r4 s (set (written r4) from (to - from - 1)) →
                  (at : ℕ) → at ≡ length (written r2) → (core : List ℕ) → core ≡ drop at (written r3) →
                  (lower : ℕ → ℕ) → lower ≡ lowered left core → PathPut N m left r lower s
              path_put {s} S at j core c lower low = record {
                core = f.core;
                path = f.path;
                drawn = R;
                put = subst (λ (n : ℕ). Wrote r s (n ∷ f.path)) path_number
                    (wrote_first whole (subst (λ (n : ℕ). Rewrote r4 s (set (written r4) n (to - from - 1))) b S));
                left_is = low ∙ ap (lowered left) (c ∙ core_part at j ∙ ap (λ (x : ℕ). x ∷ R.rest) (sym f.first) ∙ sym R.core_is);
              }
