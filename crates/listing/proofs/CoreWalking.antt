-- The walk of a core under way.
use Rattle.std.proofs.Common.{◌≡◌, ℕ, ◌≤◌, true, false, eqb, ltb, List, [], ◌∷◌, ◌++◌, length, Some, None, Option, refl, ap, ◌∙◌, subst, arith}
use Rattle.std.proofs.lemmas.Bool.{and_left, and_parts, eqb-true, false_from_ne_true}
use Rattle.wiring.specs.Lists.{Walker, Walk}
use Rattle.flow.specs.Table.{Table, begins, ends}
use Rattle.marks.specs.declared.arcs.Arcs.{Arcs}
use Rattle.marks.specs.Shown.{shown}
use Rattle.marks.specs.Links.{Earliest}
use Rattle.drawing.specs.Progress.{WalkTo}
use Rattle.drawing.proofs.Progress.{walk_step, walk_done}
use Rattle.listing.specs.declared.row.WordRow.{WordRow}
use Rattle.listing.specs.Row.{unwritten, Wrote}
use Rattle.listing.specs.Looks.{begins_left}
use Rattle.listing.specs.CoreWalks.{by_arcs, CorePut}
use Rattle.listing.proofs.Rows.{wrote_more, wrote_room}
use Rattle.listing.proofs.Looking.{left_arc}
use Rattle.listing.proofs.Walking.{Meets, meets}

module _ (a : Arcs) (left : ℕ → ℕ) where
  abbrev T : Table
  T = shown a

  abbrev X : Walker
  X = by_arcs (shown a) left

  -- the leads met have been written behind start, and there is room for the rest
  pub record CoreWay (start : ℕ) (before r : WordRow) (lead : ℕ) : Type 0 where
    pub met : List ℕ
    pub rest : List ℕ
    pub stop : ℕ
    pub come : WalkTo X start met lead
    pub goes : Walk X lead rest stop
    pub arc : T.arc lead ≡ true
    pub put : Wrote before r (start ∷ met)
    pub room : length rest ≤ length (unwritten r)

  -- no arc begins at the sink
  none_on : (lead : ℕ) → ends T T.sink lead ≡ true → (k : ℕ) → begins_left T left (T.end lead) k ≡ false
  none_on lead d k = and_left (begins T (T.end lead) k) (ltb 0 (left k)) (false_from_ne_true (begins T (T.end lead) k) (λ b.
      let p = and_parts (T.arc k) (eqb (T.begin k) (T.end lead)) b in
      (a.sound.0 k p.0).3
      (eqb-true (T.begin k) (T.end lead) p.1 ∙ eqb-true (T.end lead) T.sink (and_parts (T.arc lead) (eqb (T.end lead) T.sink) d).1)))

  module _ {start : ℕ} {before r : WordRow} {lead : ℕ} (W : CoreWay start before r lead) where
    -- the arc that is found is the lead that comes next
    core_meets : (o : Option ℕ) → Earliest (begins_left T left (T.end lead)) 0 o → Meets W.rest o
    core_meets o e = meets X lead W.rest W.stop (begins_left T left (T.end lead)) o W.goes e (λ _ k. refl) (none_on lead)

    module _ {j : ℕ} (e : Earliest (begins_left T left (T.end lead)) 0 (Some j)) where
      more : Meets W.rest (Some j)
      more = core_meets (Some j) e

      pub core_turn : {s : WordRow} → Wrote r s (j ∷ []) → CoreWay start before s j
      core_turn put =
          let g : Walk X lead (j ∷ more.0) W.stop = subst (λ (xs : List ℕ). Walk X lead xs W.stop) more.1 W.goes in
          record {
            met = W.met ++ (j ∷ []);
            rest = more.0;
            stop = W.stop;
            come = walk_step X start lead W.met j W.come g.0 g.1;
            goes = g.2;
            arc = left_arc T left (T.end lead) 0 j e;
            put = wrote_more W.put put;
            room = omega (arith, wrote_room put, ap length more.1, W.room);
          }

    -- and where none is found, nothing more comes
    pub core_ends : Earliest (begins_left T left (T.end lead)) 0 None → CorePut T left start before r lead
    core_ends e = (
      record {
        leads = W.met;
        stop = lead;
        walk = walk_done X start lead W.met W.come (subst (λ (xs : List ℕ). Walk X lead xs W.stop) (core_meets None e) W.goes).0;
        put = W.put;
      },
      refl,
    )
