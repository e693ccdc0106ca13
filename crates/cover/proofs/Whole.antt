-- The statements put together, for every kind that keeps the laws and every sound wiring.
use Rattle.std.proofs.Common.{sym, subst, ⊎_elim, arith}
use Rattle.std.proofs.lemmas.Bool.{cases_Bool}
use Rattle.delay.specs.Kind.{Kind, Laws}
use Rattle.wiring.specs.Net.{is_lead}
use Rattle.wiring.specs.Lengths.{To, From, marks_of}
use Rattle.wiring.proofs.Ends.{head_inside}
use Rattle.wiring.proofs.Lengths.{to_unique}
use Rattle.wiring.proofs.FromLengths.{from_unique}
use Rattle.wiring.proofs.Cover.{parts_cover, cover_parts, covers_or_not}
use Rattle.wiring.proofs.Steps.{covers_step, unfed_last, undrained_first}
use Rattle.wiring.proofs.Types.{types_by_tables, types_same}
use Rattle.wiring.proofs.Marks.{one_start, one_end}
use Rattle.lengths.specs.Worked.{worked_from, worked_to}
use Rattle.lengths.proofs.Worked.{worked_tables}
use Rattle.flow.specs.Table as flow
use Rattle.flow.proofs.Cuts.{at_most_total}
use Rattle.flow.proofs.Best.{best_one}
use Rattle.flow.proofs.Seek.{joined_best, tight_exists}
use Rattle.cover.specs.Arcs.{arc_table, listed}
use Rattle.cover.specs.Claims.{CoveringIsLocal, LoadsAreArcLoads, LoadWithinTotal, OneBestLoads, NoShorterList, WitnessOfCut, WitnessExists}
use Rattle.cover.proofs.Arcs.{arcs_sound, arcs_joined, loads_to_arcs, arcs_to_loads, same_total, best_to_arcs, arcs_to_best}
use Rattle.cover.proofs.Count.{no_shorter}
use Rattle.cover.proofs.Witness.{witness}

module _ {D : Type 0} {K : Kind D} (L : Laws K) where
  pub covering_is_local_lem : CoveringIsLocal K
  covering_is_local_lem N S = let T = worked_tables L S in record {
    parts = λ k l h pre post P. let b = head_inside S k l h in (
      (λ V. let M = cover_parts L S T l h pre post V in (
        subst (To K N l.tail) (sym M.before) (T.to_is l.tail (omega arith)),
        subst (From K N l.head) (sym M.after) (T.from_is l.head b.1),
      )),
      λ M. parts_cover L S T l h pre post P (record {
        before = to_unique L S (omega arith) M.0 (T.to_is l.tail (omega arith));
        after = from_unique L S b.1 M.1 (T.from_is l.head b.1);
      }),
    );
    decided = covers_or_not L S T;
    passes = λ k j pre post. covers_step L S T pre post;
    unfed_last = λ k j pre mid post. unfed_last L S T pre mid post;
    undrained_first = λ k j pre mid post. undrained_first L S T pre mid post;
    one_start = λ m Y k j p. one_start L S T Y;
    one_end = λ m Y k j p. one_end L S T Y;
  }

  pub loads_are_arc_loads_lem : LoadsAreArcLoads K
  loads_are_arc_loads_lem N S m Y = record {
    sound = arcs_sound S m;
    joined = arcs_joined L S (worked_tables L S) Y;
    loads = λ f. (loads_to_arcs S m f, arcs_to_loads S m f);
    total = same_total S m;
    best = λ f. (best_to_arcs S m f, arcs_to_best S m f);
  }

  pub load_within_total : LoadWithinTotal K
  load_within_total N S m f B k = ⊎_elim
      (λ a. omega (arith, same_total S m f, at_most_total (arc_table N m) (arcs_sound S m) f (loads_to_arcs S m f B).balanced k a))
      (λ a. omega (arith, B.vacant k a))
      (cases_Bool (is_lead N k))

  pub one_best_loads_lem : OneBestLoads K
  one_best_loads_lem N S =
      let m = marks_of K N (worked_to K N) (worked_from K N) in
      let Y = types_by_tables L S (worked_tables L S) in
      let B = joined_best (arc_table N m) (arcs_sound S m) (arcs_joined L S (worked_tables L S) Y) in
      let F = arcs_to_best S m B.0 B.1 in
      record {
        marks = m;
        types = Y;
        loads = B.0;
        best = F;
        only_marks = λ n X. types_same Y X;
        only_loads = λ g G. best_one F G;
      }

  pub no_shorter_list_lem : NoShorterList K
  no_shorter_list_lem N S m Y = no_shorter L S (worked_tables L S) Y

  pub witness_of_cut : WitnessOfCut K
  witness_of_cut N S m Y = witness L S (worked_tables L S) Y

  pub witness_exists_lem : WitnessExists K
  witness_exists_lem N S m Y f B =
      let G = best_to_arcs S m f B in
      let r = tight_exists (arc_table N m) (arcs_sound S m) f G.loads G.least in
      (listed (flow.entering (arc_table N m) r.0) N.places, witness_of_cut N S m Y f B.loads r.0 r.1)
