-- The arcs that the filled places of a mark table show are those of the wiring.
use Rattle.std.proofs.Common.{◌≡◌, ℕ, ◌-◌, ◌≤◌, List, length, sym, ap, ◌∙◌, arith}
use Rattle.delay.specs.Kind.{Kind}
use Rattle.wiring.specs.Net.{Net, Sound}
use Rattle.wiring.specs.Lengths.{Marks}
use Rattle.marks.specs.declared.mark.Mark.{Mark}
use Rattle.marks.specs.Marks.{table, classes, ArcsSound, ArcsFit}
use Rattle.cover.specs.Arcs.{arc_table, highest_node}
use Rattle.cover.proofs.Arcs.{arcs_sound}
use Rattle.filling.specs.Ends.{HoldsArcs}
use Rattle.chooser.specs.Ready.{Ready}

module _ {D : Type 0} {K : Kind D} {N : Net D} (S : Sound K N) (two : 2 ≤ N.nodes) (m : Marks) (ps : List Mark) (H : HoldsArcs N m ps) where
  sink_is : N.nodes - 1 ≡ highest_node N
  sink_is = omega arith

  pub shown_arcs : (n t : ℕ) → n ≡ N.nodes → t ≡ N.nodes - 1 → table ps n 0 t ≡ arc_table N m
  shown_arcs n t e f = λ i. record {
    places = H.places i;
    nodes = e i;
    arc = H.arc i;
    begin = H.begin i;
    end = H.end i;
    source = 0;
    sink = (f ∙ sink_is) i;
  }

  pub arcs_right : (n t : ℕ) → n ≡ N.nodes → t ≡ N.nodes - 1 → ArcsSound ps n 0 t
  arcs_right n t e f =
      let T = arcs_sound S m in (
        (λ k a.
            let arc = sym (ap (λ g. g k) H.arc) ∙ a in
            let b = ap (λ g. g k) H.begin in let d = ap (λ g. g k) H.end in (
              omega (arith, T.up k arc),
              omega (arith, T.within k arc),
              (λ q. omega (arith, T.up k arc)),
              (λ q. T.to_sink k arc (sym b ∙ q ∙ f ∙ sink_is)),
            )),
        (λ q. omega arith),
      )

  pub arcs_fit : (n t : ℕ) → n ≡ N.nodes → t ≡ N.nodes - 1 → ArcsFit ps n 0 t
  arcs_fit n t e f = (omega arith, omega arith, omega (arith, S.few_nodes), omega (arith, S.few_places, H.places))

-- once the loads are found
pub ready_sound : {D : Type 0} {K : Kind D} {N : Net D} {ns ps : List Mark} {xs : List ℕ} → Ready K N ns ps xs → ArcsSound ps (length ns) 0 (length ns - 1)
ready_sound {ns = ns} {ps = ps} R = arcs_right R.sound R.two (classes ps) ps R.arcs (length ns) (length ns - 1) R.nodes (ap (λ n. n - 1) R.nodes)
