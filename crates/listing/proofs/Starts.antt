-- The look for the lowest start lead with something left, which goes on where the last one ended.
use Rattle.std.proofs.Common.{◌≡◌, ℕ, ◌<◌, false, ◌&&◌, ltb, List, length, Some, None, Option, sym, ap, ◌∙◌, subst, ⊎_elim, arith}
use Rattle.std.proofs.lemmas.Bool.{cases_lt, both_ways, and_parts, and_from, ltb-true, lt-ltb, cases_Bool}
use Rattle.delay.specs.Kind.{Kind}
use Rattle.wiring.specs.Net.{Net}
use Rattle.wiring.specs.Lengths.{Marks}
use Rattle.wiring.specs.Loads.{is_start_lead}
use Rattle.wiring.specs.Lists.{Lowest, lowered, begins}
use Rattle.flow.specs.Table as flow
use Rattle.marks.specs.Links.{out_at, Earliest}
use Rattle.marks.specs.Shown.{shown}
use Rattle.cover.specs.Arcs.{arc_table}
use Rattle.cover.proofs.Arcs.{starts_begin}
use Rattle.listing.specs.declared.links.Links.{Links}
use Rattle.listing.specs.Looks.{AtArc, begins_left, FoundFrom}
use Rattle.listing.specs.Shows.{types_in, Shows}
use Rattle.listing.proofs.Looking.{earliest_arc}

module _ {D : Type 0} (N : Net D) (m : Marks) where
  -- from is the lowest start lead from low on, and below low none has something left
  pub record Seeks (left : ℕ → ℕ) (from : Option ℕ) : Type 0 where
    pub low : ℕ
    pub named : Earliest (flow.begins (arc_table N m) 0) low from
    pub none : (j : ℕ) → j < low → begins N m left j ≡ false

  -- the lowest start lead with something left, or none has
  abbrev pub Sought : (ℕ → ℕ) → Option ℕ → Type 0
  Sought left None = (k : ℕ) → begins N m left k ≡ false
  Sought left (Some k) = Lowest (begins N m left) k

module _ {D : Type 0} {K : Kind D} {N : Net D} (l : Links) (H : Shows K N l) where
  pub source_within : l.arcs.source < length l.nodes.now
  source_within = omega (arith, l.arcs.fits.0, l.whole.nodes)

  pub seeks_all : (left : ℕ → ℕ) (from : Option ℕ) → from ≡ out_at l.nodes.now l.arcs.source → Seeks N (types_in l) left from
  seeks_all left from e = record {
    low = 0;
    named = subst (λ (T : flow.Table). Earliest (flow.begins T T.source) 0 from) H.arcs
        (subst (Earliest (flow.begins (shown l.arcs) l.arcs.source) 0) (sym e) (l.whole.linked.out l.arcs.source source_within));
    none = λ j h. absurd (omega arith);
  }

  pub seeks_arc : (left : ℕ → ℕ) (from : Option ℕ) → Seeks N (types_in l) left from → AtArc (shown l.arcs) from
  seeks_arc left from W = subst (λ (T : flow.Table). AtArc T from) (sym H.arcs) (earliest_arc (arc_table N (types_in l)) 0 W.low from W.named)

  starts_same : (left : ℕ → ℕ) (k : ℕ) → begins_left (arc_table N (types_in l)) left 0 k ≡ begins N (types_in l) left k
  starts_same left k = ap (λ b. b && ltb 0 (left k)) (starts_begin H.sound (types_in l) k)

  pub seeks_found : (left : ℕ → ℕ) (from o : Option ℕ) → Seeks N (types_in l) left from → FoundFrom (shown l.arcs) left from o → Sought N (types_in l) left o
  seeks_found left from o W f = go o (subst (λ (T : flow.Table). FoundFrom T left from o) H.arcs f 0 W.low W.named)
    where
      go : (o : Option ℕ) → Earliest (begins_left (arc_table N (types_in l)) left 0) W.low o → Sought N (types_in l) left o
      go None h = λ k. ⊎_elim (λ b. W.none k b) (λ b. sym (starts_same left k) ∙ h k b) (cases_lt k W.low)
      go (Some k) h = record {
        holds = sym (starts_same left k) ∙ h.1;
        below = λ j b. ⊎_elim (λ q. W.none j q) (λ q. sym (starts_same left j) ∙ h.2 j q b) (cases_lt j W.low);
      }

  -- what is lowered since begins nothing anew
  pub seeks_on : (left lower : ℕ → ℕ) (core : List ℕ) (start : ℕ) → lower ≡ lowered left core → Lowest (begins N (types_in l) left) start →
      Seeks N (types_in l) lower (Some start)
  seeks_on left lower core start e w = record {
    low = start;
    named = (
      omega arith,
      starts_begin H.sound (types_in l) start ∙ (and_parts (is_start_lead N (types_in l) start) (ltb 0 (left start)) w.holds).0,
      λ k p q. absurd (omega arith),
    );
    none = λ j h. ⊎_elim
        (λ t.
        let p = and_parts (is_start_lead N (types_in l) j) (ltb 0 (lower j)) t in
        let some : 0 < left j = omega (arith, ltb-true 0 (lower j) p.1, ap (λ (f : ℕ → ℕ). f j) e) in
        absurd (both_ways (begins N (types_in l) left j) (w.below j h) (and_from (is_start_lead N (types_in l) j) (ltb 0 (left j)) p.0 (lt-ltb 0 (left j) some))))
        (λ t. t)
        (cases_Bool (begins N (types_in l) lower j));
  }
