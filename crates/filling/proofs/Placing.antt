-- Leads put at their places, one after another.
use Rattle.std.proofs.Common.{◌≡◌, ℕ, ◌<◌, true, List, sym, ap, ◌∙◌, arith}
use Rattle.delay.specs.Kind.{Kind}
use Rattle.wiring.specs.Net.{Net, Sound}
use Rattle.wiring.specs.Lists.{tail_in, head_in}
use Rattle.wiring.proofs.Ends.{head_inside}
use Rattle.wiring.proofs.Types.{lead_at}
use Rattle.marks.specs.declared.mark.Mark.{Mark}
use Rattle.marks.specs.Links.{arc_at, begin_at, end_at}
use Rattle.filling.specs.Leads.{ArcOf, Leads}

module _ {D : Type 0} (N : Net D) where
  -- the mark x holds the arc of the lead at the place k
  abbrev pub Placed : ℕ → Mark → Type 0
  Placed k x = ArcOf (N.at k) x.arc

  pub arcs_inside : {K : Kind D} → Sound K N → (ps : List Mark) → Leads N ps → (k : ℕ) → arc_at ps k ≡ true → (begin_at ps k < N.nodes) ×
      (end_at ps k < N.nodes)
  arcs_inside S ps P k a =
      let l = lead_at N k (sym (ap (λ f. f k) P.arc) ∙ a) in
      let b = head_inside S k l.0 l.1 in
      let t = ap (λ f. f k) P.begin ∙ ap tail_in l.1 in
      let h = ap (λ f. f k) P.end ∙ ap head_in l.1 in
      (omega arith, omega arith)
