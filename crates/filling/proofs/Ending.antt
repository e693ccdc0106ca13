-- Where the arcs of leads begin and end, told by the links of the nodes.
use Rattle.std.proofs.Common.{◌≡◌, ℕ, ◌<◌, Bool, true, false, cond, not, ◌&&◌, ◌||◌, List, length, is_some, Some, None, Option, sym, refl, ap, ◌∙◌}
use Rattle.wiring.specs.declared.Lead.{Lead}
use Rattle.wiring.specs.Net.{Net, Holds, stands, has_lead_in, has_lead_out}
use Rattle.wiring.specs.Lengths.{Marks}
use Rattle.wiring.specs.Lists.{tail_in, head_in}
use Rattle.wiring.proofs.Ends.{has_in, has_out, lead_in, lead_out}
use Rattle.wiring.proofs.Types.{lead_at}
use Rattle.marks.specs.declared.mark.Mark.{Mark}
use Rattle.marks.specs.Links.{arc_at, begin_at, end_at, out_at, into_at, Earliest, belongs, Linked}
use Rattle.marks.proofs.Following.{head_at, head_some}
use Rattle.cover.specs.Arcs.{begin_at as begin_of, end_at as end_of_lem, arc_table, highest_node}
use Rattle.filling.specs.Leads.{Leads, NodeLinks}

-- a link stands where a test can be met, and only there
linked_decides : (A : ℕ → Bool) (B : ℕ → ℕ) (v : ℕ) (o : Option ℕ) → Earliest (belongs A B v) 0 o → (b : Bool) →
    ((j : ℕ) → A j ≡ true → B j ≡ v → b ≡ true) → (b ≡ true → (j : ℕ) × (A j ≡ true) × (B j ≡ v)) → is_some o ≡ b
linked_decides A B v None h true f w = let j = w refl in head_some A B v None h j.0 j.1 j.2
linked_decides A B v None h false f w = refl
linked_decides A B v (Some i) h b f w = let a = head_at A B v 0 (Some i) i h refl in sym (f i a.0 a.1)

module _ {D : Type 0} (N : Net D) where
  pub node_links : (ps ns : List Mark) → Leads N ps → Linked ps ns 0 → NodeLinks N ns
  node_links ps ns P F v l = (
    linked_decides (arc_at ps) (end_at ps) v (into_at ns v) (F.into v l) (has_lead_in N v)
        (λ j a b. let e = lead_at N j (sym (ap (λ f. f j) P.arc) ∙ a) in
        has_in N j e.0 v e.1 (sym (ap head_in e.1) ∙ sym (ap (λ f. f j) P.end) ∙ b))
        (λ e. let i = lead_in N v e in
        (i.place, ap (λ f. f i.place) P.arc ∙ ap stands i.holds, ap (λ f. f i.place) P.end ∙ ap head_in i.holds ∙ i.ends)),
    linked_decides (arc_at ps) (begin_at ps) v (out_at ns v) (F.out v l) (has_lead_out N v)
        (λ j a b. let e = lead_at N j (sym (ap (λ f. f j) P.arc) ∙ a) in
        has_out N j e.0 v e.1 (sym (ap tail_in e.1) ∙ sym (ap (λ f. f j) P.begin) ∙ b))
        (λ e. let i = lead_out N v e in
        (i.place, ap (λ f. f i.place) P.arc ∙ ap stands i.holds, ap (λ f. f i.place) P.begin ∙ ap tail_in i.holds ∙ i.begins)),
  )

  -- the ends of the arc of the lead l at k, by the links of its nodes
  module _ (ns : List Mark) (F : NodeLinks N ns) (k : ℕ) (l : Lead D) (h : Holds N k l) (m : Marks) where
    pub begin_by : l.tail < length ns → cond (not (m k).0 || not (is_some (into_at ns l.tail))) 0 l.tail ≡ (arc_table N m).begin k
    begin_by i =
        let into = (F l.tail i).0 in
        let out = has_out N k l l.tail h refl in
        ap (λ b. cond (not (m k).0 || not b) 0 l.tail) into
        ∙ ap (λ b. cond (not (m k).0 || (b && not (has_lead_in N l.tail))) 0 l.tail) (sym out)
        ∙ ap (begin_of N (m k)) (sym h)

    pub end_by : l.head < length ns → cond (not (m k).1 || not (is_some (out_at ns l.head))) (highest_node N) l.head ≡ (arc_table N m).end k
    end_by i =
        let out = (F l.head i).1 in
        let into = has_in N k l l.head h refl in
        ap (λ b. cond (not (m k).1 || not b) (highest_node N) l.head) out
        ∙ ap (λ b. cond (not (m k).1 || (b && not (has_lead_out N l.head))) (highest_node N) l.head) (sym into)
        ∙ ap (end_of_lem N (m k)) (sym h)
