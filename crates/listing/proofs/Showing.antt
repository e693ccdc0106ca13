-- What the links tell of the leads by which a walk goes on.
use Rattle.std.proofs.Common.{◌≡◌, ℕ, ◌<◌, ◌≤◌, Bool, true, false, cond, not, ◌&&◌, eqb, List, length, Some, None, Option, sym, refl, ap, ◌∙◌, subst, ⊎_elim, arith}
use Rattle.std.proofs.lemmas.Bool.{both_ways, false_from_ne_true, and_parts, and_from, and_cases, and_left, and_right, not-false, eqb-true}
use Rattle.delay.specs.Kind.{Kind, Laws}
use Rattle.wiring.specs.declared.Lead.{Lead}
use Rattle.wiring.specs.Net.{Net, Holds, Sound, is_lead, has_lead_in, has_lead_out}
use Rattle.wiring.specs.Lengths.{Marks}
use Rattle.wiring.specs.Lists.{Walker, Walk, tail_at, head_node}
use Rattle.wiring.proofs.Ends.{has_in, has_out, lead_in, lead_out, in_inside, out_inside, input_parts, output_parts}
use Rattle.wiring.proofs.Types.{lead_at}
use Rattle.flow.specs.Table.{Table, begins, ends}
use Rattle.marks.specs.Links.{link_at, Earliest}
use Rattle.marks.specs.Shown.{shown}
use Rattle.marks.proofs.Following.{linked_first}
use Rattle.cover.specs.Arcs.{highest_node, arc_table}
use Rattle.cover.proofs.Arcs.{begins_draining, ends_fed, none_begins, none_ends, starts_begin, ends_end}
use Rattle.drawing.proofs.Parts.{out_parts, in_parts, tail_of, head_of}
use Rattle.listing.specs.declared.links.Links.{Links}
use Rattle.listing.specs.Shows.{types_in, Shows}
use Rattle.listing.specs.Looks.{outer_arc}
use Rattle.listing.specs.Walks.{way, Reached, nodes_on, StepTo, WalkLong}
use Rattle.listing.specs.Costs.{outer, Extends}
use Rattle.listing.proofs.Walking.{Meets, meets}
use Rattle.listing.proofs.Ready.{fewer_on, few_on, walk_exists}

-- the arc at k begins at v or, the other way, it ends there
abbrev at_node : Table → Bool → ℕ → ℕ → Bool
at_node T along v k = T.arc k && eqb (cond along (T.begin k) (T.end k)) v

-- where a node has leads on the one side, and one is not done there, it has leads on the other side too
more_sides : (a b : Bool) → a ≡ true → (a && not b) ≡ false → b ≡ true
more_sides a b e d = ⊎_elim (λ n. absurd (both_ways a n e)) (λ n. not-false b n) (and_cases a (not b) d)

module _ {D : Type 0} {K : Kind D} {N : Net D} (S : Sound K N) (m : Marks) where
  -- where one is not done, the arcs of the node are the leads by which one may go on; and where one is done it has none
  may_go : (along : Bool) (v : ℕ) → Reached N along v → (way N m along).done v ≡ false → (k : ℕ) → at_node (arc_table N m) along v k ≡ (way N m along).by v k
  may_go true v r d k = begins_draining S m v (and_from (has_lead_in N v) (has_lead_out N v) r (more_sides (has_lead_in N v) (has_lead_out N v) r d)) k
  may_go false v r d k = ends_fed S m v (and_from (has_lead_in N v) (has_lead_out N v) (more_sides (has_lead_out N v) (has_lead_in N v) r d) r) k

  may_not : (along : Bool) (v : ℕ) → Reached N along v → (way N m along).done v ≡ true → (k : ℕ) → at_node (arc_table N m) along v k ≡ false
  may_not true v r d k = false_from_ne_true (begins (arc_table N m) v k) (λ e.
      let p = and_parts ((arc_table N m).arc k) (eqb ((arc_table N m).begin k) v) e in let i = lead_in N v r in
      none_begins S m v (and_right (has_lead_in N v) (has_lead_out N v) (output_parts N v d).1) (λ z. omega (arith, i.ends, S.upwards i.place i.lead i.holds))
      k p.0 (eqb-true ((arc_table N m).begin k) v p.1))
  may_not false v r d k = false_from_ne_true (ends (arc_table N m) v k) (λ e.
      let p = and_parts ((arc_table N m).arc k) (eqb ((arc_table N m).end k) v) e in let i = lead_out N v r in
      none_ends S m v (and_left (has_lead_in N v) (has_lead_out N v) (input_parts N v d).1)
      (λ z. omega (arith, i.begins, S.upwards i.place i.lead i.holds, S.inside i.place i.lead i.holds))
      k p.0 (eqb-true ((arc_table N m).end k) v p.1))

  inside : (along : Bool) (v : ℕ) → Reached N along v → v < N.nodes
  inside true v r = in_inside S v r
  inside false v r = out_inside S v r

-- a lead brings one to a node that is reached
reached_next : {D : Type 0} (N : Net D) (m : Marks) (along : Bool) (v j : ℕ) → (way N m along).by v j ≡ true → Reached N along ((way N m along).next j)
reached_next N m true v j e = let p = out_parts N m v j e in has_in N j p.lead (head_node N j) p.holds (sym (head_of N j p.lead p.holds))
reached_next N m false v j e = let p = in_parts N m v j e in has_out N j p.lead (tail_at N j) p.holds (sym (tail_of N j p.lead p.holds))

next_is : {D : Type 0} (N : Net D) (m : Marks) (along : Bool) (j : ℕ) → (way N m along).next j ≡ cond along (head_node N j) (tail_at N j)
next_is N m true j = refl
next_is N m false j = refl

-- a walk that is not done goes on from v by the lead j to the node x
pub record Onward {D : Type 0} (N : Net D) (m : Marks) (along : Bool) (v j x : ℕ) : Type 0 where
  pub step : StepTo (way N m along) v (Some j) x
  pub reached : Reached N along x
  pub fewer : nodes_on N along x < nodes_on N along v

module _ {D : Type 0} {K : Kind D} (L : Laws K) {N : Net D} (l : Links) (H : Shows K N l) (along : Bool) (v : ℕ) (r : Reached N along v) where
  abbrev X : Walker
  X = way N (types_in l) along

  -- the nodes of the links are those of the wiring
  pub node_within : v < length l.nodes.now
  node_within = omega (arith, inside H.sound (types_in l) along v r, l.whole.nodes, ap (λ (T : Table). T.nodes) H.arcs)

  walk : (js : List ℕ) × (w : ℕ) × Walk (way N (types_in l) along) v js w
  walk = walk_exists L H.sound H.types along v r

  -- the lowest arc of the node is the lead by which a walk goes on from there
  goes_on : (o : Option ℕ) → o ≡ link_at l.nodes.now along v → Meets walk.0 o
  goes_on o e = subst (Meets walk.0) (sym e) (
      meets X v walk.0 walk.1 (at_node (arc_table N (types_in l)) along v) (link_at l.nodes.now along v) walk.2
      (subst (λ (T : Table). Earliest (at_node T along v) 0 (link_at l.nodes.now along v)) H.arcs
      (linked_first l.arcs.marks.now l.nodes.now l.whole.linked along v node_within))
      (may_go H.sound (types_in l) along v r) (may_not H.sound (types_in l) along v r))

  module _ (o : Option ℕ) (named_is : o ≡ link_at l.nodes.now along v) where
    -- where none is named, it ends
    pub step_ends : o ≡ None → X.done v ≡ true
    step_ends n = (subst (λ (js : List ℕ). Walk X v js walk.1) (subst (Meets walk.0) n (goes_on o named_is)) walk.2).0

    -- and else the lead brings one to the next node
    pub step_leads : {j : ℕ} → o ≡ Some j → {x : ℕ} → x ≡ cond along (head_node N j) (tail_at N j) → Onward N (types_in l) along v j x
    step_leads {j} s {x} i =
        let q = subst (Meets walk.0) s (goes_on o named_is) in
        let g = subst (λ (js : List ℕ). Walk X v js walk.1) q.1 walk.2 in
        let is : X.next j ≡ x = next_is N (types_in l) along j ∙ sym i in
        record {
          step = (g.0, g.1, is);
          reached = subst (Reached N along) is (reached_next N (types_in l) along v j g.1.holds);
          fewer = subst (λ (w : ℕ). nodes_on N along w < nodes_on N along v) is (fewer_on H.sound (types_in l) along v j g.1.holds);
        }

-- beyond a lead with which a core ends or begins, a walk goes on; beyond any other, nothing
module _ {D : Type 0} (N : Net D) (m : Marks) (along : Bool) (k : ℕ) where
  pub extends_by : (v n : ℕ) → outer N m along k ≡ true → v ≡ cond along (head_node N k) (tail_at N k) → WalkLong (way N m along) v n → Extends N m along k n
  extends_by v n e i w = record {
    further = λ _. subst (λ (x : ℕ). WalkLong (way N m along) x n) i w;
    no_further = λ z. absurd (both_ways (outer N m along k) z e);
    small = w.short;
  }

  pub extends_none : outer N m along k ≡ false → Extends N m along k 0
  extends_none z = record { further = λ e. absurd (both_ways (outer N m along k) z e); no_further = λ _. refl; small = omega arith }

-- whether a core ends or begins with a lead is told by its arc
module _ {D : Type 0} {K : Kind D} {N : Net D} (S : Sound K N) (m : Marks) where
  outer_is : (along : Bool) (k : ℕ) → outer_arc (arc_table N m) along k ≡ outer N m along k
  outer_is true k = ends_end S m k
  outer_is false k = starts_begin S m k

  -- and it is a lead
  outer_lead : (along : Bool) (k : ℕ) → outer N m along k ≡ true → (l : Lead D) × Holds N k l
  outer_lead true k e = lead_at N k (and_parts (is_lead N k) (eqb ((arc_table N m).end k) (highest_node N)) (ends_end S m k ∙ e)).0
  outer_lead false k e = lead_at N k (and_parts (is_lead N k) (eqb ((arc_table N m).begin k) 0) (starts_begin S m k ∙ e)).0

  -- so the node beyond it, x, is reached
  pub outer_reached : (along : Bool) (k x : ℕ) → outer N m along k ≡ true → x ≡ cond along (head_node N k) (tail_at N k) → Reached N along x
  outer_reached true k x e i = let l = outer_lead true k e in has_in N k l.0 x l.1 (sym (head_of N k l.0 l.1) ∙ sym i)
  outer_reached false k x e i = let l = outer_lead false k e in has_out N k l.0 x l.1 (sym (tail_of N k l.0 l.1) ∙ sym i)

pub outer_told : {D : Type 0} {K : Kind D} {N : Net D} (l : Links) → Shows K N l → (along : Bool) (k : ℕ) {told : Bool} →
    told ≡ outer_arc (shown l.arcs) along k → outer N (types_in l) along k ≡ told
outer_told l H along k e = sym (e ∙ ap (λ (T : Table). outer_arc T along k) H.arcs ∙ outer_is H.sound (types_in l) along k)

-- beyond it, where it is outer, a walk goes on, with few nodes that way
pub outer_on : {D : Type 0} {K : Kind D} {N : Net D} (l : Links) → Shows K N l → (along : Bool) (k : ℕ) → true ≡ outer_arc (shown l.arcs) along k →
    {x : ℕ} → x ≡ cond along (head_node N k) (tail_at N k) → Reached N along x × (nodes_on N along x ≤ 4096)
outer_on l H along k e {x} i =
    let r = outer_reached H.sound (types_in l) along k x (outer_told l H along k e) i in (r, few_on H.sound along x r)
