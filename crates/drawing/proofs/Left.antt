-- What is left of the loads while paths are drawn. A core is a chain of arcs from source to sink: so while something is left a core
-- can go on, and lowered by a core what is left stays balanced, with one less in all.
use Rattle.std.proofs.Common.{◌≡◌, ℕ, ◌+◌, ◌≤◌, true, false, ltb, List, [], ◌∷◌, sym, refl, ap, ◌∙◌, subst, inl, inr, ⊎_elim, arith}
use Rattle.std.proofs.lemmas.Bool.{cases_Bool, cases_eq, cases_lt, both_ways, and_from, lt-ltb}
use Rattle.delay.specs.Kind.{Kind}
use Rattle.wiring.specs.declared.Lead.{Lead}
use Rattle.wiring.specs.Net.{Net, Holds, Sound, stands, is_lead}
use Rattle.wiring.specs.Paths.{On}
use Rattle.wiring.specs.Lengths.{Marks}
use Rattle.wiring.specs.Loads.{is_start_lead, is_end_lead, drain_out, Balanced, Loads, total_load}
use Rattle.wiring.specs.Lists.{Lowest, count_on, lowered, head_node, begins, goes, Drawn, Walk, onwards}
use Rattle.wiring.proofs.Ends.{has_in, lead_out}
use Rattle.wiring.proofs.Types.{lead_at}
use Rattle.flow.specs.Chains.{Chain}
use Rattle.flow.proofs.Sums.{unit_off, where_some}
use Rattle.flow.proofs.Cuts.{at_most_total}
use Rattle.flow.proofs.Chains.{chain_once, lowered_balanced, goes_on}
use Rattle.flow.proofs.Exist.{lowest}
use Rattle.cover.specs.Arcs.{highest_node, arc_table}
use Rattle.cover.proofs.Arcs.{begin_lies, end_lies, lies_on, lies_off, arcs_sound, balanced_arcs, arcs_balanced, same_total}
use Rattle.drawing.proofs.Parts.{Out, First, goes_parts, out_from, first_parts, head_of}

-- left can be what is left of loads: nothing at vacant places, and balanced
pub record Left {D : Type 0} (N : Net D) (m : Marks) (left : ℕ → ℕ) : Type 0 where
  pub vacant : (k : ℕ) → is_lead N k ≡ false → left k ≡ 0
  pub balanced : Balanced N m left

pub all_left : {D : Type 0} {N : Net D} {m : Marks} {f : ℕ → ℕ} → Loads N m f → Left N m f
all_left F = record { vacant = F.vacant; balanced = F.balanced }

-- what is counted stands on the list
pub count_on_list : (k : ℕ) (c : List ℕ) → 1 ≤ count_on k c → On k c
count_on_list k [] h = absurd (omega arith)
count_on_list k (j ∷ js) h = ⊎_elim
    (λ e. inl e)
    (λ n. let z = unit_off k j n in inr (count_on_list k js (omega arith)))
    (cases_eq k j)

-- of a core: the next lead begins where the one before ended, as an arc
pub next_link : {D : Type 0} (N : Net D) (m : Marks) (k : ℕ) (l : Lead D) → Holds N k l → is_end_lead N m k ≡ false → (j : ℕ) → Out N m (head_node N k) j →
    (is_start_lead N m j ≡ false) × ((arc_table N m).end k ≡ (arc_table N m).begin j)
next_link N m k l h e j o =
    let t : l.head ≡ o.lead.tail = sym (head_of N k l h) ∙ sym o.begins in
    let b = lies_on (begin_lies N m j o.lead o.holds) o.drains (has_in N k l o.lead.tail h t) in
    (b.0, ⊎_elim (λ c. absurd (both_ways (is_end_lead N m k) e c.0)) (λ c. c.1 ∙ t ∙ sym b.1) (end_lies N m k l h))

module _ {D : Type 0} {K : Kind D} {N : Net D} (S : Sound K N) (m : Marks) (left : ℕ → ℕ) where
  onward_chain : (k : ℕ) (l : Lead D) → Holds N k l → (js : List ℕ) (stop : ℕ) → Walk (onwards N m left) k js stop →
      Chain (arc_table N m) ((arc_table N m).begin k) (k ∷ js) (highest_node N)
  onward_chain k l h [] stop w =
      (ap stands h, refl, ⊎_elim (λ c. c.1) (λ c. absurd (both_ways (is_end_lead N m k) c.0 w.0)) (end_lies N m k l h))
  onward_chain k l h (j ∷ js) stop w =
      let o = (goes_parts N m left (head_node N k) j w.1).0 in (
        ap stands h,
        refl,
        subst (λ (u : ℕ). Chain (arc_table N m) u (j ∷ js) (highest_node N)) (sym (next_link N m k l h w.0 j o).1)
            (onward_chain j o.lead o.holds js stop w.2),
      )

  -- a core is a chain from the source to the sink
  core_chain : {k : ℕ} → First N m left k → (js : List ℕ) (stop : ℕ) → Walk (onwards N m left) k js stop → Chain (arc_table N m) 0 (k ∷ js) (highest_node N)
  core_chain {k} F js stop w =
      subst (λ (u : ℕ). Chain (arc_table N m) u (k ∷ js) (highest_node N))
      (⊎_elim (λ c. c.1) (λ c. absurd (both_ways (is_start_lead N m k) c.0 F.starts)) (begin_lies N m k F.lead F.holds))
      (onward_chain k F.lead F.holds js stop w)

  -- each lead of a core is a lead with something left
  pub core_leads : (k : ℕ) (l : Lead D) → Holds N k l → 1 ≤ left k → (js : List ℕ) (stop : ℕ) → Walk (onwards N m left) k js stop → (i : ℕ) → On i (k ∷ js) →
      (is_lead N i ≡ true) × (1 ≤ left i)
  core_leads k l h some js stop w i (inl e) = (ap (is_lead N) e ∙ ap stands h, omega (arith, ap left e))
  core_leads k l h some [] stop w i (inr o) = elim o [ ]
  core_leads k l h some (j ∷ js) stop w i (inr o) =
      let g = goes_parts N m left (head_node N k) j w.1 in
      core_leads j g.0.lead g.0.holds g.1 js stop w.2 i o

  pub core_fits : {k : ℕ} → First N m left k → (js : List ℕ) (stop : ℕ) → Walk (onwards N m left) k js stop → (i : ℕ) → count_on i (k ∷ js) ≤ left i
  core_fits {k} F js stop w i = ⊎_elim
      (λ c. omega arith)
      (λ c. omega (
        arith,
        chain_once (arc_table N m) (arcs_sound S m) 0 (highest_node N) (k ∷ js) (core_chain F js stop w) i,
        (core_leads k F.lead F.holds F.some js stop w i (count_on_list i (k ∷ js) c)).1,
      ))
      (cases_lt (count_on i (k ∷ js)) 1)

  module _ (B : Left N m left) where
    -- what is left after a core is balanced, and has one unit less in start leads
    pub core_lowers : {k : ℕ} → First N m left k → (js : List ℕ) (stop : ℕ) → Walk (onwards N m left) k js stop →
        Left N m (lowered left (k ∷ js)) × (total_load N m left ≡ total_load N m (lowered left (k ∷ js)) + 1)
    core_lowers {k} F js stop w =
        let r = lowered_balanced (arc_table N m) (arcs_sound S m) (k ∷ js) (core_chain F js stop w) left (balanced_arcs S m left B.balanced)
        (core_fits F js stop w) in (
          record { vacant = λ i e. omega (arith, B.vacant i e); balanced = arcs_balanced S m (lowered left (k ∷ js)) r.0 },
          omega (arith, same_total S m left, same_total S m (lowered left (k ∷ js)), r.1),
        )

    -- after a lead with something left that is no end lead comes a draining lead with something left
    pub next_lead_lem : (k : ℕ) (l : Lead D) → Holds N k l → 1 ≤ left k → is_end_lead N m k ≡ false → (j : ℕ) × Lowest (goes N m left (head_node N k)) j
    next_lead_lem k l h some e = ⊎_elim
        (λ c. absurd (both_ways (is_end_lead N m k) e c.0))
        (λ c.
        let v = l.head in
        let x = lead_out N v c.3 in
        let up = S.upwards k l h in
        let g = goes_on (arc_table N m) (arcs_sound S m) left (balanced_arcs S m left B.balanced) k (ap stands h) some
        (λ z. omega (arith, c.1, x.begins, S.upwards x.place x.lead x.holds, S.inside x.place x.lead x.holds)) in
        let i = lead_at N g.0 g.1 in
        let b = lies_off v (begin_lies N m g.0 i.0 i.1) (λ z. omega arith) (g.2 ∙ c.1) in
        let t = out_from N m v g.0 (record { lead = i.0; holds = i.1; begins = b.1; drains = b.2 }) in
        let r = lowest (goes N m left v) g.0 (and_from (drain_out N m v g.0) (ltb 0 (left g.0)) t (lt-ltb 0 (left g.0) g.3)) in
        (r.0, subst (λ (w : ℕ). Lowest (goes N m left w) r.0) (sym (head_of N k l h)) r.1))
        (end_lies N m k l h)

    -- if nothing is left in start leads, nothing is left
    pub nothing_left : total_load N m left ≡ 0 → (k : ℕ) → left k ≡ 0
    nothing_left z k = ⊎_elim
        (λ e. omega (arith, same_total S m left, at_most_total (arc_table N m) (arcs_sound S m) left (balanced_arcs S m left B.balanced) k e))
        (λ e. B.vacant k e)
        (cases_Bool (is_lead N k))

  -- while something is left in start leads, one is the lowest
  pub first_start : 1 ≤ total_load N m left → (k : ℕ) × Lowest (begins N m left) k
  first_start h =
      let s = where_some N.places (is_start_lead N m) left h in
      let r = lowest (begins N m left) s.0 (and_from (is_start_lead N m s.0) (ltb 0 (left s.0)) s.2 (lt-ltb 0 (left s.0) s.3)) in
      (r.0, r.1)

-- the same of a drawn path
pub drawn_lowers : {D : Type 0} {K : Kind D} {N : Net D} → Sound K N → (m : Marks) (left : ℕ → ℕ) (core p : List ℕ) → Left N m left → Drawn N m left core p →
    Left N m (lowered left core) × (total_load N m left ≡ total_load N m (lowered left core) + 1)
drawn_lowers {N = N} S m left core p B R =
    subst (λ (c : List ℕ). Left N m (lowered left c) × (total_load N m left ≡ total_load N m (lowered left c) + 1)) (sym R.core_is)
    (core_lowers S m left B (first_parts N m left R.start R.lowest) R.rest R.stop R.onward)
