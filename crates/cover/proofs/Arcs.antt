-- The table of arcs of a wiring: it is sound and joined, and its loads are the wiring's.
use Rattle.std.proofs.Common.{◌≡◌, ℕ, ◌<◌, ◌≤◌, Bool, true, false, cond, not, ◌&&◌, ◌||◌, eqb, ◌⊎◌, sym, refl, ap, ◌∙◌, subst, inl, inr, ⊎_elim, arith}
use Rattle.std.proofs.Math.Bool.{and-true}
use Rattle.std.proofs.lemmas.Bool.{cases_Bool, cases_eq, both_ways, and_from, eq-eqb, ne_eqb}
use Rattle.delay.specs.Kind.{Kind, Laws}
use Rattle.wiring.specs.declared.Lead.{Lead}
use Rattle.wiring.specs.Net.{Net, Holds, Sound, stands, tail_is, head_is, is_lead, has_lead_in, has_lead_out, is_inner}
use Rattle.wiring.specs.Lengths.{Marks, Types}
use Rattle.wiring.specs.Loads.{starts, ends, is_start_lead, is_end_lead, sum_where, Balanced, Loads, Best, total_load, drain_out, fed_in}
use Rattle.wiring.proofs.Ends.{lead_or_none, has_in, has_out, lead_in, lead_out, inner_parts}
use Rattle.wiring.proofs.Types.{lead_at}
use Rattle.wiring.proofs.Lengths.{local_to, sums_fed}
use Rattle.wiring.proofs.FromLengths.{local_from, sums_drains}
use Rattle.wiring.proofs.Cover.{Tables}
use Rattle.flow.specs.Table as flow
use Rattle.flow.specs.Loads as load
use Rattle.flow.proofs.Sums.{where_same}
use Rattle.flow.proofs.Cuts.{none_at}
use Rattle.cover.specs.Arcs.{highest_node, begin_at, end_at, arc_table}

-- where one end of an arc lies. It lies at the pole, the source or the sink, where the lead lacks the mark at this end or its
-- node has no lead on the other side; and else at the node itself
abbrev pub Lies : Bool → ℕ → ℕ → ℕ → Bool → Bool → Type 0
Lies outer place pole node mark other =
    ((outer ≡ true) × (place ≡ pole) × ((mark ≡ false) ⊎ (other ≡ false))) ⊎ ((outer ≡ false) × (place ≡ node) × (mark ≡ true) × (other ≡ true))

lies : (mark own other : Bool) (pole node : ℕ) → own ≡ true →
    Lies (not mark || (own && not other)) (cond (not mark || (own && not other)) pole node) pole node mark other
lies true true true pole node e = inr (refl, refl, refl, refl)
lies true true false pole node e = inl (refl, refl, inr refl)
lies true false other pole node e = absurd (both_ways false refl e)
lies false own other pole node e = inl (refl, refl, inl refl)

-- an end that lies at no pole, and one that has both the mark and a lead on the other side
pub lies_off : {outer : Bool} {place pole node : ℕ} {mark other : Bool} (v : ℕ) → Lies outer place pole node mark other → (v ≡ pole → ⊥) → place ≡ v →
    (outer ≡ false) × (node ≡ v) × (mark ≡ true) × (other ≡ true)
lies_off v (inl p) n e = absurd (n (sym e ∙ p.1))
lies_off v (inr p) n e = (p.0, sym p.1 ∙ e, p.2, p.3)

pub lies_on : {outer : Bool} {place pole node : ℕ} {mark other : Bool} → Lies outer place pole node mark other → mark ≡ true → other ≡ true →
    (outer ≡ false) × (place ≡ node)
lies_on {mark = mark} {other = other} (inl p) m o = absurd (⊎_elim (λ x. both_ways mark x m) (λ x. both_ways other x o) p.2)
lies_on (inr p) m o = (p.0, p.1)

-- at a node that is no pole, and has leads on the other side, the end lies just where the lead has its own end with the mark
lies_tells : {outer : Bool} {place pole node : ℕ} {mark other : Bool} (v : ℕ) → Lies outer place pole node mark other → (v ≡ pole → ⊥) →
    (node ≡ v → other ≡ true) → eqb place v ≡ (eqb node v && mark)
lies_tells {place = place} {node = node} {mark = mark} {other = other} v (inl p) n o =
    ne_eqb place v (λ e. n (sym e ∙ p.1)) ∙ sym (⊎_elim
    (λ e. ap (λ b. b && mark) (eq-eqb node v e) ∙ ⊎_elim (λ x. x) (λ x. absurd (both_ways other x (o e))) p.2)
    (λ e. ap (λ b. b && mark) (ne_eqb node v e))
    (cases_eq node v))
lies_tells {place = place} {node = node} {mark = mark} v (inr p) n o =
    ap (λ x. eqb x v) p.1 ∙ sym (ap (λ b. eqb node v && b) p.2 ∙ and-true (eqb node v))

-- where no node with leads on the other side is the pole, the end lies there just where it is outer
lies_outer : {outer : Bool} {place pole node : ℕ} {mark other : Bool} → Lies outer place pole node mark other → (other ≡ true → node ≡ pole → ⊥) →
    eqb place pole ≡ outer
lies_outer {place = place} {pole = pole} (inl p) n = eq-eqb place pole p.1 ∙ sym p.0
lies_outer {place = place} {pole = pole} (inr p) n = ne_eqb place pole (λ e. n p.3 (sym p.1 ∙ e)) ∙ sym p.0

module _ {D : Type 0} (N : Net D) (m : Marks) where
  -- where the arc of the lead k begins, and where it ends
  pub begin_lies : (k : ℕ) (l : Lead D) → Holds N k l →
      Lies (is_start_lead N m k) ((arc_table N m).begin k) 0 l.tail (m k).0 (has_lead_in N l.tail)
  begin_lies k l h = subst (λ o. Lies (starts N (m k) o) (begin_at N (m k) o) 0 l.tail (m k).0 (has_lead_in N l.tail)) (sym h)
      (lies (m k).0 (has_lead_out N l.tail) (has_lead_in N l.tail) 0 l.tail (has_out N k l l.tail h refl))

  pub end_lies : (k : ℕ) (l : Lead D) → Holds N k l →
      Lies (is_end_lead N m k) ((arc_table N m).end k) (highest_node N) l.head (m k).1 (has_lead_out N l.head)
  end_lies k l h = subst (λ o. Lies (ends N (m k) o) (end_at N (m k) o) (highest_node N) l.head (m k).1 (has_lead_out N l.head)) (sym h)
      (lies (m k).1 (has_lead_in N l.head) (has_lead_out N l.head) (highest_node N) l.head (has_in N k l l.head h refl))

module _ {D : Type 0} {K : Kind D} {N : Net D} (S : Sound K N) (m : Marks) where
  -- an arc reaches at least as far as its lead, and not past the poles
  around : (k : ℕ) (l : Lead D) → Holds N k l → let T = arc_table N m in
      (T.begin k ≤ l.tail) × (l.tail < l.head) × (l.head ≤ T.end k) × (T.end k ≤ highest_node N) × (highest_node N < N.nodes)
  around k l h =
      let up = S.upwards k l h in let in' = S.inside k l h in
      let b : (arc_table N m).begin k ≤ l.tail = ⊎_elim (λ p. omega (arith, p.1)) (λ p. omega (arith, p.1)) (begin_lies N m k l h) in
      let e : (l.head ≤ (arc_table N m).end k) × ((arc_table N m).end k ≤ highest_node N) =
      ⊎_elim (λ p. (omega (arith, p.1), omega (arith, p.1))) (λ p. (omega (arith, p.1), omega (arith, p.1))) (end_lies N m k l h) in
      (b, up, e.0, e.1, omega arith)

  pub arcs_sound : flow.Sound (arc_table N m)
  arcs_sound = record {
    up = λ k a. let l = lead_at N k a in let b = around k l.0 l.1 in omega arith;
    within = λ k a. let l = lead_at N k a in let b = around k l.0 l.1 in omega arith;
    past = λ k p. ap stands (N.vacant k p);
    apart = λ e. omega arith;
    from_source = λ k a e. let l = lead_at N k a in let b = around k l.0 l.1 in omega arith;
    to_sink = λ k a e. let l = lead_at N k a in let b = around k l.0 l.1 in omega arith;
  }

  -- inner nodes are neither source nor sink
  inner_not_source : (v : ℕ) → is_inner N v ≡ true → v ≡ 0 → ⊥
  inner_not_source v i e = let l = lead_in N v (inner_parts N v i).0 in omega (arith, l.ends, S.upwards l.place l.lead l.holds)

  inner_not_sink : (v : ℕ) → is_inner N v ≡ true → v ≡ highest_node N → ⊥
  inner_not_sink v i e = let l = lead_out N v (inner_parts N v i).1 in
      omega (arith, l.begins, S.upwards l.place l.lead l.holds, S.inside l.place l.lead l.holds)

  -- at an inner node what ends are the fed leads in, and what begins are the draining leads out
  pub ends_fed : (v : ℕ) → is_inner N v ≡ true → (k : ℕ) → flow.ends (arc_table N m) v k ≡ fed_in N m v k
  ends_fed v i k = ⊎_elim
      (λ l. ap (λ b. b && eqb (end_at N (m k) (N.at k)) v) (ap stands l.1)
      ∙ lies_tells v (end_lies N m k l.0 l.1) (inner_not_sink v i) (λ e. subst (λ x. has_lead_out N x ≡ true) (sym e) (inner_parts N v i).1)
      ∙ ap (λ o. head_is v o && (m k).1) (sym l.1))
      (λ n. ap (λ o. stands o && eqb (end_at N (m k) o) v) n ∙ ap (λ o. head_is v o && (m k).1) (sym n))
      (lead_or_none N k)

  pub begins_draining : (v : ℕ) → is_inner N v ≡ true → (k : ℕ) → flow.begins (arc_table N m) v k ≡ drain_out N m v k
  begins_draining v i k = ⊎_elim
      (λ l. ap (λ b. b && eqb (begin_at N (m k) (N.at k)) v) (ap stands l.1)
      ∙ lies_tells v (begin_lies N m k l.0 l.1) (inner_not_source v i) (λ e. subst (λ x. has_lead_in N x ≡ true) (sym e) (inner_parts N v i).0)
      ∙ ap (λ o. tail_is v o && (m k).0) (sym l.1))
      (λ n. ap (λ o. stands o && eqb (begin_at N (m k) o) v) n ∙ ap (λ o. tail_is v o && (m k).0) (sym n))
      (lead_or_none N k)

  into_is : (f : ℕ → ℕ) (v : ℕ) → is_inner N v ≡ true → load.into (arc_table N m) f v ≡ sum_where N.places (fed_in N m v) f
  into_is f v i = where_same N.places (flow.ends (arc_table N m) v) (fed_in N m v) f (λ k _. ends_fed v i k)

  out_of_is : (f : ℕ → ℕ) (v : ℕ) → is_inner N v ≡ true → load.out_of (arc_table N m) f v ≡ sum_where N.places (drain_out N m v) f
  out_of_is f v i = where_same N.places (flow.begins (arc_table N m) v) (drain_out N m v) f (λ k _. begins_draining v i k)

  -- at any other node that is no pole, no arc ends and none begins
  pub none_ends : (v : ℕ) → is_inner N v ≡ false → (v ≡ highest_node N → ⊥) → (k : ℕ) → is_lead N k ≡ true → (arc_table N m).end k ≡ v → ⊥
  none_ends v i n k a e = let l = lead_at N k a in let p = lies_off v (end_lies N m k l.0 l.1) n e in
      both_ways (is_inner N v) i (and_from (has_lead_in N v) (has_lead_out N v) (has_in N k l.0 v l.1 p.1) (subst (λ x. has_lead_out N x ≡ true) p.1 p.3))

  pub none_begins : (v : ℕ) → is_inner N v ≡ false → (v ≡ 0 → ⊥) → (k : ℕ) → is_lead N k ≡ true → (arc_table N m).begin k ≡ v → ⊥
  none_begins v i n k a e = let l = lead_at N k a in let p = lies_off v (begin_lies N m k l.0 l.1) n e in
      both_ways (is_inner N v) i (and_from (has_lead_in N v) (has_lead_out N v) (subst (λ x. has_lead_in N x ≡ true) p.1 p.3) (has_out N k l.0 v l.1 p.1))

  -- so the wiring and its arcs are balanced together
  pub balanced_arcs : (f : ℕ → ℕ) → Balanced N m f → load.Balanced (arc_table N m) f
  balanced_arcs f B v n o = ⊎_elim
      (λ i. into_is f v i ∙ B v i ∙ sym (out_of_is f v i))
      (λ i. none_at (arc_table N m) (arc_table N m).end v f (none_ends v i o) ∙ sym (none_at (arc_table N m) (arc_table N m).begin v f (none_begins v i n)))
      (cases_Bool (is_inner N v))

  pub arcs_balanced : (f : ℕ → ℕ) → load.Balanced (arc_table N m) f → Balanced N m f
  arcs_balanced f B v i = sym (into_is f v i) ∙ B v (inner_not_source v i) (inner_not_sink v i) ∙ out_of_is f v i

  -- the start leads are the arcs that begin at the source, and the end leads those that end at the sink
  pub starts_begin : (k : ℕ) → flow.begins (arc_table N m) 0 k ≡ is_start_lead N m k
  starts_begin k = ⊎_elim
      (λ l. ap (λ b. b && eqb (begin_at N (m k) (N.at k)) 0) (ap stands l.1)
      ∙ lies_outer (begin_lies N m k l.0 l.1) (λ o e. let i = lead_in N l.0.tail o in omega (arith, i.ends, S.upwards i.place i.lead i.holds)))
      (λ n. ap (λ o. stands o && eqb (begin_at N (m k) o) 0) n ∙ ap (starts N (m k)) (sym n))
      (lead_or_none N k)

  pub ends_end : (k : ℕ) → flow.ends (arc_table N m) (highest_node N) k ≡ is_end_lead N m k
  ends_end k = ⊎_elim
      (λ l. ap (λ b. b && eqb (end_at N (m k) (N.at k)) (highest_node N)) (ap stands l.1)
      ∙ lies_outer (end_lies N m k l.0 l.1) (λ o e. let i = lead_out N l.0.head o in
      omega (arith, i.begins, S.upwards i.place i.lead i.holds, S.inside i.place i.lead i.holds)))
      (λ n. ap (λ o. stands o && eqb (end_at N (m k) o) (highest_node N)) n ∙ ap (ends N (m k)) (sym n))
      (lead_or_none N k)

  pub same_total : (f : ℕ → ℕ) → load.total (arc_table N m) f ≡ total_load N m f
  same_total f = where_same N.places (flow.begins (arc_table N m) 0) (is_start_lead N m) f (λ k _. starts_begin k)

  -- loads of the wiring are the loads of its arcs, and the best loads are the best loads
  pub loads_to_arcs : (f : ℕ → ℕ) → Loads N m f → load.Loads (arc_table N m) f
  loads_to_arcs f B = record { arcs = B.leads; vacant = B.vacant; balanced = balanced_arcs f B.balanced }

  pub arcs_to_loads : (f : ℕ → ℕ) → load.Loads (arc_table N m) f → Loads N m f
  arcs_to_loads f B = record { leads = B.arcs; vacant = B.vacant; balanced = arcs_balanced f B.balanced }

  pub best_to_arcs : (f : ℕ → ℕ) → Best N m f → load.Best (arc_table N m) f
  best_to_arcs f B = record {
    loads = loads_to_arcs f B.loads;
    least = λ g M. omega (arith, same_total f, same_total g, B.least g (arcs_to_loads g M));
    first = λ g M e b. B.first g (arcs_to_loads g M) (sym (same_total g) ∙ e ∙ same_total f) b;
  }

  pub arcs_to_best : (f : ℕ → ℕ) → load.Best (arc_table N m) f → Best N m f
  arcs_to_best f B = record {
    loads = arcs_to_loads f B.loads;
    least = λ g M. omega (arith, same_total f, same_total g, B.least g (loads_to_arcs g M));
    first = λ g M e b. B.first g (loads_to_arcs g M) (same_total g ∙ e ∙ sym (same_total f)) b;
  }

  -- where a lead that is no end lead ends, the next one begins, unless it is a start lead
  pub arcs_link : (k j : ℕ) (l i : Lead D) → Holds N k l → Holds N j i → l.head ≡ i.tail → is_end_lead N m k ≡ false → is_start_lead N m j ≡ false →
      (arc_table N m).end k ≡ (arc_table N m).begin j
  arcs_link k j l i h g e no_end no_start = ⊎_elim
      (λ c. absurd (both_ways (is_end_lead N m k) no_end c.0))
      (λ c. ⊎_elim (λ d. absurd (both_ways (is_start_lead N m j) no_start d.0)) (λ d. c.1 ∙ e ∙ sym d.1) (begin_lies N m j i g))
      (end_lies N m k l h)

-- where an arc ends, other than at the sink, a draining lead begins; where it begins, other than at the source, a fed lead ends
pub arcs_joined : {D : Type 0} {K : Kind D} (L : Laws K) {N : Net D} (S : Sound K N) {to from : ℕ → D} (W : Tables K N to from)
    {m : Marks} (Y : Types K N m) → flow.Joined (arc_table N m)
arcs_joined L {N} S {to} {from} W {m} Y = record {
  ahead = λ k a n.
      let l = lead_at N k a in
      let c = lies_off ((arc_table N m).end k) (end_lies N m k l.0 l.1) n refl in
      let d = (local_from L S from W.from_is).met l.0.head c.3 in
      let j = d.place in
      let drains = (Y.drains j (ap stands d.holds)).1 (sums_drains L S from W.from_is j d.lead d.holds (d.sums ∙ ap from (sym d.begins))) in
      let b = lies_on (begin_lies N m j d.lead d.holds) drains (has_in N k l.0 d.lead.tail l.1 (sym d.begins)) in
      (j, ap stands d.holds, b.1 ∙ d.begins ∙ c.1);
  behind = λ k a n.
      let l = lead_at N k a in
      let c = lies_off ((arc_table N m).begin k) (begin_lies N m k l.0 l.1) n refl in
      let d = (local_to L S to W.to_is).met l.0.tail c.3 in
      let j = d.place in
      let fed = (Y.fed j (ap stands d.holds)).1 (sums_fed L S to W.to_is j d.lead d.holds (d.sums ∙ ap to (sym d.ends))) in
      let b = lies_on (end_lies N m j d.lead d.holds) fed (has_out N k l.0 d.lead.head l.1 (sym d.ends)) in
      (j, ap stands d.holds, b.1 ∙ d.ends ∙ c.1);
}
