-- From loads the drawing is never stuck and ends, with as many paths as the total, and covers every lead.
use Rattle.std.proofs.Common.{◌≡◌, ℕ, zero, suc, ◌-◌, ◌<◌, ◌≤◌, true, false, List, [], ◌∷◌, ◌++◌, reverse, length, sym, refl, ap, ◌∙◌, subst, inl, inr, ⊎_elim, arith}
use Rattle.std.proofs.lemmas.Bool.{cases_lt, not-false}
use Rattle.delay.specs.Kind.{Kind, Laws}
use Rattle.wiring.specs.declared.Lead.{Lead}
use Rattle.wiring.specs.Net.{Net, Holds, Sound, stands, has_lead_in, has_lead_out, is_input, is_output}
use Rattle.wiring.specs.Paths.{PathOf, Covers}
use Rattle.wiring.specs.Lengths.{Marks, Types}
use Rattle.wiring.specs.Loads.{fed_in, drain_out, total_load}
use Rattle.wiring.specs.Lists.{Lowest, count_on, lowered, tail_at, head_node, Drawn, Draws, OneOf, AllPaths, Walk, onwards, backwards, forwards}
use Rattle.wiring.proofs.Ends.{has_in, has_out, in_inside}
use Rattle.wiring.proofs.Lengths.{local_to, sums_fed}
use Rattle.wiring.proofs.FromLengths.{local_from, sums_drains}
use Rattle.wiring.proofs.Cover.{Tables}
use Rattle.flow.proofs.Exist.{lowest}
use Rattle.drawing.proofs.Walks.{walk_exists}
use Rattle.drawing.proofs.Parts.{out_parts, in_parts, out_from, in_from, goes_parts, first_parts, tail_of, head_of}
use Rattle.drawing.proofs.Left.{Left, count_on_list, next_lead_lem, nothing_left, first_start, drawn_lowers}
use Rattle.drawing.proofs.Paths.{drawn_covers, drawn_path}

module _ {D : Type 0} {K : Kind D} (L : Laws K) {N : Net D} (S : Sound K N) {to from : ℕ → D} (T : Tables K N to from) {m : Marks} (Y : Types K N m) where
  -- into a node with leads out that is no input there is a lowest fed lead; it comes from a lower node with leads out
  behind_step : (v : ℕ) → has_lead_out N v ≡ true → is_input N v ≡ false → (j : ℕ) × Lowest (fed_in N m v) j × (has_lead_out N (tail_at N j) ≡ true) × (tail_at N j < v)
  behind_step v o e =
      let i : has_lead_in N v ≡ true = not-false (has_lead_in N v) (rw o at e) in
      let d = (local_to L S to T.to_is).met v i in
      let f = (Y.fed d.place (ap stands d.holds)).1 (sums_fed L S to T.to_is d.place d.lead d.holds (d.sums ∙ ap to (sym d.ends))) in
      let w = lowest (fed_in N m v) d.place (in_from N m v d.place (record { lead = d.lead; holds = d.holds; ends = d.ends; fed = f })) in
      let j = w.0 in
      let p = in_parts N m v j w.1.holds in let t = tail_of N j p.lead p.holds in
      (j, w.1, has_out N j p.lead (tail_at N j) p.holds (sym t), omega (arith, S.upwards j p.lead p.holds, p.ends))

  -- out of a node with leads in that is no output there is a lowest draining lead; it goes to a higher node with leads in
  ahead_step : (v : ℕ) → has_lead_in N v ≡ true → is_output N v ≡ false →
      (j : ℕ) × Lowest (drain_out N m v) j × (has_lead_in N (head_node N j) ≡ true) × (N.nodes - head_node N j < N.nodes - v)
  ahead_step v i e =
      let o : has_lead_out N v ≡ true = not-false (has_lead_out N v) (rw i at e) in
      let d = (local_from L S from T.from_is).met v o in
      let f = (Y.drains d.place (ap stands d.holds)).1
      (sums_drains L S from T.from_is d.place d.lead d.holds (d.sums ∙ ap from (sym d.begins))) in
      let w = lowest (drain_out N m v) d.place (out_from N m v d.place (record { lead = d.lead; holds = d.holds; begins = d.begins; drains = f })) in
      let j = w.0 in
      let p = out_parts N m v j w.1.holds in let t = head_of N j p.lead p.holds in (
        j,
        w.1,
        has_in N j p.lead (head_node N j) p.holds (sym t),
        omega (arith, S.upwards j p.lead p.holds, p.begins, in_inside S v i),
      )

  -- so from every such node one comes back to an input, and on to an output
  pub behind_exists : (v : ℕ) → has_lead_out N v ≡ true → (js : List ℕ) × (u : ℕ) × Walk (backwards N m) v js u
  behind_exists v o = let r = walk_exists (backwards N m) (λ u. has_lead_out N u ≡ true) (λ u. u) behind_step v o in (r.0, r.1, r.2)

  pub ahead_exists : (v : ℕ) → has_lead_in N v ≡ true → (js : List ℕ) × (w : ℕ) × Walk (forwards N m) v js w
  ahead_exists v i = let r = walk_exists (forwards N m) (λ u. has_lead_in N u ≡ true) (λ u. N.nodes - u) ahead_step v i in (r.0, r.1, r.2)

  module _ (left : ℕ → ℕ) (B : Left N m left) where
    -- k is a lead with something left
    record Goes (k : ℕ) : Type 0 where
      lead : Lead D
      holds : Holds N k lead
      some : 1 ≤ left k

    onward_exists : (k : ℕ) → Goes k → (js : List ℕ) × (stop : ℕ) × Walk (onwards N m left) k js stop × Goes stop
    onward_exists = walk_exists (onwards N m left) Goes (λ k. N.nodes - head_node N k) (λ k G e.
        let q = next_lead_lem S m left B k G.lead G.holds G.some e in
        let g = goes_parts N m left (head_node N k) q.0 q.1 in let o = g.0 in (
          q.0,
          q.1,
          record { lead = o.lead; holds = o.holds; some = g.1 },
          omega (arith, S.upwards q.0 o.lead o.holds, S.inside q.0 o.lead o.holds, o.begins, head_of N q.0 o.lead o.holds),
        ))

    -- while something is left in start leads a path can be drawn
    draw_one : 1 ≤ total_load N m left → (core p : List ℕ) × Drawn N m left core p
    draw_one some =
        let f = first_start S m left some in
        let k = f.0 in
        let F = first_parts N m left k f.1 in
        let w = onward_exists k (record { lead = F.lead; holds = F.holds; some = F.some }) in
        let stop = w.1 in
        let r = behind_exists (tail_at N k) (has_out N k F.lead (tail_at N k) F.holds (sym (tail_of N k F.lead F.holds))) in
        let a = ahead_exists (head_node N stop) (has_in N stop w.3.lead (head_node N stop) w.3.holds (sym (head_of N stop w.3.lead w.3.holds))) in (
          k ∷ w.0,
          reverse r.0 ++ ((k ∷ w.0) ++ a.0),
          record {
            start = k;
            rest = w.0;
            stop = stop;
            behind = r.0;
            input = r.1;
            ahead = a.0;
            output = a.1;
            lowest = f.1;
            onward = w.2;
            back = r.2;
            fore = a.2;
            core_is = refl;
            path_is = refl;
          },
        )

  draw_all : (n : ℕ) (left : ℕ → ℕ) → Left N m left → total_load N m left ≡ n → (ps : List (List ℕ)) × Draws N m left ps
  draw_all zero left B e = ([], nothing_left S m left B e)
  draw_all (suc n) left B e =
      let d = draw_one left B (omega arith) in
      let b = drawn_lowers S m left d.0 d.1 B d.2 in
      let r = draw_all n (lowered left d.0) b.0 (omega (arith, b.1)) in
      (d.1 ∷ r.0, (d.0, d.2, r.1))

  -- the drawing ends
  pub draws_exist : (left : ℕ → ℕ) → Left N m left → (ps : List (List ℕ)) × Draws N m left ps
  draws_exist left B = draw_all (total_load N m left) left B refl

  none_left : (left : ℕ → ℕ) → ((k : ℕ) → left k ≡ 0) → total_load N m left ≡ 0
  none_left left z = ⊎_elim (λ h. omega arith) (λ h. let f = first_start S m left h in
      absurd (omega (arith, (first_parts N m left f.0 f.1).some, z f.0))) (cases_lt (total_load N m left) 1)

  -- as many paths as the total
  pub draws_number : (left : ℕ → ℕ) (ps : List (List ℕ)) → Left N m left → Draws N m left ps → length ps ≡ total_load N m left
  draws_number left [] B d = sym (none_left left d)
  draws_number left (p ∷ ps) B d =
      let b = drawn_lowers S m left d.0 p B d.1 in
      let r = draws_number (lowered left d.0) ps b.0 d.2 in
      omega (arith, b.1)

  -- every lead with something left is in the core of a drawn path, which covers it
  pub draws_cover : (left : ℕ → ℕ) (ps : List (List ℕ)) → Draws N m left ps → (k : ℕ) → 1 ≤ left k → (p : List ℕ) × OneOf ps p × Covers K N p k
  draws_cover left [] d k h = absurd (omega (arith, d k))
  draws_cover left (p ∷ ps) d k h = ⊎_elim
      (λ c. let r = draws_cover (lowered left d.0) ps d.2 k (omega arith) in (r.0, inr r.1, r.2))
      (λ c. (p, inl refl, drawn_covers L S T Y d.1 k (count_on_list k d.0 c)))
      (cases_lt (count_on k d.0) 1)

  pub draws_paths : (left : ℕ → ℕ) (ps : List (List ℕ)) → Draws N m left ps → AllPaths N ps
  draws_paths left [] d p o = elim o [ ]
  draws_paths left (q ∷ ps) d p (inl e) = subst (PathOf N) (sym e) (drawn_path L S T Y d.1)
  draws_paths left (q ∷ ps) d p (inr o) = draws_paths (lowered left d.0) ps d.2 p o
