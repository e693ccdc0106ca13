-- The witness: the leads that enter a tight cut. No path covers two of them.
use Rattle.std.proofs.Common.{◌≡◌, ℕ, suc, Bool, true, false, not, ◌&&◌, List, [], ◌∷◌, ◌++◌, length, get_or, sym, refl, ap, ◌∙◌, subst, ⊎_elim, append_assoc, arith}
use Rattle.std.proofs.lemmas.Bool.{cases_order, both_ways, and_parts, not-true}
use Rattle.delay.specs.Kind.{Kind, Laws}
use Rattle.wiring.specs.Net.{Net, Sound, stands, is_lead}
use Rattle.wiring.specs.Paths.{PathOf, Covers}
use Rattle.wiring.specs.Lengths.{Marks, Types}
use Rattle.wiring.specs.Loads.{is_start_lead, is_end_lead, Loads, total_load}
use Rattle.wiring.specs.Lists.{Witness}
use Rattle.wiring.proofs.Runs.{run_split, run_none}
use Rattle.wiring.proofs.Cover.{Tables, cut_path}
use Rattle.wiring.proofs.Steps.{later_fed, covers_next}
use Rattle.wiring.proofs.Marks.{Precedes, which_first, later_no_start, earlier_no_end}
use Rattle.flow.specs.Table as flow
use Rattle.flow.specs.Loads as load
use Rattle.flow.proofs.Best.{tight_count}
use Rattle.cover.specs.Arcs.{arc_table, listed}
use Rattle.cover.proofs.Arcs.{arcs_sound, arcs_link, same_total, loads_to_arcs}
use Rattle.cover.proofs.Listed.{listed_length, listed_each, listed_up}

module _ {D : Type 0} {K : Kind D} (L : Laws K) {N : Net D} (S : Sound K N) {to from : ℕ → D} (W : Tables K N to from) {m : Marks} (Y : Types K N m) where
  -- along a path each arc begins where the one before ended, but for end leads and start leads
  link : (k j : ℕ) (pre post : List ℕ) → PathOf N (pre ++ (k ∷ (j ∷ post))) → is_end_lead N m k ≡ false → is_start_lead N m j ≡ false →
      (arc_table N m).end k ≡ (arc_table N m).begin j
  link k j pre post P e b =
      let q = (cut_path pre P).through in
      let i = run_split [] q.after in
      arcs_link S m k j q.lead i.lead q.holds i.holds (run_none i.before) e b

  module _ (R : ℕ → Bool) (none_leaves : (k : ℕ) → is_lead N k ≡ true → R ((arc_table N m).begin k) ≡ true → R ((arc_table N m).end k) ≡ true) where
    -- once in R, a path stays there as long as it covers
    stays : {k j : ℕ} (pre mid post : List ℕ) → Covers K N (pre ++ (k ∷ (mid ++ (j ∷ post)))) k → Covers K N (pre ++ (k ∷ (mid ++ (j ∷ post)))) j →
        R ((arc_table N m).end k) ≡ true → R ((arc_table N m).begin j) ≡ true
    stays {k} {j} pre [] post V U r =
        let o : Precedes k j (pre ++ (k ∷ (j ∷ post))) = record { pre = pre; mid = []; post = post; is = refl } in
        subst (λ (x : ℕ). R x ≡ true) (link k j pre post V.path (earlier_no_end L S W Y o U) (later_no_start L S W Y o V)) r
    stays {k} {j} pre (i ∷ mid) post V U r =
        let p : List ℕ = pre ++ (k ∷ (i ∷ (mid ++ (j ∷ post)))) in
        let o : Precedes k j p = record { pre = pre; mid = i ∷ mid; post = post; is = refl } in
        let n : Precedes k i p = record { pre = pre; mid = []; post = mid ++ (j ∷ post); is = refl } in
        let next : Covers K N p i = (covers_next L S W pre (mid ++ (j ∷ post)) V (later_fed L S W pre (i ∷ mid) post U)).0 in
        let here = subst (λ (x : ℕ). R x ≡ true) (link k i pre (mid ++ (j ∷ post)) V.path (earlier_no_end L S W Y o U) (later_no_start L S W Y n V)) r in
        let lead = (run_split [] (cut_path pre V.path).through.after).holds in
        let whole = sym (append_assoc pre (k ∷ []) (i ∷ (mid ++ (j ∷ post)))) in
        stays (pre ++ (k ∷ [])) mid post (subst (λ (x : List ℕ). Covers K N x i) whole next) (subst (λ (x : List ℕ). Covers K N x j) whole U)
        (none_leaves i (ap stands lead) here)

    entering_parts : (k : ℕ) → flow.entering (arc_table N m) R k ≡ true →
        (is_lead N k ≡ true) × (R ((arc_table N m).begin k) ≡ false) × (R ((arc_table N m).end k) ≡ true)
    entering_parts k e =
        let b = R ((arc_table N m).begin k) in let f = R ((arc_table N m).end k) in
        let p = and_parts (is_lead N k) (not b && f) e in let q = and_parts (not b) f p.1 in
        (p.0, not-true b q.0, q.1)

    -- no path covers two leads that enter R
    one_entry : {k j : ℕ} {p : List ℕ} → flow.entering (arc_table N m) R k ≡ true → flow.entering (arc_table N m) R j ≡ true → Covers K N p k →
        Covers K N p j → k ≡ j
    one_entry {k} {j} {p} a b V U = ⊎_elim (λ e. e)
        (λ o. absurd (⊎_elim
        (λ o. both_ways (R ((arc_table N m).begin j)) (entering_parts j b).1
        (stays o.pre o.mid o.post (subst (λ (x : List ℕ). Covers K N x k) o.is V) (subst (λ (x : List ℕ). Covers K N x j) o.is U)
        (entering_parts k a).2))
        (λ o. both_ways (R ((arc_table N m).begin k)) (entering_parts k a).1
        (stays o.pre o.mid o.post (subst (λ (x : List ℕ). Covers K N x j) o.is U) (subst (λ (x : List ℕ). Covers K N x k) o.is V)
        (entering_parts j b).2))
        o))
        (which_first k j p V.through U.through)

  -- the leads that enter a tight cut are a witness for the total
  pub witness : (f : ℕ → ℕ) → Loads N m f → (R : ℕ → Bool) → load.Tight (arc_table N m) f R →
      Witness K N (total_load N m f) (listed (flow.entering (arc_table N m) R) N.places)
  witness f B R C = record {
    count = len;
    ascending = λ i h. listed_up E N.places i (suc i) (omega arith) (omega (arith, len));
    leads = λ i h. (entering_parts R C.none_leaves (get_or w i 0) (listed_each E N.places i (omega (arith, len))).0).0;
    apart = λ i j p h g V U.
        let e = one_entry R C.none_leaves (listed_each E N.places i (omega (arith, len))).0 (listed_each E N.places j (omega (arith, len))).0 V U in
        ⊎_elim (λ q. q) (λ q. absurd (⊎_elim
        (λ l. omega (arith, listed_up E N.places i j l (omega (arith, len))))
        (λ l. omega (arith, listed_up E N.places j i l (omega (arith, len)))) q)) (cases_order i j);
  }
    where
      E : ℕ → Bool
      E = flow.entering (arc_table N m) R

      w : List ℕ
      w = listed E N.places

      len : length (listed (flow.entering (arc_table N m) R) N.places) ≡ total_load N m f
      len =
          listed_length (flow.entering (arc_table N m) R) N.places
          ∙ sym (tight_count (arc_table N m) (arcs_sound S m) f (loads_to_arcs S m f B).balanced R C)
          ∙ same_total S m f
