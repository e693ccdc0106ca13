-- A wiring of fewer than two nodes has no lead, and so the best loads are none.
use Rattle.std.proofs.Common.{◌≡◌, ℕ, ◌<◌, Bool, true, false, cond, List, [], refl, arith}
use Rattle.delay.specs.Kind.{Kind, Laws}
use Rattle.wiring.specs.Net.{Net, Sound, is_lead}
use Rattle.wiring.specs.Lengths.{Marks}
use Rattle.wiring.specs.Loads.{is_start_lead, total_load, Best}
use Rattle.wiring.proofs.Ends.{inner_parts, lead_in}
use Rattle.wiring.proofs.Types.{lead_at}
use Rattle.flow.proofs.Sums.{sum_none}
use Rattle.cover.proofs.Whole.{one_best_loads_lem}
use Rattle.chooser.specs.Written.{Written}

module _ {D : Type 0} {K : Kind D} {N : Net D} (S : Sound K N) (few : N.nodes < 2) where
  no_lead : (k : ℕ) → is_lead N k ≡ true → ⊥
  no_lead k e = let l = lead_at N k e in omega (arith, S.upwards k l.0 l.1, S.inside k l.0 l.1)

  module _ (m : Marks) (f : ℕ → ℕ) (z : (k : ℕ) → f k ≡ 0) where
    pub bare_total : total_load N m f ≡ 0
    bare_total = sum_none N.places (λ k. cond (is_start_lead N m k) (f k) 0) (λ k l. at (is_start_lead N m k) (f k) (z k))
      where
        at : (b : Bool) (x : ℕ) → x ≡ 0 → cond b x 0 ≡ 0
        at true x e = e
        at false x e = refl

    pub bare_best : Best N m f
    bare_best = record {
      loads = record {
        leads = λ k e. absurd (no_lead k e);
        vacant = λ k e. z k;
        balanced = λ v e. let i = lead_in N v (inner_parts N v e).0 in
            absurd (omega (arith, S.upwards i.place i.lead i.holds, S.inside i.place i.lead i.holds));
      };
      least = λ g L. omega (arith, bare_total);
      first = λ g L e b. omega (arith, b.smaller, z b.at);
    }

-- and its list is empty, as nothing written shows
pub bare_written : {D : Type 0} {K : Kind D} (L : Laws K) {N : Net D} → Sound K N → N.nodes < 2 → (row witness : List ℕ) →
    Written K N row witness row witness (record { paths = 0; words = 0 })
bare_written L {N} S few row witness =
    let B = one_best_loads_lem L N S in
    let m = B.marks in
    record {
      list = [];
      is_list = record { marks = m; types = B.types; loads = λ k. 0; best = bare_best S few m (λ k. 0) (λ k. refl); draws = λ k. refl };
      numbers = refl;
      words_are = refl;
      witness = [];
      shows = record { count = refl; ascending = λ i h. absurd (omega arith); leads = λ i h. absurd (omega arith); apart = λ i j p h. absurd (omega arith) };
      witness_is = refl;
    }
