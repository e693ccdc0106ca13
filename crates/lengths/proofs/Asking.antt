-- With filled tables, what is asked of a lead is told by them.
use Rattle.std.proofs.Common.{◌≡◌, ℕ, List, Some, None, Decides, Option, refl, ap, ◌∙◌, subst, arith}
use Rattle.delay.specs.Kind.{Kind, Within, Laws}
use Rattle.delay.proofs.Sums.{le_trans}
use Rattle.wiring.specs.declared.Lead.{Lead}
use Rattle.wiring.specs.Net.{Net, stands}
use Rattle.wiring.specs.Lengths.{Fed, Drains, type_by, through_by, marks_in}
use Rattle.wiring.proofs.Ends.{below_places}
use Rattle.wiring.proofs.Cover.{Tables, longest_through_lem, through_within, path_starts, path_within}
use Rattle.wiring.proofs.Types.{types_by_tables}
use Rattle.lengths.specs.Tables.{entry}
use Rattle.lengths.specs.Asked.{Filled, of_lead, TypeOf, ThroughOf, LongestOf}
use Rattle.lengths.proofs.Best.{BestBelow}

module _ {D : Type 0} (K : Kind D) (L : Laws K) (N : Net D) (to from : List D) (F : Filled K N to from) where
  pub tables : Tables K N (entry K to) (entry K from)
  tables = record { to_is = F.to_is.longest; from_is = F.from_is.longest }

  pub type_told : (k : ℕ) (o : Option (Lead D)) → N.at k ≡ o → TypeOf K N k (of_lead (type_by K (entry K to) (entry K from)) o)
  type_told k None e = e
  type_told k (Some l) e =
      let T = types_by_tables L F.sound tables in (
        ap stands e,
        subst (λ o. Decides (marks_in K (entry K to) (entry K from) o).0 (Drains K N k)) e (T.drains k (ap stands e)),
        subst (λ o. Decides (marks_in K (entry K to) (entry K from) o).1 (Fed K N k)) e (T.fed k (ap stands e)),
      )

  pub through_told : (k : ℕ) (o : Option (Lead D)) → N.at k ≡ o → ThroughOf K N k (of_lead (through_by K (entry K to) (entry K from)) o)
  through_told k None e = e
  through_told k (Some l) e = longest_through_lem L F.sound tables k l e

  -- the longest over all leads is the longest of all paths
  pub longest_told : (best : Option D) → BestBelow K N (λ l. Unit {0}) (through_by K (entry K to) (entry K from)) N.places best → LongestOf K N best
  longest_told None h = λ p P. let f = path_starts P in h f.0 (below_places N f.0 f.1 f.2) f.1 f.2 tt
  longest_told (Some b) h =
      let w = h.0 in
      let t = longest_through_lem L F.sound tables w.0 w.1 w.3 in
      record {
        leads = t.leads;
        path = t.path;
        delay = t.delay ∙ w.5;
        longest = λ q Q.
            let f = path_starts Q in
            le_trans L (path_within F.sound Q) (through_within L F.sound tables f.0 f.1 f.2)
            (subst (Within K) w.5 (through_within L F.sound tables w.0 w.1 w.3))
            ((longest_through_lem L F.sound tables f.0 f.1 f.2).longest q Q f.3)
            (h.1 f.0 (below_places N f.0 f.1 f.2) f.1 f.2 tt);
      }

-- where something is said, a lead stands
pub lead_from : {D B : Type 0} (f : Lead D → B) (o : Option (Lead D)) (x : B) → of_lead f o ≡ Some x → (l : Lead D) × (o ≡ Some l) × (f l ≡ x)
lead_from f (Some l) x e = (l, refl, cc)
lead_from f None x e = let z : ◌≡◌ {A = ℕ} 0 1 = cc in absurd (omega arith)
