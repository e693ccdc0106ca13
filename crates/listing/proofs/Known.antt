-- What links show can be had whole.
use Rattle.std.proofs.Common.{◌≡◌, ℕ, ap, subst}
use Rattle.std.proofs.Math.Logic.{∥∥₁_elim}
use Rattle.std.proofs.Math.Nat.{ℕ_set}
use Rattle.std.proofs.Math.Bool.{Bool-set}
use Rattle.std.specs.Coded.{le_prop}
use mathlib.Core.Path.{fun_ext}
use Rattle.delay.specs.Kind.{Kind, Laws}
use Rattle.wiring.specs.Net.{Net, Sound}
use Rattle.wiring.specs.Lengths.{Marks, Types}
use Rattle.wiring.proofs.Types.{types_by_tables, types_same}
use Rattle.lengths.proofs.Worked.{worked_tables}
use Rattle.flow.specs.Table.{Table}
use Rattle.listing.specs.declared.links.Links.{Links}
use Rattle.listing.specs.Shows.{types_in, Shows}

-- a table is told by its parts
table_same : {T U : Table} → T.places ≡ U.places → T.nodes ≡ U.nodes → ((k : ℕ) → T.arc k ≡ U.arc k) → ((k : ℕ) → T.begin k ≡ U.begin k) →
    ((k : ℕ) → T.end k ≡ U.end k) → T.source ≡ U.source → T.sink ≡ U.sink → T ≡ U
table_same p n a b e s t = λ i. record {
  places = p i;
  nodes = n i;
  arc = λ k. a k i;
  begin = λ k. b k i;
  end = λ k. e k i;
  source = s i;
  sink = t i;
}

module _ {D : Type 0} {K : Kind D} (L : Laws K) {N : Net D} {l : Links} (H : ∥ Shows K N l ∥₁) where
  sound : Sound K N
  sound = record {
    few_nodes = ∥∥₁_elim H le_prop (λ h. h.sound.few_nodes);
    few_places = ∥∥₁_elim H le_prop (λ h. h.sound.few_places);
    upwards = λ k x h. ∥∥₁_elim H le_prop (λ s. s.sound.upwards k x h);
    inside = λ k x h. ∥∥₁_elim H le_prop (λ s. s.sound.inside k x h);
    lawful = λ k x h. ∥∥₁_elim H (Bool-set _ _) (λ s. s.sound.lawful k x h);
  }

  -- the types are those that the lengths tell
  types : Types K N (types_in l)
  types =
      let told = types_by_tables L sound (worked_tables L sound) in
      subst (Types K N)
      (fun_ext (λ k. λ i. (
        ∥∥₁_elim H (Bool-set _ _) (λ h. ap (λ (m : Marks). (m k).0) (types_same told h.types)) i,
        ∥∥₁_elim H (Bool-set _ _) (λ h. ap (λ (m : Marks). (m k).1) (types_same told h.types)) i,
      )))
      told

  pub shows_known : Shows K N l
  shows_known = record {
    sound = sound;
    types = types;
    arcs = table_same
        (∥∥₁_elim H (ℕ_set _ _) (λ h. ap (λ (T : Table). T.places) h.arcs))
        (∥∥₁_elim H (ℕ_set _ _) (λ h. ap (λ (T : Table). T.nodes) h.arcs))
        (λ k. ∥∥₁_elim H (Bool-set _ _) (λ h. ap (λ (T : Table). T.arc k) h.arcs))
        (λ k. ∥∥₁_elim H (ℕ_set _ _) (λ h. ap (λ (T : Table). T.begin k) h.arcs))
        (λ k. ∥∥₁_elim H (ℕ_set _ _) (λ h. ap (λ (T : Table). T.end k) h.arcs))
        (∥∥₁_elim H (ℕ_set _ _) (λ h. ap (λ (T : Table). T.source) h.arcs))
        (∥∥₁_elim H (ℕ_set _ _) (λ h. ap (λ (T : Table). T.sink) h.arcs));
  }
