-- A search that goes on.
use Rattle.std.proofs.Common.{ℕ, ◌∙◌, subst}
use Rattle.marks.specs.declared.arcs.Arcs.{Arcs}
use Rattle.marks.specs.Marks.{load_of}
use Rattle.marks.specs.Shown.{shown}
use Rattle.loads.specs.declared.search.Spread.{Spread}
use Rattle.loads.specs.Search.{Grown}
use Rattle.loads.specs.Went.{Went}
use Rattle.loads.proofs.Searches.{grown_then}

-- what is said over the arcs and loads of a later state holds over those of an earlier one
pub moved : (a b : Spread) → Went a b → (P : Arcs → (ℕ → ℕ) → ℕ → Type 0) → P b.arcs (load_of b.loads.now) b.low → P a.arcs (load_of a.loads.now) a.low
moved a b W P h =
    subst (λ (low : ℕ). P a.arcs (load_of a.loads.now) low) W.low
    (subst (λ xs. P a.arcs (load_of xs) b.low) W.loads
    (subst (λ (A : Arcs). P A (load_of b.loads.now) b.low) W.arcs h))

pub went_then : (a b c : Spread) → Went a b → Went b c → Went a c
went_then a b c W V = record {
  arcs = V.arcs ∙ W.arcs;
  loads = V.loads ∙ W.loads;
  low = V.low ∙ W.low;
  lent = V.lent ∙ W.lent;
  grown = grown_then (shown a.arcs) (load_of a.loads.now) a.low a.nodes.now b.nodes.now c.nodes.now a.count b.count c.count W.grown
      (moved a b W (λ A f low. Grown (shown A) f low b.nodes.now c.nodes.now b.count c.count) V.grown);
}
