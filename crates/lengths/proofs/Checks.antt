-- A check that finds nothing shows that the wiring is sound; what it finds is the first fault.
use Rattle.std.proofs.Common.{ℕ, sym, subst}
use Rattle.delay.specs.Kind.{Kind}
use Rattle.wiring.specs.declared.Lead.{Lead}
use Rattle.wiring.specs.Net.{Net, Holds, Sound}
use Rattle.wiring.proofs.Ends.{below_places}
use Rattle.lengths.specs.declared.check.Fault.{Fault}
use Rattle.lengths.specs.declared.check.Fault.TheVariants.{Size, Ends, Delay}
use Rattle.lengths.specs.Check.{Sized, Breaks, KeepsBelow, FirstFault, Finds}

module _ {D : Type 0} (K : Kind D) (N : Net D) where
  pub sound_if_all : Sized N → KeepsBelow K N N.places → Sound K N
  sound_if_all few all = record {
    few_nodes = few.0;
    few_places = few.1;
    upwards = λ k l h. (all k (below_places N k l h) l h).0.0;
    inside = λ k l h. (all k (below_places N k l h) l h).0.1;
    lawful = λ k l h. (all k (below_places N k l h) l h).1;
  }

  pub finds_first : Sized N → (k : ℕ) → KeepsBelow K N k → (f : Fault) → ((l : Lead D) × Holds N k l × Breaks K N.nodes k l f) → Finds K N f
  finds_first few k below Size b = absurd b.2
  finds_first few k below (Ends j) b = subst (λ i. FirstFault K N i (Ends j)) (sym b.2.0) (few, below, b)
  finds_first few k below (Delay j) b = subst (λ i. FirstFault K N i (Delay j)) (sym b.2.0) (few, below, b)
