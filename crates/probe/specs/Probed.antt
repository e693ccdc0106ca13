-- What a call over the row of places answers, and what both rows then hold.
use Rattle.std.specs.Prelude.{◌≡◌, ℕ, List, Result}
use Rattle.delay.specs.Kind.{Kind}
use Rattle.drawing.specs.declared.Counts.{Counts}
use Rattle.probe.specs.declared.Answer.{Answer}
use Rattle.probe.specs.declared.Place.{Place}
use Rattle.probe.specs.declared.ProbeError.{ProbeError}
use Rattle.probe.specs.Answers.{answer_in}
use Rattle.probe.specs.Drawn.{Drawn}
use Rattle.probe.specs.Places.{net_of}

pub record Probed {D : Type 0} (K : Kind D) (nodes : ℕ) (places : List Place) (word_row witness_row words_after witness_after : List ℕ) (r : Answer) : Type 0 where
  pub result : Result Counts ProbeError
  pub told : r ≡ answer_in result
  pub drawn : Drawn K (net_of K nodes places) word_row witness_row words_after witness_after result
