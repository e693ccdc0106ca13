-- What both rows hold after a call.
use Rattle.std.specs.Prelude.{◌≡◌, ℕ, List, Ok, Err, Result}
use Rattle.delay.specs.Kind.{Kind}
use Rattle.wiring.specs.Net.{Net}
use Rattle.drawing.specs.declared.Counts.{Counts}
use Rattle.chooser.specs.Written.{Written}
use Rattle.probe.specs.declared.ProbeError.{ProbeError}

-- list and witness of N, or both rows as before
abbrev pub Drawn : {D : Type 0} → Kind D → Net D → List ℕ → List ℕ → List ℕ → List ℕ → Result Counts ProbeError → Type 0
Drawn K N word_row witness_row words_after witness_after (Ok c) = Written K N word_row witness_row words_after witness_after c
Drawn K N word_row witness_row words_after witness_after (Err e) = (words_after ≡ word_row) × (witness_after ≡ witness_row)
