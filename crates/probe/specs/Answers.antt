-- Results in numbers.
use Rattle.std.specs.Prelude.{Ok, Err, Result}
use Rattle.wiring.specs.Refusals.{number_of}
use Rattle.drawing.specs.declared.Counts.{Counts}
use Rattle.probe.specs.declared.Answer.{Answer}
use Rattle.probe.specs.declared.ProbeError.{ProbeError}
use Rattle.probe.specs.declared.ProbeError.TheVariants.{Refused, NoMemory}

abbrev pub answer_in : Result Counts ProbeError → Answer
answer_in (Ok c) = record { refusal = 0; paths = c.paths; words = c.words }
answer_in (Err (Refused e)) = record { refusal = number_of e; paths = 0; words = 0 }
answer_in (Err NoMemory) = record { refusal = 255; paths = 0; words = 0 }
