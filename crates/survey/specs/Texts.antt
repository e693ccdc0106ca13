-- The parts of a survey as text.
use Rattle.std.specs.Prelude.{ℕ, Bool, true, false, List, ◌++◌, codes, decimal}
use Rattle.wiring.specs.Refusals.{number_of}
use Rattle.lengths.specs.Check.{refusal_for}
use Rattle.lengths.specs.Wording.{fill_error_text}
use Rattle.survey.specs.declared.SurveyError.{SurveyError}
use Rattle.survey.specs.declared.SurveyError.TheVariants.{Refused, NoMemory}

-- y (byte 121) for yes, n (byte 110) for no
abbrev pub mark_of : Bool → ℕ
mark_of true = 121
mark_of false = 110

-- the refusal's number, and why
abbrev pub survey_error_text : SurveyError → List ℕ
survey_error_text (Refused e) = codes "refused " ++ (decimal (number_of (refusal_for e)) ++ (codes ": " ++ fill_error_text e))
survey_error_text NoMemory = codes "out of memory"
