-- From a netlist to a wiring, and why there is no report.
use Rattle.std.specs.Prelude.{ℕ, List, map, Some, None, Ok, Err, vec_items, Option, Result}
use Rattle.delay.specs.Kind.{Kind}
use Rattle.delay.specs.Delivered.{picosecond_kind, contact_kind, early_kind}
use Rattle.wiring.specs.declared.Lead.{Lead}
use Rattle.wiring.specs.Net.{Net, Sound}
use Rattle.wiring.specs.Views.{table_net}
use Rattle.lengths.specs.Check.{NotFilled}
use Rattle.netlist.specs.declared.Wire.{Wire}
use Rattle.netlist.specs.declared.Netlist.{Netlist}
use Rattle.netlist.specs.declared.KindName.{KindName}
use Rattle.netlist.specs.declared.KindName.TheVariants.{Late, Contact, Early}
use Rattle.netlist.specs.Outcomes.{NotRead, Written}
use Rattle.netlist.specs.Forms.{error_text}
use Rattle.survey.specs.declared.reporting.ReportError.{ReportError}
use Rattle.survey.specs.declared.reporting.ReportError.TheVariants.{Text, Wiring}
use Rattle.survey.specs.declared.SurveyError.TheVariants.{Refused, NoMemory}
use Rattle.survey.specs.Texts.{survey_error_text}

-- what stands at a place of a netlist, as the kind K reads it
abbrev pub place_of : {D : Type 0} → Kind D → Option Wire → Option (Lead D)
place_of K None = None
place_of K (Some w) = Some (record { tail = w.tail; head = w.head; delay = K.reading w.picoseconds w.contacts })

abbrev pub report_error_text : ReportError → List ℕ
report_error_text (Text e) = error_text e
report_error_text (Wiring e) = survey_error_text e

-- the wiring that a netlist describes, as the kind K reads it
abbrev pub wiring_of : {D : Type 0} → Kind D → Netlist → Net D
wiring_of K n = table_net n.nodes (map (place_of K) (vec_items n.places))

-- T is the report's text; a report under K is of a sound wiring; otherwise the refusal is the one that the wiring meets
abbrev pub ReportedAs : {D T : Type 0} → Kind D → Netlist → Result T ReportError → Type 0
ReportedAs K n (Ok text) = Sound K (wiring_of K n)
ReportedAs K n (Err (Text e)) = ⊥
ReportedAs K n (Err (Wiring (Refused e))) = NotFilled K (wiring_of K n) n.nodes e
ReportedAs K n (Err (Wiring NoMemory)) = Unit {0}

-- the same under the kind that the netlist names
abbrev pub ReportedOf : {T : Type 0} → KindName → Netlist → Result T ReportError → Type 0
ReportedOf Late = ReportedAs picosecond_kind
ReportedOf Contact = ReportedAs contact_kind
ReportedOf Early = ReportedAs (early_kind picosecond_kind)

-- what reporting on these lines answers: a line that is not as it should be is told before anything of the wiring
abbrev pub Reported : {T : Type 0} → List (List ℕ) → Result T ReportError → Type 0
Reported lines (Err (Text e)) = NotRead lines e
Reported {T} lines (Err (Wiring e)) = (n : Netlist) × Written lines n × ReportedOf {T = T} n.kind n (Err (Wiring e))
Reported lines (Ok text) = (n : Netlist) × Written lines n × ReportedOf n.kind n (Ok text)
