-- A report under the kind that a netlist names is a report on its lines.
use Rattle.std.proofs.Common.{◌≡◌, ℕ, List, Ok, Err, Result, sym, subst}
use Rattle.netlist.specs.declared.Netlist.{Netlist}
use Rattle.netlist.specs.declared.KindName.{KindName}
use Rattle.netlist.specs.declared.ReadError.{ReadError}
use Rattle.netlist.specs.Outcomes.{Written}
use Rattle.survey.specs.declared.reporting.ReportError.{ReportError}
use Rattle.survey.specs.declared.reporting.ReportError.TheVariants.{Text, Wiring}
use Rattle.netlist.specs.declared.KindName.TheVariants.{Late, Contact, Early}
use Rattle.survey.specs.Reported.{ReportedOf, Reported}

pub reported : {T : Type 0} (lines : List (List ℕ)) (n : Netlist) (k : KindName) (r : Result T ReportError) → Written lines n → n.kind ≡ k → ReportedOf k n r → Reported lines r
reported {T} lines n k r w e h = under r (subst (λ k. ReportedOf k n r) (sym e) h)
  where
    no_text : (k : KindName) (e : ReadError) → ReportedOf {T = T} k n (Err (Text e)) → ⊥
    no_text Late e h = h
    no_text Contact e h = h
    no_text Early e h = h

    under : (r : Result T ReportError) → ReportedOf n.kind n r → Reported lines r
    under (Ok text) h = (n, w, h)
    under (Err (Text e)) h = absurd (no_text n.kind e h)
    under (Err (Wiring e)) h = (n, w, h)
