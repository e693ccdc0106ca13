use Rattle.netlist.specs.Lines.{lines_of}
use Rattle.netlist.specs.declared.KindName.TheVariants.{Late, Contact, Early}
use Rattle.survey.proofs.Reports.{reported}
use Rattle.survey.proofs.reporting.report.Goals as goal

pub returns-in-Late : goal.returns-in-Late
returns-in-Late c =
    reported (lines_of c.args.text.now) c.in_ok-list.list Late c.report_as.result c.in_ok-list.ensures.gives c.in-Late.is c.report_as.ensures

pub returns-in-Contact : goal.returns-in-Contact
returns-in-Contact c =
    reported (lines_of c.args.text.now) c.in_ok-list.list Contact c.report_as-in-Contact.result c.in_ok-list.ensures.gives c.in-Contact.is c.report_as-in-Contact.ensures

pub returns : goal.returns
returns c =
    reported (lines_of c.args.text.now) c.in_ok-list.list Early c.report_as-in-Early.result c.in_ok-list.ensures.gives c.in-Early.is c.report_as-in-Early.ensures
