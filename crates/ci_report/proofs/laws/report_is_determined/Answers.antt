use Rattle.ci_report.proofs.ReportLaws.{report_is_one}
use Rattle.ci_report.proofs.laws.report_is_determined.Goals as goal

pub returns : goal.returns
returns c = report_is_one
