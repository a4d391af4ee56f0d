use Rattle.std.proofs.Common.{append_assoc, rules}
use Rattle.std.proofs.lemmas.Result.{IfOk-equal}
use Rattle.ci_report.specs.Lines.{number_after}
use Rattle.ci_report.proofs.lines.push_unit.Goals as goal

pub returns : goal.returns
unfolding number_after
returns c = search (rules, IfOk-equal, append_assoc)
