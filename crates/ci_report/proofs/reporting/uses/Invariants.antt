use Rattle.std.proofs.Common.{◌≡◌, ◌≤◌, take}
use Rattle.ci_report.specs.Reports.{uses_of}
use Rattle.ci_report.proofs.reporting.uses.Given as goal

abbrev pub invariant-loop-entry : goal.invariant-loop-entry
invariant-loop-entry l = record {
  counted : l.uses ≡ uses_of (take l.entry-index l.entries) l.number;
  few : l.uses ≤ l.entry-index;
}
