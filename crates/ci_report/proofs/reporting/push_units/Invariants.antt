use Rattle.std.proofs.Common.{◌≡◌, ◌++◌, take}
use Rattle.std.specs.String.{string_bytes}
use Rattle.ci_report.specs.Reports.{unit_lines}
use Rattle.ci_report.proofs.reporting.push_units.Given as goal

abbrev pub invariant-loop-number : goal.invariant-loop-number
invariant-loop-number l =
    string_bytes l.text ≡ string_bytes l.initial.text ++ unit_lines l.entries 0 (take l.number l.units)
