use Rattle.std.proofs.Common.{◌≡◌, reverse, take}
use Rattle.std.specs.String.{string_bytes}
use Rattle.ci_select.specs.Histories.{round}
use Rattle.ci_report.proofs.LineLaws.{AddLinesOf}
use Rattle.ci_report.proofs.reporting.push_entries.Given as goal

abbrev pub invariant-loop-entry : goal.invariant-loop-entry
invariant-loop-entry l = record {
  counted : l.round ≡ round (reverse (take l.entry-index l.entries));
  lines : AddLinesOf (reverse (take l.entry-index l.entries)) (reverse (take l.round l.takes))
      (string_bytes l.initial.text) (string_bytes l.text);
}
