-- One unit more adds its line.
use Rattle.std.proofs.Common.{◌≡◌, ◌∙◌, ◌++◌, ℕ, List, ap, sym, append_assoc, take, ◌+◌, arith}
use Rattle.std.specs.String.{string_bytes}
use Rattle.ci_report.specs.Lines.{unit_line}
use Rattle.ci_report.specs.Reports.{unit_lines, uses_of}
use Rattle.ci_report.proofs.LineLaws.{one_unit_more}
use Rattle.ci_report.proofs.reporting.push_units.Goals as goal

pub loop-number-preserved : goal.loop-number-preserved
loop-number-preserved c =
    let entries = c.args.entries.now in
    let start = string_bytes c.args.text.now in
    let k = c.loop-number.number in
    let unit = c.index-units-number.result in
    let line : List ℕ = unit_line k unit (uses_of entries k) in
    let lines : List ℕ = unit_lines entries 0 (take k c.args.units.now) in
    let uses : c.uses.result ≡ uses_of entries k = c.uses.ensures in
    let same : 0 + k ≡ k = omega arith in
    let more = one_unit_more entries 0 c.args.units.now k unit c.loop-number-test.true c.index-units-number.is in
    c.in_ok-push_unit.ensures ∙ (λ i. c.loop-number.invariant i ++ unit_line k unit (uses i))
    ∙ append_assoc start lines line ∙ ap (λ added. start ++ added) (sym (more ∙ (λ i. lines ++ unit_line (same i) unit (uses_of entries (same i)))))
