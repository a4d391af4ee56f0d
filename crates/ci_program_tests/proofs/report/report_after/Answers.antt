use Rattle.ci_program_tests.proofs.report.report_after.Goals as goal

pub report_by-text-requires-clause-blocks : goal.report_by-text-requires-clause-blocks
report_by-text-requires-clause-blocks c = (_, _, c.in_ok-analysis.ensures)
