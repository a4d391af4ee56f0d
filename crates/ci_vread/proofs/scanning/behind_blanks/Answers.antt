-- Blanks make no difference, and none stands behind them.
use Rattle.ci_vread.proofs.ScanSteps.{blanks_pass_from, solid_behind}
use Rattle.ci_vread.proofs.scanning.behind_blanks.Goals as goal

pub returns-clause-symbols : goal.returns-clause-symbols
returns-clause-symbols c = rw (c.run.ensures.size, c.behind.ensures) (blanks_pass_from c.args.text.now c.args.place)

pub returns-clause-solid : goal.returns-clause-solid
returns-clause-solid c = rw (c.run.ensures.size, c.behind.ensures) (solid_behind c.args.text.now c.args.place)
