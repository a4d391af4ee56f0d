-- The steps are in their range.
use Rattle.std.proofs.Common.{arith, refl}
use Rattle.ci_arguments.specs.Tables.{commands}
use Rattle.ci_arguments.specs.declared.tables.OptionName.TheVariants.{Steps}
use Rattle.ci_find.proofs.commands.evaluate_run.Goals as goal

pub evaluate-requires : goal.evaluate-requires
unfolding commands
evaluate-requires g c = omega (arith, c.requires Steps 1 4294967296 refl, c.number.ensures)
