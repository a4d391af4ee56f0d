-- The number of the module is in its range.
use Rattle.std.proofs.Common.{refl}
use Rattle.ci_arguments.specs.Tables.{commands}
use Rattle.ci_find.proofs.commands.evaluate_eval.Goals as goal

pub number_and_arguments-number-requires : goal.number_and_arguments-number-requires
unfolding commands
number_and_arguments-number-requires g c = (c.requires 1 0 31 refl).1
