-- The line that is due is that of what is searched for.
use Rattle.ci_commands.proofs.best.line_of.Goals as goal

pub returns-in-Cut : goal.returns-in-Cut
returns-in-Cut c = rw c.in-Cut.is c.best_cut_line.ensures

pub returns-in-Pair : goal.returns-in-Pair
returns-in-Pair c = rw c.in-Pair.is c.best_pair_line.ensures
