use Rattle.ci_area.proofs.GreedyLaws.{greedy_is_one}
use Rattle.ci_area.proofs.laws.there_is_one_greedy_set.Goals as goal

pub returns : goal.returns
returns c pieces limit first second are one other = greedy_is_one pieces are limit first second one other
