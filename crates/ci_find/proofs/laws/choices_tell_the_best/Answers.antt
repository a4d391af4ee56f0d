-- What `find` makes tells the best.
use Rattle.ci_find.proofs.ChoiceLaws.{choices_tell}
use Rattle.ci_find.proofs.laws.choices_tell_the_best.Goals as goal

pub returns : goal.returns
returns c = choices_tell
