use Rattle.ci_select.proofs.AlikeLaws.{acceptable_alike}
use Rattle.ci_select.proofs.laws.like_instances_have_the_same_books.Goals as goal

-- src/laws.rt
pub returns : goal.returns
returns c = acceptable_alike
