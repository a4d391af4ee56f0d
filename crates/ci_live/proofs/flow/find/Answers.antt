use Rattle.ci_live.proofs.SearchLaws.{found_by_halving}
use Rattle.ci_live.proofs.flow.find.Goals as goal

pub returns : goal.returns
returns c = rw c.ok.ensures.value (found_by_halving c.args.leaders.now c.args.address c.binary_search.result c.binary_search.ensures.position c.requires)
