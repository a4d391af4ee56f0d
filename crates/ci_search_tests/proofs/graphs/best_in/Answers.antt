use Rattle.std.proofs.Common.{ap, length, arith}
use Rattle.ci_cut.proofs.NodeLaws.{few_eligible}
use Rattle.ci_search_tests.proofs.graphs.best_in.Goals as goal

pub best_of_all-requires : goal.best_of_all-requires
best_of_all-requires g c = few_eligible c.args.graph.now 12 (omega (arith, ap length c.nodes.ensures.value))
