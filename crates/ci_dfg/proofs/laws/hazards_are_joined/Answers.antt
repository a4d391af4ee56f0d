use Rattle.ci_dfg.proofs.ArcLaws.{hazards_are_joined, accesses_are_joined}
use Rattle.ci_dfg.proofs.laws.hazards_are_joined.Goals as goal

pub returns-clause-registers : goal.returns-clause-registers
returns-clause-registers c = hazards_are_joined

pub returns-clause-memory : goal.returns-clause-memory
returns-clause-memory c = accesses_are_joined
