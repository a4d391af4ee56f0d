-- The plain machine runs where there are no modules.
use Rattle.ci_commands.proofs.run.run_by.Goals as goal

pub returns-in-None-clause-profile : goal.returns-in-None-clause-profile
returns-in-None-clause-profile c = rw c.in-None.is c.run.ensures.profile
