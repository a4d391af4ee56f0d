use Rattle.ci_cut.proofs.CriticalPath.{delay_along-le, critical_path_delay-reached}
use Rattle.ci_cut.proofs.timing.hardware_is_the_critical_path.Goals as goal

pub returns-clause-bound : goal.returns-clause-bound
returns-clause-bound c = delay_along-le

pub returns-clause-reached : goal.returns-clause-reached
returns-clause-reached c = critical_path_delay-reached
