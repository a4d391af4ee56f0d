use Rattle.ci_log.proofs.OneFault.{one_version}
use Rattle.ci_log.proofs.laws.a_text_has_one_version.Goals as goal

pub returns : goal.returns
returns c = one_version
