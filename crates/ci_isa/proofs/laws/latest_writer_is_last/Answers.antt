use Rattle.ci_isa.proofs.LastWriter.{latest_writer_is_last}
use Rattle.ci_isa.proofs.laws.latest_writer_is_last.Goals as goal

pub returns : goal.returns
returns c = latest_writer_is_last
