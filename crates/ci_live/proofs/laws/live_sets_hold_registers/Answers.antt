use Rattle.ci_live.proofs.RegisterLaws.{live_are_registers}
use Rattle.ci_live.proofs.laws.live_sets_hold_registers.Goals as goal

pub returns : goal.returns
returns c = live_are_registers
