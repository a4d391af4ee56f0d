use Rattle.std.proofs.Common.{ap, ◌∙◌}
use Rattle.ci_isa.specs.Effects.{results}
use Rattle.ci_isa.specs.RegisterSets.{set_without_x0}
use Rattle.ci_isa.proofs.Registers.{set_without_padding}
use Rattle.ci_isa.proofs.effects.writes.Goals as goal

pub returns : goal.returns
returns c = c.registers.ensures ∙ ap set_without_x0 c.destination.ensures ∙ set_without_padding 1 (results c.args.insn.now)
