use Rattle.std.proofs.Common.{ap, ◌∙◌}
use Rattle.ci_isa.specs.Effects as terms
use Rattle.ci_isa.specs.RegisterSets.{set_without_x0}
use Rattle.ci_isa.proofs.Registers.{set_without_padding}
use Rattle.ci_isa.proofs.effects.reads.Goals as goal

pub returns : goal.returns
returns c = c.registers.ensures ∙ ap set_without_x0 c.operands.ensures ∙ set_without_padding 4 (terms.operands c.args.insn.now)
