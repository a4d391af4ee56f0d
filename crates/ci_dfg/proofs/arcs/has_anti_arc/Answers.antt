use Rattle.std.proofs.Common.{◌∙◌, refl}
use Rattle.ci_isa.specs.Effects.{reads_register}
use Rattle.ci_dfg.proofs.InstructionLaws.{of_result}
use Rattle.ci_dfg.proofs.arcs.has_anti_arc.Goals as goal

pub returns : goal.returns
returns c =
    c.reads_register.ensures
    ∙ of_result c.args.insns.now reads_register (λ insn. refl) c.args.j c.args.k
    c.index-insns-j.result c.index-insns-k.result c.destination.result
    c.requires.order c.requires.there c.index-insns-j.is c.index-insns-k.is c.destination.ensures
