use Rattle.std.proofs.Common.{subst}
use Rattle.ci_isa.specs.Table.{IsInsnAt}
use Rattle.ci_block.proofs.InsnLaws.{stands_alone}
use Rattle.ci_block.proofs.text.insn_in.Goals as goal

pub returns-clause-only : goal.returns-clause-only
returns-clause-only c insn stands =
    let image = c.args.image.now in
    stands_alone image c.args.address insn c.insn_at.result stands
    (record { text = stands.text; reads = subst (λ w. IsInsnAt w c.insn_at.result) c.word.ensures c.insn_at.ensures.found })
