use Rattle.std.proofs.Common.{subst, sym, arith}
use Rattle.std.proofs.lemmas.List.Elements.{All-get_or}
use Rattle.std.specs.List.{All}
use Rattle.ci_isa.specs.FieldBounds.{FieldsFit}
use Rattle.ci_gen.proofs.InstructionLaws.{ending_fits}
use Rattle.ci_gen.proofs.text.push_ending.Goals as goal

pub push-requires : goal.push-requires
push-requires c =
    All-get_or FieldsFit c.ending.result c.loop-insn.insn-index c.insn-item.result (omega (arith, c.loop-insn-test.true))
    (subst (All FieldsFit) (sym c.ending.ensures) ending_fits)
