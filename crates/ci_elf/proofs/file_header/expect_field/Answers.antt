use Rattle.std.proofs.Common.{[], ◌∙◌}
use Rattle.ci_elf.specs.declared.faults.ElfFault.TheVariants.{WrongKind}
use Rattle.ci_elf.specs.Rules.{FieldIs}
use Rattle.ci_elf.proofs.CheckLaws.{fault_here}
use Rattle.ci_elf.proofs.file_header.expect_field.Goals as goal

pub returns-else-found-value : goal.returns-else-found-value
returns-else-found-value c =
    fault_here c.args.bytes.now (FieldIs c.args.width c.args.offset c.args.value) [] (WrongKind c.args.offset c.field_at-found.result)
    (λ is. c.if-found-value.false (c.field_at-found.ensures ∙ is)) (cc)
