use Rattle.std.proofs.Common.{[], ap, arith}
use Rattle.ci_elf.specs.declared.faults.ElfFault.TheVariants.{Short}
use Rattle.ci_elf.specs.Rules.{HasSectionTable}
use Rattle.ci_elf.proofs.CheckLaws.{fault_here}
use Rattle.ci_elf.proofs.file_header.check_section_table.Goals as goal

pub returns-else-lies_in : goal.returns-else-lies_in
returns-else-lies_in c =
    fault_here c.args.bytes.now HasSectionTable [] _ (λ lies. grind arith)
    (ap (λ n. Short n) c.section_table-offset.ensures)
