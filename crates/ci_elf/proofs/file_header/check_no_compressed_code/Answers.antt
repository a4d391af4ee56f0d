use Rattle.std.proofs.Common.{[], ◌%◌, ap, ◌∙◌}
use Rattle.ci_elf.specs.declared.faults.ElfFault.TheVariants.{WrongKind}
use Rattle.ci_elf.specs.Fields.{e_flags}
use Rattle.ci_elf.specs.Rules.{HasNoCompressedCode}
use Rattle.ci_elf.proofs.CheckLaws.{fault_here}
use Rattle.ci_elf.proofs.file_header.check_no_compressed_code.Goals as goal

pub returns-else-flags-eq0 : goal.returns-else-flags-eq0
unfolding e_flags
returns-else-flags-eq0 c =
    fault_here c.args.bytes.now HasNoCompressedCode [] _ (λ is. c.if-flags-eq0.false (ap (λ n. n % 2) c.word_at-flags.ensures ∙ is))
    (ap (λ n. WrongKind 36 n) c.word_at-flags.ensures)
