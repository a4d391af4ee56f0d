use Rattle.ci_elf.specs.Fields.{e_phentsize}
use Rattle.ci_elf.specs.Rules.{HasProgramEntrySize}
use Rattle.ci_elf.proofs.CheckLaws.{test_one}
use Rattle.ci_elf.proofs.file_header.check_program_entry.Goals as goal

pub returns : goal.returns
unfolding e_phentsize
returns c =
    test_one c.args.bytes.now HasProgramEntrySize _ (rw (c.program_count.ensures.count, c.half_at.ensures) at c.check_entry_size.ensures)
