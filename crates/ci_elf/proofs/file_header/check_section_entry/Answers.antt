use Rattle.ci_elf.specs.Fields.{e_shentsize}
use Rattle.ci_elf.specs.Rules.{HasSectionEntrySize}
use Rattle.ci_elf.proofs.CheckLaws.{test_one}
use Rattle.ci_elf.proofs.file_header.check_section_entry.Goals as goal

pub returns : goal.returns
unfolding e_shentsize
returns c =
    test_one c.args.bytes.now HasSectionEntrySize _ (rw (c.section_count.ensures.count, c.half_at.ensures) at c.check_entry_size.ensures)
