use Rattle.std.proofs.Common.{◌++◌}
use Rattle.ci_elf.specs.Rules.{section_rules, sharing_rules}
use Rattle.ci_elf.proofs.CheckLaws.{handed_on, fault_in_front, test_behind}
use Rattle.ci_elf.proofs.reading.check_texts.Goals as goal

pub returns-in_err-check_sections : goal.returns-in_err-check_sections
returns-in_err-check_sections c =
    handed_on c.args.bytes.now ((section_rules c.args.bytes.now) ++ ((sharing_rules c.args.bytes.now))) _ _ c.from_residual.ensures.1
    (fault_in_front c.args.bytes.now (section_rules c.args.bytes.now) ((sharing_rules c.args.bytes.now)) _ c.in_err-check_sections.ensures)

pub returns : goal.returns
returns c =
    test_behind c.args.bytes.now (section_rules c.args.bytes.now) ((sharing_rules c.args.bytes.now)) _ c.in_ok-check_sections.ensures
    c.check_sharing.ensures
