use Rattle.std.proofs.Common.{[], ◌∷◌, ◌++◌}
use Rattle.ci_elf.specs.Rules.{HasProgramTable, HasSectionTable}
use Rattle.ci_elf.proofs.CheckLaws.{handed_on, fault_in_front, test_behind}
use Rattle.ci_elf.proofs.file_header.check_tables.Goals as goal

pub returns-in_err-check_program_table : goal.returns-in_err-check_program_table
returns-in_err-check_program_table c =
    handed_on c.args.bytes.now ((HasProgramTable ∷ []) ++ ((HasSectionTable ∷ []))) _ _ c.from_residual.ensures.1
    (fault_in_front c.args.bytes.now (HasProgramTable ∷ []) ((HasSectionTable ∷ [])) _ c.in_err-check_program_table.ensures)

pub returns : goal.returns
returns c =
    test_behind c.args.bytes.now (HasProgramTable ∷ []) ((HasSectionTable ∷ [])) _ c.in_ok-check_program_table.ensures
    c.check_section_table.ensures
