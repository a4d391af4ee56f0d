use Rattle.std.proofs.Common.{[], ◌∷◌, ◌++◌}
use Rattle.ci_elf.specs.Rules.{HasNoCompressedCode, HasProgramEntrySize, HasSectionEntrySize}
use Rattle.ci_elf.proofs.CheckLaws.{handed_on, fault_in_front, fault_behind, test_behind}
use Rattle.ci_elf.proofs.file_header.check_sizes.Goals as goal

pub returns-in_err-check_no_compressed_code : goal.returns-in_err-check_no_compressed_code
returns-in_err-check_no_compressed_code c =
    handed_on c.args.bytes.now ((HasNoCompressedCode ∷ []) ++ ((HasProgramEntrySize ∷ []) ++ ((HasSectionEntrySize ∷ [])))) _ _ c.from_residual.ensures.1
    (fault_in_front c.args.bytes.now (HasNoCompressedCode ∷ [])
    ((HasProgramEntrySize ∷ []) ++ ((HasSectionEntrySize ∷ []))) _ c.in_err-check_no_compressed_code.ensures)

pub returns-in_err-check_program_entry : goal.returns-in_err-check_program_entry
returns-in_err-check_program_entry c =
    handed_on c.args.bytes.now ((HasNoCompressedCode ∷ [])
    ++ ((HasProgramEntrySize ∷ []) ++ ((HasSectionEntrySize ∷ [])))) _ _
    c.from_residual-in_err-check_program_entry.ensures.1
    (fault_behind c.args.bytes.now (HasNoCompressedCode ∷ [])
    ((HasProgramEntrySize ∷ []) ++ ((HasSectionEntrySize ∷ []))) _ c.in_ok-check_no_compressed_code.ensures
    (fault_in_front c.args.bytes.now (HasProgramEntrySize ∷ []) ((HasSectionEntrySize ∷ [])) _ c.in_err-check_program_entry.ensures))

pub returns : goal.returns
returns c =
    test_behind c.args.bytes.now (HasNoCompressedCode ∷ [])
    ((HasProgramEntrySize ∷ []) ++ ((HasSectionEntrySize ∷ []))) _ c.in_ok-check_no_compressed_code.ensures
    (test_behind c.args.bytes.now (HasProgramEntrySize ∷ []) ((HasSectionEntrySize ∷ [])) _ c.in_ok-check_program_entry.ensures
    c.check_section_entry.ensures)
