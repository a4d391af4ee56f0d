use Rattle.std.proofs.Common.{List, [], ◌∷◌, ◌++◌}
use Rattle.ci_elf.specs.Rules.{Rule, FieldIs, HasNoCompressedCode, HasProgramEntrySize, HasSectionEntrySize}
use Rattle.ci_elf.proofs.CheckLaws.{handed_on, fault_in_front, fault_behind, test_behind}
use Rattle.ci_elf.proofs.file_header.check_kind.Goals as goal

abbrev identification : List Rule
identification = FieldIs 1 4 1 ∷ FieldIs 1 5 1 ∷ FieldIs 1 6 1 ∷ []

abbrev machine : List Rule
machine = FieldIs 2 16 2 ∷ FieldIs 2 18 243 ∷ FieldIs 4 20 1 ∷ []

abbrev sizes : List Rule
sizes = HasNoCompressedCode ∷ HasProgramEntrySize ∷ HasSectionEntrySize ∷ []

pub returns-in_err-check_identification : goal.returns-in_err-check_identification
returns-in_err-check_identification c =
    handed_on c.args.bytes.now (identification ++ (machine ++ (sizes))) _ _ c.from_residual.ensures.1
    (fault_in_front c.args.bytes.now identification (machine ++ (sizes)) _ c.in_err-check_identification.ensures)

pub returns-in_err-check_machine : goal.returns-in_err-check_machine
returns-in_err-check_machine c =
    handed_on c.args.bytes.now (identification ++ (machine ++ (sizes))) _ _ c.from_residual-in_err-check_machine.ensures.1
    (fault_behind c.args.bytes.now identification (machine ++ (sizes)) _ c.in_ok-check_identification.ensures
    (fault_in_front c.args.bytes.now machine (sizes) _ c.in_err-check_machine.ensures))

pub returns : goal.returns
returns c =
    test_behind c.args.bytes.now identification (machine ++ (sizes)) _ c.in_ok-check_identification.ensures
    (test_behind c.args.bytes.now machine (sizes) _ c.in_ok-check_machine.ensures
    c.check_sizes.ensures)
