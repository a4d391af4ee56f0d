use Rattle.std.proofs.Common.{[], ◌∷◌, ◌++◌}
use Rattle.ci_elf.specs.Rules.{FieldIs}
use Rattle.ci_elf.proofs.CheckLaws.{handed_on, fault_in_front, fault_behind, test_behind}
use Rattle.ci_elf.proofs.file_header.check_machine.Goals as goal

pub returns-in_err-expect_field : goal.returns-in_err-expect_field
returns-in_err-expect_field c =
    handed_on c.args.bytes.now ((FieldIs 2 16 2 ∷ []) ++ ((FieldIs 2 18 243 ∷ []) ++ ((FieldIs 4 20 1 ∷ [])))) _ _ c.from_residual.ensures.1
    (fault_in_front c.args.bytes.now (FieldIs 2 16 2 ∷ []) ((FieldIs 2 18 243 ∷ []) ++ ((FieldIs 4 20 1 ∷ []))) _ c.in_err-expect_field.ensures)

pub returns-in_err-expect_field-2 : goal.returns-in_err-expect_field-2
returns-in_err-expect_field-2 c =
    handed_on c.args.bytes.now ((FieldIs 2 16 2 ∷ []) ++ ((FieldIs 2 18 243 ∷ []) ++ ((FieldIs 4 20 1 ∷ [])))) _ _
    c.from_residual-in_err-expect_field-2.ensures.1
    (fault_behind c.args.bytes.now (FieldIs 2 16 2 ∷ []) ((FieldIs 2 18 243 ∷ []) ++ ((FieldIs 4 20 1 ∷ []))) _ c.in_ok-expect_field.ensures
    (fault_in_front c.args.bytes.now (FieldIs 2 18 243 ∷ []) ((FieldIs 4 20 1 ∷ [])) _ c.in_err-expect_field-2.ensures))

pub returns : goal.returns
returns c =
    test_behind c.args.bytes.now (FieldIs 2 16 2 ∷ []) ((FieldIs 2 18 243 ∷ []) ++ ((FieldIs 4 20 1 ∷ []))) _ c.in_ok-expect_field.ensures
    (test_behind c.args.bytes.now (FieldIs 2 18 243 ∷ []) ((FieldIs 4 20 1 ∷ [])) _ c.in_ok-expect_field-2.ensures
    c.expect_field-3.ensures)
