use Rattle.std.proofs.Common.{[], ◌∷◌, ◌++◌}
use Rattle.ci_elf.specs.Rules.{NamesNoInterpreter, HasFilePart, IsPlaced}
use Rattle.ci_elf.proofs.CheckLaws.{handed_on, fault_in_front, test_behind}
use Rattle.ci_elf.proofs.segments.check_segment.Goals as goal

pub returns-in_err-check_no_interpreter : goal.returns-in_err-check_no_interpreter
returns-in_err-check_no_interpreter c =
    handed_on c.args.bytes.now ((NamesNoInterpreter c.args.n ∷ []) ++ ((HasFilePart c.args.n ∷ IsPlaced c.args.n ∷ []))) _ _ c.from_residual.ensures.1
    (fault_in_front c.args.bytes.now (NamesNoInterpreter c.args.n ∷ [])
    ((HasFilePart c.args.n ∷ IsPlaced c.args.n ∷ [])) _ c.in_err-check_no_interpreter.ensures)

pub returns : goal.returns
returns c =
    test_behind c.args.bytes.now (NamesNoInterpreter c.args.n ∷ []) ((HasFilePart c.args.n ∷ IsPlaced c.args.n ∷ [])) _ c.in_ok-check_no_interpreter.ensures
    c.check_placement.ensures
