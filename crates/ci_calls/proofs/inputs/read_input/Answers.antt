-- An input that is given is the bytes of its file.
use Rattle.ci_calls.proofs.InputLaws.{input_given}
use Rattle.ci_calls.proofs.inputs.read_input.Goals as goal

pub returns-in-Some : goal.returns-in-Some
returns-in-Some g c =
    let file = c.read_file.ensures in
    rw c.in-Some.is (input_given g.F.Shelf.read_may_fail g.F.Shelf.write_may_fail _ _ _ c.read_file.result file.read
    file.within_limit file.refused)
