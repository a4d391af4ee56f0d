-- Modules that are given are those of their file.
use Rattle.std.proofs.Common.{refl, Some}
use Rattle.ci_calls.proofs.inputs.read_optional_units.Goals as goal

pub returns-in_ok-read_units-in-Some : goal.returns-in_ok-read_units-in-Some
returns-in_ok-read_units-in-Some g c =
    let read = c.in_ok-read_units-in-Some.ensures in
    rw c.in-Some.is (Some read.0, refl, read.1, read.2)
