-- A table that is given is that of its file.
use Rattle.ci_lat.specs.Faults.{AreTable}
use Rattle.ci_calls.specs.Files.{table_input, AreLatencies}
use Rattle.ci_calls.proofs.InputLaws.{named}
use Rattle.ci_calls.proofs.inputs.read_table.Goals as goal

pub returns-in-Some : goal.returns-in-Some
returns-in-Some g c =
    rw c.in-Some.is (named g.F.Shelf.read_may_fail g.F.Shelf.write_may_fail _ _ table_input _ AreTable AreLatencies
    c.read_table_file.result (λ bytes table is. is) c.read_table_file.ensures)
