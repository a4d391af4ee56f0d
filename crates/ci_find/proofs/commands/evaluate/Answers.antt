-- What is due to the reading of the words is due to them, and words with no reading are refused by usage.
use Rattle.std.proofs.Common.{map, [], refl}
use Rattle.std.specs.String.{string_bytes}
use Rattle.ci_arguments.specs.Read.{reading_of}
use Rattle.ci_arguments.specs.Words.{HasNoReading, ReadsAs}
use Rattle.ci_find.specs.EndsBy.{usage, no_memory}
use Rattle.ci_find.proofs.DueCalls.{due_by_calls, refused_by_calls}
use Rattle.ci_find.proofs.commands.evaluate.Goals as goal

pub returns-in-Ok-clause-done : goal.returns-in-Ok-clause-done
returns-in-Ok-clause-done g c =
    let reads_as : ReadsAs (map string_bytes c.args.words.now.items) (reading_of c.in-Ok.said) =
    rw c.as_slice.ensures.value at c.in-Ok.ensures.ok in
    due_by_calls g.F.Shelf.read_may_fail g.F.Shelf.write_may_fail (g.F.Shelf.state c.args.shelf.now)
    (g.F.Shelf.state c.evaluate_command.new.shelf) (map string_bytes c.args.words.now.items) (reading_of c.in-Ok.said)
    reads_as c.command.result c.command.ensures c.evaluate_command.result c.evaluate_command.ensures

pub returns-in-Ok-clause-refused : goal.returns-in-Ok-clause-refused
returns-in-Ok-clause-refused g c =
    let reads_as : ReadsAs (map string_bytes c.args.words.now.items) (reading_of c.in-Ok.said) =
    rw c.as_slice.ensures.value at c.in-Ok.ensures.ok in
    refused_by_calls g.F.Shelf.read_may_fail g.F.Shelf.write_may_fail (g.F.Shelf.state c.args.shelf.now)
    (g.F.Shelf.state c.evaluate_command.new.shelf) (map string_bytes c.args.words.now.items) (reading_of c.in-Ok.said)
    reads_as c.command.result c.command.ensures c.evaluate_command.result c.evaluate_command.ensures

pub returns-in-Err-NoReading-clause-refused : goal.returns-in-Err-NoReading-clause-refused
returns-in-Err-NoReading-clause-refused g c =
    let none : HasNoReading (map string_bytes c.args.words.now.items) =
    rw c.as_slice.ensures.value at (c.in-Err-NoReading.ensures.no_reading c.in-Err-NoReading.field-0-is) in
    ([], refl, usage none)

pub returns-in-Err-NoMemory-clause-refused : goal.returns-in-Err-NoMemory-clause-refused
returns-in-Err-NoMemory-clause-refused g c = ([], refl, no_memory)
