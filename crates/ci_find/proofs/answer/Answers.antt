-- A call ends with the success that is due or with a refusal.
use Rattle.ci_io.proofs.CallLaws.{AreMade-append}
use Rattle.ci_calls.specs.Finishing.{changed}
use Rattle.ci_calls.proofs.Writes.{Finishes-earlier}
use Rattle.ci_find.specs.Endings.{finished}
use Rattle.ci_find.specs.EndsBy as by
use Rattle.ci_find.proofs.CallsOverFiles.{due_over_files}
use Rattle.ci_find.proofs.Runs.{Ends-refused}
use Rattle.ci_find.proofs.answer.Goals as goal

pub returns-in-Ok-clause-called : goal.returns-in-Ok-clause-called
returns-in-Ok-clause-called g c =
    let (reads, made, due) = c.in-Ok.ensures.done in
    let (writes, puts, more, put, finishes) = c.finish.ensures.called in (
      _,
      puts,
      AreMade-append g.F.Shelf.read_may_fail g.F.Shelf.write_may_fail _ _ _ reads writes made more,
      put,
      by.finished reads writes puts _ _ due finishes,
    )

pub returns-in-Err-clause-called : goal.returns-in-Err-clause-called
returns-in-Err-clause-called g c =
    let (reads, made, due) = c.in-Err.ensures.refused in
    let (puts, put, ends) = c.refuse.ensures.called in
    (reads, puts, made, put, by.refused reads puts _ _ due ends)

pub returns-in-Ok-clause-ends : goal.returns-in-Ok-clause-ends
returns-in-Ok-clause-ends g c =
    let change = changed g.F.Shelf.read_may_fail g.F.Shelf.write_may_fail (g.F.Shelf.state c.evaluate.new.shelf)
    (g.F.Shelf.state c.finish.new.shelf) (g.O.Sink.state c.args.out.now) (g.O.Sink.state c.finish.new.out) in
    let (reads, made, due) = c.in-Ok.ensures.done in
    let over =
    due_over_files g.F.Shelf.read_may_fail g.F.Shelf.write_may_fail (g.F.Shelf.state c.args.shelf.now)
    (g.F.Shelf.state c.evaluate.new.shelf) reads made _ _ due in
    finished over.0 (Finishes-earlier change
    (g.F.Shelf.state c.args.shelf.now) over.1.files over.1.writes _ _ c.finish.ensures.finished)

pub returns-in-Err-clause-ends : goal.returns-in-Err-clause-ends
returns-in-Err-clause-ends g c =
    let (reads, made, due) = c.in-Err.ensures.refused in
    Ends-refused _ _ _ reads _ due made c.refuse.ensures.ended
