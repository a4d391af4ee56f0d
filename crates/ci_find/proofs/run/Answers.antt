-- What follows from how a call ends.
use Rattle.std.proofs.Common.{refl}
use Rattle.ci_find.proofs.Causes.{EndsBy-cause}
use Rattle.ci_find.proofs.ChosenByCalls.{EndsBy-chosen}
use Rattle.ci_find.proofs.ChosenFiles.{Ends-chosen}
use Rattle.ci_find.proofs.FirstCalls.{EndsBy-first}
use Rattle.ci_find.proofs.Kept.{Ends-files_stay, Ends-left, Ends-complete, Ends-printed}
use Rattle.ci_find.proofs.NoWrites.{EndsBy-stays}
use Rattle.ci_find.proofs.RenamedByCalls.{EndsBy-renamed}
use Rattle.ci_find.proofs.RenamedOverFiles.{Ends-renamed}
use Rattle.ci_find.proofs.Runs.{Ends-status, Answers-due}
use Rattle.ci_find.proofs.SinceCalls.{made_since, put_since, ends_since}
use Rattle.ci_find.proofs.WrittenCalls.{EndsBy-left}
use Rattle.ci_find.proofs.run.Goals as goal

pub returns-clause-called : goal.returns-clause-called
returns-clause-called g c =
    made_since g.F.Shelf.read_may_fail g.F.Shelf.write_may_fail (g.F.Shelf.state c.args.shelf.now)
    (g.F.Shelf.state c.answer.new.shelf) (g.O.Sink.state c.args.out.now) (g.O.Sink.state c.answer.new.out) _ _
    c.answer.ensures.called

pub returns-clause-put : goal.returns-clause-put
returns-clause-put g c =
    put_since g.F.Shelf.read_may_fail g.F.Shelf.write_may_fail (g.F.Shelf.state c.args.shelf.now)
    (g.F.Shelf.state c.answer.new.shelf) (g.O.Sink.state c.args.out.now) (g.O.Sink.state c.answer.new.out) _ _
    c.answer.ensures.called

pub returns-clause-ends_by : goal.returns-clause-ends_by
returns-clause-ends_by g c =
    ends_since g.F.Shelf.read_may_fail g.F.Shelf.write_may_fail (g.F.Shelf.state c.args.shelf.now)
    (g.F.Shelf.state c.answer.new.shelf) (g.O.Sink.state c.args.out.now) (g.O.Sink.state c.answer.new.out) _ _
    c.answer.ensures.called

pub returns-clause-cause : goal.returns-clause-cause
returns-clause-cause g c =
    EndsBy-cause _ _ _ _
    (ends_since g.F.Shelf.read_may_fail g.F.Shelf.write_may_fail (g.F.Shelf.state c.args.shelf.now)
    (g.F.Shelf.state c.answer.new.shelf) (g.O.Sink.state c.args.out.now) (g.O.Sink.state c.answer.new.out) _ _
    c.answer.ensures.called)

pub returns-clause-no_write : goal.returns-clause-no_write
returns-clause-no_write g c =
    EndsBy-stays _ _ _ _
    (ends_since g.F.Shelf.read_may_fail g.F.Shelf.write_may_fail (g.F.Shelf.state c.args.shelf.now)
    (g.F.Shelf.state c.answer.new.shelf) (g.O.Sink.state c.args.out.now) (g.O.Sink.state c.answer.new.out) _ _
    c.answer.ensures.called)

pub returns-clause-writes : goal.returns-clause-writes
returns-clause-writes g c =
    EndsBy-left _ _ _ _
    (ends_since g.F.Shelf.read_may_fail g.F.Shelf.write_may_fail (g.F.Shelf.state c.args.shelf.now)
    (g.F.Shelf.state c.answer.new.shelf) (g.O.Sink.state c.args.out.now) (g.O.Sink.state c.answer.new.out) _ _
    c.answer.ensures.called)

pub returns-clause-headline : goal.returns-clause-headline
returns-clause-headline g c =
    EndsBy-chosen _ _ _ _
    (ends_since g.F.Shelf.read_may_fail g.F.Shelf.write_may_fail (g.F.Shelf.state c.args.shelf.now)
    (g.F.Shelf.state c.answer.new.shelf) (g.O.Sink.state c.args.out.now) (g.O.Sink.state c.answer.new.out) _ _
    c.answer.ensures.called)

pub returns-clause-renamed : goal.returns-clause-renamed
returns-clause-renamed g c =
    EndsBy-renamed _ _ _ _
    (ends_since g.F.Shelf.read_may_fail g.F.Shelf.write_may_fail (g.F.Shelf.state c.args.shelf.now)
    (g.F.Shelf.state c.answer.new.shelf) (g.O.Sink.state c.args.out.now) (g.O.Sink.state c.answer.new.out) _ _
    c.answer.ensures.called)

pub returns-clause-first_files : goal.returns-clause-first_files
returns-clause-first_files g c =
    EndsBy-first _ _ _ _
    (ends_since g.F.Shelf.read_may_fail g.F.Shelf.write_may_fail (g.F.Shelf.state c.args.shelf.now)
    (g.F.Shelf.state c.answer.new.shelf) (g.O.Sink.state c.args.out.now) (g.O.Sink.state c.answer.new.out) _ _
    c.answer.ensures.called)

pub returns-clause-due : goal.returns-clause-due
returns-clause-due g c = Answers-due _ _ _ c.answer.ensures.ends _ refl

pub returns-clause-statuses : goal.returns-clause-statuses
returns-clause-statuses g c = Ends-status _ _ _ c.answer.ensures.ends

pub returns-clause-files_stay : goal.returns-clause-files_stay
returns-clause-files_stay g c = Ends-files_stay _ _ _ c.answer.ensures.ends

pub returns-clause-left : goal.returns-clause-left
returns-clause-left g c = Ends-left _ _ _ c.answer.ensures.ends

pub returns-clause-headline_over_files : goal.returns-clause-headline_over_files
returns-clause-headline_over_files g c = Ends-chosen _ _ _ c.answer.ensures.ends

pub returns-clause-renamed_over_files : goal.returns-clause-renamed_over_files
returns-clause-renamed_over_files g c = Ends-renamed _ _ _ c.answer.ensures.ends

pub returns-clause-complete : goal.returns-clause-complete
returns-clause-complete g c = Ends-complete _ _ _ c.answer.ensures.ends

pub returns-clause-printed : goal.returns-clause-printed
returns-clause-printed g c = Ends-printed _ _ _ c.answer.ensures.ends
