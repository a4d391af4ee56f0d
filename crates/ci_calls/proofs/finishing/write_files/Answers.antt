-- The files up to the present one were written.
use Rattle.std.proofs.Common.{◌∙◌, ◌+◌, take, drop, [], ◌∷◌, ◌++◌, refl, ap, length, subst, arith}
use Rattle.std.proofs.lemmas.List.{take_all}
use Rattle.std.proofs.lemmas.Result.{err_from_is_err_and}
use Rattle.ci_io.specs.MadeCalls.{AreMade}
use Rattle.ci_io.proofs.CallLaws.{AreMade-append}
use Rattle.ci_calls.specs.Called.{writes_of}
use Rattle.ci_calls.proofs.CallsMade.{writes_of-append}
use Rattle.ci_calls.specs.Finishing.{AreWritten}
use Rattle.ci_calls.proofs.Writes.{AreWritten-more, written-more, written-split, none_written}
use Rattle.ci_calls.proofs.finishing.write_files.Goals as goal

pub loop-file-init : goal.loop-file-init
loop-file-init g c = record {
  written = none_written (g.F.Shelf.state c.args.shelf.now);
  called = refl;
  none = λ _. refl;
  never_falls = omega arith;
  no_read = refl;
}

pub loop-file-preserved : goal.loop-file-preserved
loop-file-preserved g c =
    let file = c.file-item.result in
    let i = c.loop-file.file-index in
    let grown = written-more c.args.writes.now i file c.loop-file-test.true c.file-item.is in
    record {
      written = rw grown
          (AreWritten-more (g.F.Shelf.state c.args.shelf.now) (g.F.Shelf.state c.loop-file.shelf) (g.F.Shelf.state c.write_file.new.shelf)
          (take i c.args.writes.now) file c.loop-file.invariant.written c.in_ok-write_file.ensures.written);
      called = rw (grown, writes_of-append (take i c.args.writes.now) (file ∷ []))
          (AreMade-append g.F.Shelf.read_may_fail g.F.Shelf.write_may_fail
          (g.F.Shelf.state c.args.shelf.now) (g.F.Shelf.state c.loop-file.shelf) (g.F.Shelf.state c.write_file.new.shelf)
          (writes_of (take i c.args.writes.now)) (writes_of (file ∷ [])) c.loop-file.invariant.called c.in_ok-write_file.ensures.called);
      none = λ zero. absurd (omega (arith, zero));
      never_falls = omega (arith, c.loop-file.invariant.never_falls, c.in_ok-write_file.ensures.never_falls);
      no_read = c.in_ok-write_file.ensures.no_read ∙ c.loop-file.invariant.no_read;
    }

pub returns-in_err-write_file-clause-unwritten : goal.returns-in_err-write_file-clause-unwritten
returns-in_err-write_file-clause-unwritten g c =
    let p = err_from_is_err_and c.from_residual.result c.from_residual.ensures.1 in
    let file = c.file-item.result in
    let i = c.loop-file.file-index in
    rw (p.1, p.2) (record {
      front = take i c.args.writes.now;
      failed = file;
      others = drop (i + 1) c.args.writes.now;
      in_order = written-split c.args.writes.now i file c.loop-file-test.true c.file-item.is;
      between = g.F.Shelf.state c.loop-file.shelf;
      front_written = c.loop-file.invariant.written;
      never_falls = c.loop-file.invariant.never_falls;
      unwritten = c.in_err-write_file.ensures.unwritten;
    })

pub returns-in_err-write_file-clause-no_read : goal.returns-in_err-write_file-clause-no_read
returns-in_err-write_file-clause-no_read g c = c.in_err-write_file.ensures.no_read ∙ c.loop-file.invariant.no_read

pub returns-clause-written : goal.returns-clause-written
returns-clause-written g c =
    let all = take_all c.loop-file.file-index c.args.writes.now (omega arith) in
    subst (λ writes. AreWritten (g.F.Shelf.state c.args.shelf.now) (g.F.Shelf.state c.loop-file.shelf) writes) all
    c.loop-file.invariant.written

pub returns-clause-none : goal.returns-clause-none
returns-clause-none g c = λ none. c.loop-file.invariant.none (omega (arith, ap length none))

pub returns-clause-no_read : goal.returns-clause-no_read
returns-clause-no_read g c = c.loop-file.invariant.no_read

pub returns-in_err-write_file-clause-not_all : goal.returns-in_err-write_file-clause-not_all
returns-in_err-write_file-clause-not_all g c =
    let p = err_from_is_err_and c.from_residual.result c.from_residual.ensures.1 in
    let file = c.file-item.result in
    let i = c.loop-file.file-index in
    let last = c.in_err-write_file.ensures.not_written in
    rw (p.1, p.2) (
      writes_of (take i c.args.writes.now) ++ last.0,
      AreMade-append g.F.Shelf.read_may_fail g.F.Shelf.write_may_fail
          (g.F.Shelf.state c.args.shelf.now) (g.F.Shelf.state c.loop-file.shelf) (g.F.Shelf.state c.write_file.new.shelf)
          (writes_of (take i c.args.writes.now)) last.0 c.loop-file.invariant.called last.1,
      record {
        front = take i c.args.writes.now;
        failed = file;
        others = drop (i + 1) c.args.writes.now;
        in_order = written-split c.args.writes.now i file c.loop-file-test.true c.file-item.is;
        last = last.0;
        calls_are = refl;
        unwritten = last.2;
      },
    )

pub returns-clause-called : goal.returns-clause-called
returns-clause-called g c =
    let all = take_all c.loop-file.file-index c.args.writes.now (omega arith) in
    subst (λ writes. AreMade g.F.Shelf.read_may_fail g.F.Shelf.write_may_fail
    (g.F.Shelf.state c.args.shelf.now) (g.F.Shelf.state c.loop-file.shelf) (writes_of writes)) all
    c.loop-file.invariant.called
