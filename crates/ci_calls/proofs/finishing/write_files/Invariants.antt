use Rattle.std.proofs.Common.{◌≡◌, ◌≤◌, take}
use Rattle.ci_io.specs.MadeCalls.{AreMade}
use Rattle.ci_calls.specs.Called.{writes_of}
use Rattle.ci_calls.specs.Finishing.{AreWritten}
use Rattle.ci_calls.proofs.finishing.write_files.Given as goal

abbrev pub invariant-loop-file : goal.invariant-loop-file
invariant-loop-file g l = record {
  written : AreWritten (g.F.Shelf.state l.fn.shelf) (g.F.Shelf.state l.shelf) (take l.file-index l.writes);
  called : AreMade g.F.Shelf.read_may_fail g.F.Shelf.write_may_fail
      (g.F.Shelf.state l.fn.shelf) (g.F.Shelf.state l.shelf) (writes_of (take l.file-index l.writes));
  none : l.file-index ≡ 0 → (g.F.Shelf.state l.shelf).write_faults ≡ (g.F.Shelf.state l.fn.shelf).write_faults;
  never_falls : (g.F.Shelf.state l.fn.shelf).write_faults ≤ (g.F.Shelf.state l.shelf).write_faults;
  no_read : (g.F.Shelf.state l.shelf).read_faults ≡ (g.F.Shelf.state l.fn.shelf).read_faults;
}
