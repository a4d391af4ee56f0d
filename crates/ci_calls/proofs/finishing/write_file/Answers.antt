-- A write that ran out of memory was made, and left the files.
use Rattle.std.proofs.Common.{[], ◌∷◌, Err, ap, inr, refl}
use Rattle.ci_io.specs.declared.shelves.ShelfErr.TheVariants as shelf
use Rattle.ci_io.specs.CallLists.{write}
use Rattle.ci_io.proofs.CallLaws.{AreMade-write}
use Rattle.ci_calls.proofs.finishing.write_file.Goals as goal

pub returns-in-Err-NoMemory-clause-not_written : goal.returns-in-Err-NoMemory-clause-not_written
returns-in-Err-NoMemory-clause-not_written g c =
    let e = c.in-Err-NoMemory.ensures in
    let name = c.args.file.now.name.now in
    let bytes = c.args.file.now.bytes.items in
    let called = rw (c.as_slice.ensures.value, c.in-Err-NoMemory.field-0-is) at e.called in (
      write name bytes (Err shelf.NoMemory) ∷ [],
      AreMade-write g.F.Shelf.read_may_fail g.F.Shelf.write_may_fail (g.F.Shelf.state c.args.shelf.now)
          (g.F.Shelf.state c.write.new.self) name bytes (Err shelf.NoMemory) called
          (e.no_memory (ap Err c.in-Err-NoMemory.field-0-is)) (λ fault. absurd cc) (λ fault. absurd cc) e.never_falls
          e.reads_stay,
      inr refl,
    )
