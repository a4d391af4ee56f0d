-- The files were written, and then the text put; or a fault line was.
use Rattle.ci_calls.specs.Finishing.{changed}
use Rattle.ci_calls.specs.Called.{writes_of, all_written}
use Rattle.ci_calls.proofs.CallsMade.{finishes_failed, finishes_without}
use Rattle.ci_calls.proofs.Writes.{Finishes-put, Finishes-unwritten, Finishes-no_memory}
use Rattle.ci_calls.proofs.finishing.finish.Goals as goal

pub returns-in-Ok-clause-finished : goal.returns-in-Ok-clause-finished
returns-in-Ok-clause-finished g c =
    let change = changed g.F.Shelf.read_may_fail g.F.Shelf.write_may_fail (g.F.Shelf.state c.args.shelf.now)
    (g.F.Shelf.state c.write_files.new.shelf) (g.O.Sink.state c.args.out.now)
    (g.O.Sink.state c.put_success.new.out) in
    let writes = rw c.as_slice.ensures.value at c.write_files.ensures in
    let written = rw c.as_slice.ensures.value at c.in-Ok.ensures.written in
    let put = rw c.as_slice-in-Ok.ensures.value at c.put_success.ensures.text_put in
    Finishes-put change c.args.success.now c.put_success.result (record { written = written; same_count = writes.none }) put

pub returns-in-Err-Fault-clause-finished : goal.returns-in-Err-Fault-clause-finished
returns-in-Err-Fault-clause-finished g c =
    let change = changed g.F.Shelf.read_may_fail g.F.Shelf.write_may_fail (g.F.Shelf.state c.args.shelf.now)
    (g.F.Shelf.state c.write_files.new.shelf) (g.O.Sink.state c.args.out.now)
    (g.O.Sink.state c.put_fault.new.out) in
    let unwritten = rw (c.as_slice.ensures.value, c.in-Err-Fault.field-0-is) at c.in-Err-Fault.ensures.unwritten in
    Finishes-unwritten change c.args.success.now c.in-Err-Fault.refusal c.in-Err-Fault.line _ c.put_fault.result
    unwritten c.as_str.ensures.value c.put_fault.ensures.status c.put_fault.ensures.put

pub returns-in-Err-NoMemory-clause-finished : goal.returns-in-Err-NoMemory-clause-finished
returns-in-Err-NoMemory-clause-finished g c =
    let change = changed g.F.Shelf.read_may_fail g.F.Shelf.write_may_fail (g.F.Shelf.state c.args.shelf.now)
    (g.F.Shelf.state c.write_files.new.shelf) (g.O.Sink.state c.args.out.now)
    (g.O.Sink.state c.refuse_memory.new.out) in
    let unwritten = rw (c.as_slice.ensures.value, c.in-Err-NoMemory.field-0-is) at c.in-Err-NoMemory.ensures.unwritten in
    Finishes-no_memory change c.args.success.now c.refuse_memory.result unwritten c.refuse_memory.ensures.status c.refuse_memory.ensures.put

-- ---- the calls

pub returns-in-Ok-clause-called : goal.returns-in-Ok-clause-called
returns-in-Ok-clause-called g c =
    let made = rw c.as_slice.ensures.value at c.in-Ok.ensures.called in
    let put = rw c.as_slice-in-Ok.ensures.value at c.put_success.ensures.called in
    (writes_of c.args.success.now.writes.items, put.0, made, put.1, all_written put.0 c.put_success.result put.2)

pub returns-in-Err-Fault-clause-called : goal.returns-in-Err-Fault-clause-called
returns-in-Err-Fault-clause-called g c =
    let made = rw (c.as_slice.ensures.value, c.in-Err-Fault.field-0-is) at c.in-Err-Fault.ensures.not_all in
    let put = c.put_fault.ensures.called in (
      made.0,
      put.0,
      made.1,
      put.1,
      finishes_failed c.args.success.now made.0 put.0 c.put_fault.result c.in-Err-Fault.refusal c.in-Err-Fault.line _ made.2
          c.as_str.ensures.value put.2 c.put_fault.ensures.status,
    )

pub returns-in-Err-NoMemory-clause-called : goal.returns-in-Err-NoMemory-clause-called
returns-in-Err-NoMemory-clause-called g c =
    let made = rw (c.as_slice.ensures.value, c.in-Err-NoMemory.field-0-is) at c.in-Err-NoMemory.ensures.not_all in
    let put = c.refuse_memory.ensures.called in (
      made.0,
      put.0,
      made.1,
      put.1,
      finishes_without c.args.success.now made.0 put.0 c.refuse_memory.result made.2 put.2 c.refuse_memory.ensures.status,
    )
